-- An early fault is the fault of every text that goes on from there.
use Rattle.std.proofs.Common.{◌≡◌, ◌<◌, ℕ, ◌+◌, false, List, [], ◌∷◌, ◌++◌, length, refl, ap, ◌∙◌, sym, arith}
use Rattle.std.proofs.Common.{inl, inr, append-nil, length-append, Option, Some, None, Err}
use Rattle.std.proofs.lemmas.Bool.{cases_Bool, cases_lt}
use Rattle.std.specs.List.{slice_split, onto_first}
use Rattle.std.proofs.lemmas.List.Splits.{slice_split-cons_no, length-slice_split}
use Rattle.std.proofs.lemmas.List.Elements.{All-head, All-tail}
use Rattle.flow_text.specs.Lines.{ended, rest, lines}
use Rattle.flow_text.specs.LineParts.{front, last_part, is_end, HasNoEnd}
use Rattle.flow_text.specs.Rules.{Rules, first_fault, early_fault, whole_fault, at_line, is_comment, length_fault}
use Rattle.flow_text.specs.Reading.{told, accepted}
use Rattle.flow_text.specs.declared.faults.FaultCode.{FaultCode}
use Rattle.flow_text.specs.declared.faults.FaultCode.TheVariants.{LineTooLong}
use Rattle.flow_text.proofs.LineLemmas.{front-cons, rest_is, ended-append, rest-append}
use Rattle.flow_text.proofs.RuleLemmas.{of_long, length_fault-long, length_fault-short}
use Rattle.flow_text.proofs.FaultLemmas.{first_fault-append, first_fault-push}
use Rattle.flow_text.proofs.ReaderLemmas.{comment-append}
use Rattle.flow_text.proofs.EndLemmas.{lines-some, lines-none, closes-fault}
use Rattle.flow_text.specs.declared.limits.TheConstants.{LONGEST_LINE}

-- what a line and more is cut into begins with the line
pub record Begins (r x : List ℕ) : Type 0 where
  pub line : List ℕ
  pub parts : List (List ℕ)
  pub is : slice_split is_end (r ++ x) ≡ (r ++ line) ∷ parts

first_part : (parts : List (List ℕ)) → 0 < length parts
    → (line : List ℕ) × (others : List (List ℕ)) × (parts ≡ line ∷ others)
first_part [] h = absurd (omega arith)
first_part (line ∷ others) h = (line, others, refl)

begins : (r x : List ℕ) → HasNoEnd r → Begins r x
begins [] x none =
    let p = first_part (slice_split is_end x) (omega (arith, length-slice_split is_end x)) in
    record { line = p.0; parts = p.1; is = p.2 }
begins (c ∷ r) x none =
    let h = begins r x (All-tail (λ c. is_end c ≡ false) c r none) in
    record {
      line = h.line;
      parts = h.parts;
      is = slice_split-cons_no is_end c (r ++ x) (All-head (λ c. is_end c ≡ false) c r none) ∙ ap (onto_first c) h.is;
    }

-- a line that is too long already stays so, whatever follows: it goes on, or it ends
long-more : (r l : List ℕ) → is_comment r ≡ false → LONGEST_LINE < length r
    → (is_comment (r ++ l) ≡ false) × (LONGEST_LINE < length (r ++ l))
long-more r l plain long = (comment-append r l (omega arith) ∙ plain, omega (arith, length-append r l))

length_fault-is : (r : List ℕ) (code : FaultCode) → length_fault r ≡ Some code
    → (is_comment r ≡ false) × (LONGEST_LINE < length r) × (code ≡ LineTooLong)
length_fault-is r code h = elim (cases_Bool (is_comment r)) [
  | inl yes' ↦ let no' : ◌≡◌ {A = Option FaultCode} None (Some code) = rw (yes') at h in cc
  | inr no' ↦ elim (cases_lt LONGEST_LINE (length r)) [
    | inl long ↦ let e = sym (length_fault-long r no' long) ∙ h in (no', long, cc)
    | inr short ↦
        let none : ◌≡◌ {A = Option FaultCode} None (Some code) = sym (length_fault-short r no' (omega arith)) ∙ h in cc
  ]
]

-- the first fault of a text whose line is too long already
too_long_in : {K : Type 0} (rules : Rules K) (known_of : List (List ℕ) → K) (b x l : List ℕ) (parts : List (List ℕ))
    → slice_split is_end (rest b ++ x) ≡ (rest b ++ l) ∷ parts
    → is_comment (rest b) ≡ false → LONGEST_LINE < length (rest b) → first_fault rules known_of [] (ended b) ≡ None
    → early_fault rules known_of (b ++ x) ≡ Some (told (length (ended b) + 1), LineTooLong)
unfolding early_fault first_fault ended rest
too_long_in rules known_of b x l [] is plain long fine =
    let after = long-more (rest b) l plain long in
    let ended_is : ended (rest b ++ x) ≡ [] = ap front is in
    let rest_is' : rest (rest b ++ x) ≡ rest b ++ l = ap last_part is in
    rw (
      ended-append b x,
      rest-append b x,
      ended_is,
      rest_is',
      append-nil (ended b),
      fine,
      length_fault-long (rest b ++ l) after.0 after.1,
    ) refl
too_long_in rules known_of b x l (next ∷ parts) is plain long fine =
    let after = long-more (rest b) l plain long in
    let ended_is : ended (rest b ++ x) ≡ (rest b ++ l) ∷ front (next ∷ parts) =
    ap front is ∙ front-cons (rest b ++ l) (next ∷ parts) (omega arith) in
    rw (
      ended-append b x,
      ended_is,
      first_fault-append rules known_of [] (ended b) ((rest b ++ l) ∷ front (next ∷ parts)),
      fine,
      of_long rules (known_of (ended b)) (rest b ++ l) after.0 after.1,
    ) refl

too_long : {K : Type 0} (rules : Rules K) (known_of : List (List ℕ) → K) (b x : List ℕ) → is_comment (rest b) ≡ false
    → LONGEST_LINE < length (rest b) → first_fault rules known_of [] (ended b) ≡ None
    → early_fault rules known_of (b ++ x) ≡ Some (told (length (ended b) + 1), LineTooLong)
too_long rules known_of b x plain long fine =
    let h = begins (rest b) x (rest_is b) in
    too_long_in rules known_of b x h.line h.parts h.is plain long fine

-- where an early fault comes from
pub record Unended (b : List ℕ) (fault : ℕ × FaultCode) : Type 0 where
  pub plain : is_comment (rest b) ≡ false
  pub long : LONGEST_LINE < length (rest b)
  pub is : (told (length (ended b) + 1), LineTooLong) ≡ fault

unended_from : (b : List ℕ) (fault : ℕ × FaultCode) (u : Option FaultCode) → length_fault (rest b) ≡ u
    → at_line (length (ended b) + 1) u ≡ Some fault → Unended b fault
unended_from b fault None is h = cc
unended_from b fault (Some code) is h =
    let u = length_fault-is (rest b) code is in
    let same : (told (length (ended b) + 1), code) ≡ fault = cc in
    record { plain = u.0; long = u.1; is = ap (λ (c : FaultCode). (told (length (ended b) + 1), c)) (sym u.2) ∙ same }

early_from : {K : Type 0} (rules : Rules K) (known_of : List (List ℕ) → K) (b : List ℕ) (fault : ℕ × FaultCode)
    → early_fault rules known_of b ≡ Some fault → first_fault rules known_of [] (ended b) ≡ None
    → Unended b fault
unfolding early_fault
early_from rules known_of b fault h none = unended_from b fault _ refl (rw none at h)

stays : {K : Type 0} (rules : Rules K) (known_of : List (List ℕ) → K) (b x : List ℕ) (fault : ℕ × FaultCode)
    (f : Option (ℕ × FaultCode)) → first_fault rules known_of [] (ended b) ≡ f
    → early_fault rules known_of b ≡ Some fault → early_fault rules known_of (b ++ x) ≡ Some fault
unfolding early_fault
stays rules known_of b x fault None is h =
    let u = early_from rules known_of b fault h is in
    too_long rules known_of b x u.plain u.long is ∙ ap Some u.is
stays rules known_of b x fault (Some f) is h =
    rw (ended-append b x, first_fault-append rules known_of [] (ended b) (ended (rest b ++ x)), is) (rw is at h)

whole : {K : Type 0} (rules : Rules K) (known_of : List (List ℕ) → K) (b : List ℕ) (fault : ℕ × FaultCode)
    (f : Option (ℕ × FaultCode)) → first_fault rules known_of [] (ended b) ≡ f
    → early_fault rules known_of b ≡ Some fault → first_fault rules known_of [] (lines b) ≡ Some fault
unfolding early_fault
whole rules known_of b fault None is h =
    let u = early_from rules known_of b fault h is in
    rw (
      lines-some b (omega (arith, u.long)),
      first_fault-push rules known_of (ended b) (rest b),
      is,
      of_long rules (known_of (ended b)) (rest b) u.plain u.long,
    ) (ap Some u.is)
whole rules known_of b fault (Some f) is h = elim (cases_lt 0 (length (rest b))) [
  | inl some ↦ rw (lines-some b some, first_fault-push rules known_of (ended b) (rest b), is) (rw is at h)
  | inr none ↦ rw (lines-none b (omega arith)) (is ∙ rw is at h)
]

-- an early fault is the fault of the whole text, and of each that goes on
pub early-whole : {K : Type 0} {A : Type 0} (rules : Rules K) (known_of : List (List ℕ) → K) (said : A) (b x : List ℕ)
    (fault : ℕ × FaultCode) → early_fault rules known_of b ≡ Some fault
    → accepted said (whole_fault rules known_of (b ++ x)) ≡ Err fault
early-whole rules known_of said b x fault h =
    let early = stays rules known_of b x fault _ refl h in
    rw (closes-fault rules known_of (b ++ x) fault (whole rules known_of (b ++ x) fault _ refl early)) refl
