-- What a reader is after a line's end, or after more of a line.
use Rattle.std.proofs.Common.{◌≡◌, ◌<◌, ◌≤◌, ℕ, ◌+◌, true, false, List, [], ◌∷◌, ◌++◌, length, refl, ap, ◌∙◌, sym}
use Rattle.std.proofs.Common.{arith, inl, inr, length-append, Some, None}
use Rattle.std.proofs.lemmas.Bool.{cases_Bool}
use Rattle.flow_text.specs.Lines.{ended, rest}
use Rattle.flow_text.specs.LineParts.{HasNoEnd}
use Rattle.flow_text.specs.Rules.{Rules, fault_of, early_fault, at_line, is_comment, length_fault}
use Rattle.flow_text.specs.Reading.{told, State, HasRead, Adds, with_line, Ends, Fails, Buffers, partial_of, TellsAt}
use Rattle.flow_text.specs.declared.faults.FaultCode.TheVariants.{LineTooLong}
use Rattle.flow_text.specs.declared.machine.Refusal.{Refusal}
use Rattle.flow_text.specs.declared.machine.Refusal.TheVariants.{Code, Memory}
use Rattle.flow_text.proofs.LineLemmas.{ended_within, rest_within, ended_by, rest_by}
use Rattle.flow_text.proofs.RuleLemmas.{of_comment, length_fault-long, length_fault-short}
use Rattle.flow_text.proofs.FaultLemmas.{early-ended, early-fault, early-within}
use Rattle.flow_text.specs.declared.limits.TheConstants.{LONGEST_LINE}

-- a line begins as its front does
pub comment-append : (front tail : List ℕ) → 0 < length front → is_comment (front ++ tail) ≡ is_comment front
comment-append [] tail h = absurd (omega arith)
comment-append (c ∷ front) tail h = refl

pub comment-front : (front tail : List ℕ) → is_comment front ≡ true → is_comment (front ++ tail) ≡ true
comment-front [] tail h = cc
comment-front (c ∷ front) tail h = h

partial_of-plain : (line : List ℕ) → is_comment line ≡ false → partial_of line ≡ line
partial_of-plain line h = rw h refl

pub told-more : (n : ℕ) → told (told n + 1) ≡ told (n + 1)
told-more n = omega arith

within_limit : (line : List ℕ) (k : ℕ) → length (partial_of line) ≤ LONGEST_LINE → at_line k (length_fault line) ≡ None
within_limit line k short = elim (cases_Bool (is_comment line)) [
  | inl yes' ↦ rw yes' refl
  | inr no' ↦
      let len : length line ≤ LONGEST_LINE = rw (partial_of-plain line no') at short in
      rw (length_fault-short line no' len) refl
]

-- for one kind of text: its rules, and what is known of its lines
module _ {K : Type 0} (rules : Rules K) (known_of : List (List ℕ) → K) where
  -- what is buffered of a line that is no comment
  pub partial_plain : (old : State K) (b : List ℕ) → HasRead rules known_of old b → old.comment ≡ false
      → old.partial ≡ rest b
  partial_plain old b r h = r.buffered ∙ partial_of-plain (rest b) (sym r.in_comment ∙ h)

  -- the line that has ended is judged, a comment too
  pub judged : (with_record : K → List (List ℕ) → K) (old new : State K) (b tail : List ℕ) (count : ℕ)
      → HasRead rules known_of old b → Ends rules with_record old tail count new
      → (fault_of rules (known_of (ended b)) (rest b ++ tail) ≡ None)
      × (new.known ≡ with_line with_record (known_of (ended b)) (rest b ++ tail))
  judged with_record old new b tail count r e = elim (cases_Bool old.comment) [
    | inl yes' ↦
        let of = of_comment rules with_record (known_of (ended b)) (rest b ++ tail)
        (comment-front (rest b) tail (sym r.in_comment ∙ yes')) in
        (of.0, e.skipped yes' ∙ r.knows ∙ of.1)
    | inr no' ↦
        let j = e.judged no' in
        rw (← partial_plain old b r no', ← r.knows) j
  ]

  pub HasRead-ends : (with_record : K → List (List ℕ) → K) → Adds rules known_of with_record
      → (old new : State K) (b tail : List ℕ) → HasNoEnd tail → HasRead rules known_of old b
      → Ends rules with_record old tail (told (old.count + 1)) new → HasRead rules known_of new (b ++ (tail ++ 10 ∷ []))
  HasRead-ends with_record adds old new b tail none r e =
      let j = judged with_record old new b tail _ r e in
      record {
        going = e.going ∙ r.going;
        counts = e.counts ∙ rw (r.counts, told-more (length (ended b)), ended_by b tail none, length-append) refl;
        knows = j.1 ∙ sym (ap known_of (ended_by b tail none) ∙ adds (ended b) (rest b ++ tail) j.0);
        in_comment = e.in_comment ∙ rw (rest_by b tail none) refl;
        buffered = e.buffered ∙ rw (rest_by b tail none) refl;
        fine = early-ended rules known_of b tail none r.fine j.0;
      }

  -- a line's fault stays, whatever follows
  pub Tells-ends : (old new : State K) (b tail more : List ℕ) (refusal : Refusal) → HasNoEnd tail
      → HasRead rules known_of old b → Fails rules old tail refusal new
      → TellsAt new.count refusal (early_fault rules known_of ((b ++ (tail ++ 10 ∷ [])) ++ more))
  Tells-ends old new b tail more Memory none r h = tt
  Tells-ends old new b tail more (Code code) none r h =
      let is : fault_of rules (known_of (ended b)) (rest b ++ tail) ≡ Some code =
      rw (← partial_plain old b r h.plain, ← r.knows) h.tells in
      early-fault rules known_of b tail more code none r.fine is
      ∙ ap (λ (n : ℕ). Some (n, code))
      (sym (told-more (length (ended b))) ∙ ap (λ (n : ℕ). told (n + 1)) (sym (h.counts ∙ r.counts)))

  -- what is buffered of the line as far as it has come
  after : (old new : State K) (b tail : List ℕ) → HasRead rules known_of old b → Buffers old tail new
      → (new.comment ≡ is_comment (rest b ++ tail)) × (new.partial ≡ partial_of (rest b ++ tail))
  after old new b tail r e = elim (cases_Bool old.comment) [
    | inl yes' ↦
        let was = sym r.in_comment ∙ yes' in
        let is = comment-front (rest b) tail was in
        ((e.skipped yes').0 ∙ sym is, (e.skipped yes').1 ∙ r.buffered ∙ rw (was, is) refl)
    | inr no' ↦ rw (← partial_plain old b r no') (e.in_comment no', e.buffered no')
  ]

  pub HasRead-buffers : (old new : State K) (b tail : List ℕ) → HasNoEnd tail → HasRead rules known_of old b
      → Buffers old tail new → HasRead rules known_of new (b ++ tail)
  HasRead-buffers old new b tail none r e =
      let is_partial : (new.comment ≡ is_comment (rest b ++ tail)) × (new.partial ≡ partial_of (rest b ++ tail)) =
      after old new b tail r e in
      record {
        going = e.going ∙ r.going;
        counts = e.counts ∙ r.counts ∙ rw (ended_within b tail none) refl;
        knows = e.knows ∙ r.knows ∙ rw (ended_within b tail none) refl;
        in_comment = is_partial.0 ∙ rw (rest_within b tail none) refl;
        buffered = is_partial.1 ∙ rw (rest_within b tail none) refl;
        fine =
            early-within rules known_of b tail none r.fine
            ∙ within_limit (rest b ++ tail) _ (rw (is_partial.1) at e.short);
      }

  pub Tells-buffers : (old new : State K) (b tail : List ℕ) (refusal : Refusal) → HasNoEnd tail
      → HasRead rules known_of old b → (old.comment ≡ false) × (new.count ≡ old.count)
      × (is_comment (old.partial ++ tail) ≡ false) × (LONGEST_LINE < length (old.partial ++ tail))
      × (refusal ≡ Code LineTooLong) → TellsAt new.count refusal (early_fault rules known_of (b ++ tail))
  Tells-buffers old new b tail refusal none r h =
      let plain : is_comment (rest b ++ tail) ≡ false = rw (← partial_plain old b r h.0) h.2 in
      let len : LONGEST_LINE < length (rest b ++ tail) = rw (← partial_plain old b r h.0) h.3 in
      rw (h.4, early-within rules known_of b tail none r.fine, length_fault-long (rest b ++ tail) plain len)
      (ap (λ (n : ℕ). Some (n, LineTooLong))
      (sym (told-more (length (ended b))) ∙ ap (λ (n : ℕ). told (n + 1)) (sym (h.1 ∙ r.counts))))
