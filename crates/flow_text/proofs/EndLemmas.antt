-- What a reader knows once the text has ended.
use Rattle.std.proofs.Common.{◌≡◌, ◌<◌, ℕ, ◌+◌, true, false, List, [], ◌∷◌, ◌++◌, length, refl, ap, ◌∙◌, sym, arith}
use Rattle.std.proofs.Common.{append-nil, length-append, Option, Some, None, Result, Ok, Err, nat_lt}
use Rattle.std.proofs.Common.{rules as std_rules}
use Rattle.flow_text.specs.Lines.{ended, rest, lines}
use Rattle.flow_text.specs.Rules.{Rules, fault_of, is_comment, first_fault, whole_fault}
use Rattle.flow_text.specs.Reading.{told, accepted, State, HasRead, Adds, with_line, EndsLine, Finals, TellsAt, Tells}
use Rattle.flow_text.specs.Reading.{AnswersAs, fault_from}
use Rattle.flow_text.specs.declared.faults.FaultCode.{FaultCode}
use Rattle.flow_text.specs.declared.faults.ReadFault.{ReadFault}
use Rattle.flow_text.specs.declared.faults.ReadFault.TheVariants.{Fault, OutOfMemory}
use Rattle.flow_text.specs.declared.machine.Refusal.{Refusal}
use Rattle.flow_text.specs.declared.machine.Refusal.TheVariants.{Code, Memory}
use Rattle.flow_text.proofs.FaultLemmas.{first_fault-push, early-parts}
use Rattle.flow_text.proofs.ReaderLemmas.{judged, partial_plain, told-more}

pub lines-some : (b : List ℕ) → 0 < length (rest b) → lines b ≡ ended b ++ rest b ∷ []
unfolding lines
lines-some b h = let is : nat_lt 0 (length (rest b)) ≡ true = search (std_rules, arith) in rw is refl

pub lines-none : (b : List ℕ) → length (rest b) ≡ 0 → lines b ≡ ended b
unfolding lines
lines-none b h = let is : nat_lt 0 (length (rest b)) ≡ false = search (std_rules, arith) in rw is (append-nil _)

pub comment-some : (line : List ℕ) → is_comment line ≡ true → 0 < length line
comment-some [] h = cc
comment-some (c ∷ line) h = omega arith

-- what is known once the last line has been judged
abbrev pub IsFinal : {K : Type 0} → Rules K → (List (List ℕ) → K) → List ℕ → K → ℕ → Type 0
IsFinal rules known_of b known count =
    (first_fault rules known_of [] (lines b) ≡ None) × (known ≡ known_of (lines b)) × (count ≡ told (length (lines b)))

-- for one kind of text: its rules, and what is known of its lines
module _ {K : Type 0} (rules : Rules K) (known_of : List (List ℕ) → K) where
  pub Finals-none : (old : State K) (b : List ℕ) → HasRead rules known_of old b → length (rest b) ≡ 0
      → IsFinal rules known_of b old.known old.count
  Finals-none old b r h = rw (lines-none b h) ((early-parts rules known_of b r.fine).0, r.knows, r.counts)

  pub Finals-line : (with_record : K → List (List ℕ) → K) → Adds rules known_of with_record
      → (old new : State K) (b : List ℕ) (r : Result (Unit {0}) Refusal) → HasRead rules known_of old b
      → 0 < length (rest b) → EndsLine rules with_record old [] (told (old.count + 1)) r new
      → Finals rules known_of b r new
  Finals-line with_record adds old new b (Ok done) r some e =
      let j = judged rules known_of with_record old new b [] _ r e in
      let fine : fault_of rules (known_of (ended b)) (rest b) ≡ None = rw (append-nil (rest b)) at j.0 in
      let knows : new.known ≡ with_line with_record (known_of (ended b)) (rest b) = rw (append-nil (rest b)) at j.1 in
      rw (lines-some b some) (
        first_fault-push rules known_of (ended b) (rest b) ∙ rw ((early-parts rules known_of b r.fine).0, fine) refl,
        knows ∙ sym (adds (ended b) (rest b) fine),
        e.counts ∙ rw (r.counts, told-more (length (ended b)), length-append) refl,
      )
  Finals-line with_record adds old new b (Err Memory) r some e = tt
  Finals-line with_record adds old new b (Err (Code code)) r some e =
      let is : fault_of rules (known_of (ended b)) (rest b ++ []) ≡ Some code =
      rw (← partial_plain rules known_of old b r e.plain, ← r.knows) e.tells in
      let is' : fault_of rules (known_of (ended b)) (rest b) ≡ Some code = rw (append-nil (rest b)) at is in
      rw (lines-some b some)
      (first_fault-push rules known_of (ended b) (rest b)
      ∙ rw ((early-parts rules known_of b r.fine).0, is')
      (ap (λ (n : ℕ). Some (n, code))
      (sym (told-more (length (ended b))) ∙ ap (λ (n : ℕ). told (n + 1)) (sym (e.counts ∙ r.counts)))))

  -- an end that is reached
  pub closes-fine : (b : List ℕ) (known : K) (count : ℕ) → IsFinal rules known_of b known count
      → None ≡ rules.end_fault known → whole_fault rules known_of b ≡ None
  unfolding whole_fault
  closes-fine b known count c is =
      let end : rules.end_fault (known_of (lines b)) ≡ None = rw (← c.1) (sym is) in
      rw (c.0, end) refl

  pub closes-end : (b : List ℕ) (known : K) (count : ℕ) (code : FaultCode) → IsFinal rules known_of b known count
      → Some code ≡ rules.end_fault known → whole_fault rules known_of b ≡ Some (told (count + 1), code)
  unfolding whole_fault
  closes-end b known count code c is =
      let end : rules.end_fault (known_of (lines b)) ≡ Some code = rw (← c.1) (sym is) in
      rw (c.0, end)
      (ap (λ (n : ℕ). Some (n, code)) (sym (told-more (length (lines b))) ∙ ap (λ (n : ℕ). told (n + 1)) (sym c.2)))

  pub closes-fault : (b : List ℕ) (fault : ℕ × FaultCode) → first_fault rules known_of [] (lines b) ≡ Some fault
      → whole_fault rules known_of b ≡ Some fault
  unfolding whole_fault
  closes-fault b fault is = rw is refl

  pub closes-refused : (b : List ℕ) (count : ℕ) (refusal : Refusal)
      → TellsAt count refusal (first_fault rules known_of [] (lines b))
      → Tells (fault_from count refusal) (whole_fault rules known_of b)
  closes-refused b count (Code code) h = closes-fault b _ h
  closes-refused b count Memory h = tt

-- what a refusal tells at a line, its fault tells
pub tells-from : (count : ℕ) (refusal : Refusal) (fault : Option (ℕ × FaultCode)) → TellsAt count refusal fault
    → Tells (fault_from count refusal) fault
tells-from count (Code code) fault h = h
tells-from count Memory fault h = tt

-- what is answered where a text is accepted, and where it isn't
pub accepted-fine : {A : Type 0} (said found : A) (fault : Option (ℕ × FaultCode)) → fault ≡ None → found ≡ said
    → accepted said fault ≡ Ok found
accepted-fine said found fault none is = rw none (ap (λ (x : _). let r : Result _ (ℕ × FaultCode) = Ok x in r) (sym is))

pub accepted-fault : {A : Type 0} (said : A) (fault : Option (ℕ × FaultCode)) (told : ReadFault) → Tells told fault
    → AnswersAs (accepted said fault) (Err told)
accepted-fault said fault (Fault line code) tells = rw tells refl
accepted-fault said fault OutOfMemory tells = tt
