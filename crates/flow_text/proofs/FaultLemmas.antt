-- The first fault of a text that goes on.
use Rattle.std.proofs.Common.{◌≡◌, ℕ, ◌+◌, List, [], ◌∷◌, ◌++◌, length, refl, ap, ◌∙◌, sym, append_assoc, append-nil}
use Rattle.std.proofs.Common.{Option, Some, None}
use Rattle.std.specs.Option.{option_or}
use Rattle.flow_text.specs.Lines.{ended, rest}
use Rattle.flow_text.specs.LineParts.{HasNoEnd}
use Rattle.flow_text.specs.Rules.{Rules, fault_of, first_fault, early_fault, at_line, length_fault}
use Rattle.flow_text.specs.Reading.{told}
use Rattle.flow_text.specs.declared.faults.FaultCode.{FaultCode}
use Rattle.flow_text.proofs.LineLemmas.{ended_within, rest_within, ended_by, rest_by, ended-append}

or_assoc : (a b c : Option (ℕ × FaultCode)) → option_or (option_or a b) c ≡ option_or a (option_or b c)
or_assoc None b c = refl
or_assoc (Some x) b c = refl

or_none : (a : Option (ℕ × FaultCode)) → option_or a None ≡ a
or_none None = refl
or_none (Some x) = refl

pub first_fault-append : {K : Type 0} (rules : Rules K) (known_of : List (List ℕ) → K) (before ls ms : List (List ℕ))
    → first_fault rules known_of before (ls ++ ms)
    ≡ option_or (first_fault rules known_of before ls) (first_fault rules known_of (before ++ ls) ms)
unfolding first_fault
first_fault-append rules known_of before [] ms = rw (append-nil before) refl
first_fault-append rules known_of before (l ∷ ls) ms =
    ap (λ f. option_or (at_line (length before + 1) (fault_of rules (known_of before) l)) f)
    (first_fault-append rules known_of (before ++ l ∷ []) ls ms)
    ∙ rw (append_assoc before (l ∷ []) ls)
    (sym (or_assoc (at_line (length before + 1) (fault_of rules (known_of before) l))
    (first_fault rules known_of (before ++ l ∷ []) ls) (first_fault rules known_of (before ++ (l ∷ ls)) ms)))

-- one line more
pub first_fault-push : {K : Type 0} (rules : Rules K) (known_of : List (List ℕ) → K) (ls : List (List ℕ)) (l : List ℕ)
    → first_fault rules known_of [] (ls ++ l ∷ [])
    ≡ option_or (first_fault rules known_of [] ls) (at_line (length ls + 1) (fault_of rules (known_of ls) l))
unfolding first_fault
first_fault-push rules known_of ls l =
    first_fault-append rules known_of [] ls (l ∷ [])
    ∙ ap (option_or (first_fault rules known_of [] ls))
    (or_none (at_line (length ls + 1) (fault_of rules (known_of ls) l)))

-- the parts of an early fault
pub or_parts : (a b : Option (ℕ × FaultCode)) → option_or a b ≡ None → (a ≡ None) × (b ≡ None)
or_parts None b h = (refl, h)
or_parts (Some x) b h = cc

pub early-parts : {K : Type 0} (rules : Rules K) (known_of : List (List ℕ) → K) (b : List ℕ)
    → early_fault rules known_of b ≡ None
    → (first_fault rules known_of [] (ended b) ≡ None)
    × (at_line (length (ended b) + 1) (length_fault (rest b)) ≡ None)
unfolding early_fault
early-parts rules known_of b h = or_parts _ _ h

-- a line that ends with no fault
pub early-ended : {K : Type 0} (rules : Rules K) (known_of : List (List ℕ) → K) (b tail : List ℕ) → HasNoEnd tail
    → early_fault rules known_of b ≡ None
    → fault_of rules (known_of (ended b)) (rest b ++ tail) ≡ None
    → early_fault rules known_of (b ++ (tail ++ 10 ∷ [])) ≡ None
unfolding early_fault
early-ended rules known_of b tail none fine judged =
    rw (
      ended_by b tail none,
      rest_by b tail none,
      first_fault-push rules known_of (ended b) (rest b ++ tail),
      (early-parts rules known_of b fine).0,
      judged,
    ) refl

-- and one with a fault, whatever follows
pub early-fault : {K : Type 0} (rules : Rules K) (known_of : List (List ℕ) → K) (b tail more : List ℕ)
    (code : FaultCode) → HasNoEnd tail → early_fault rules known_of b ≡ None
    → fault_of rules (known_of (ended b)) (rest b ++ tail) ≡ Some code
    → early_fault rules known_of ((b ++ (tail ++ 10 ∷ [])) ++ more) ≡ Some (told (length (ended b) + 1), code)
unfolding early_fault
early-fault rules known_of b tail more code none fine judged =
    rw (
      ended-append (b ++ (tail ++ 10 ∷ [])) more,
      ended_by b tail none,
      first_fault-append rules known_of [] (ended b ++ (rest b ++ tail) ∷ []) _,
      first_fault-push rules known_of (ended b) (rest b ++ tail),
      (early-parts rules known_of b fine).0,
      judged,
    ) refl

-- a line that goes on
pub early-within : {K : Type 0} (rules : Rules K) (known_of : List (List ℕ) → K) (b tail : List ℕ) → HasNoEnd tail
    → early_fault rules known_of b ≡ None
    → early_fault rules known_of (b ++ tail) ≡ at_line (length (ended b) + 1) (length_fault (rest b ++ tail))
unfolding early_fault
early-within rules known_of b tail none fine =
    rw (ended_within b tail none, rest_within b tail none, (early-parts rules known_of b fine).0) refl
