-- The fault of a line and what it adds, by what the line is.
use Rattle.std.proofs.Common.{◌≡◌, ◌<◌, ◌≤◌, ℕ, ◌==◌, true, false, List, [], ◌∷◌, length, refl, arith}
use Rattle.std.proofs.Common.{Option, Some, None, nat_lt, rules as std_rules}
use Rattle.std.specs.Option.{option_or}
use Rattle.std.specs.Prelude.{Result}
use Rattle.flow_text.specs.Fields.{fields_of}
use Rattle.flow_text.specs.Rules.{Rules, is_comment, length_fault, fault_of}
use Rattle.flow_text.specs.Reading.{with_line, Judges}
use Rattle.flow_text.specs.declared.faults.FaultCode.{FaultCode}
use Rattle.flow_text.specs.declared.faults.FaultCode.TheVariants.{LineTooLong}
use Rattle.flow_text.specs.declared.machine.Refusal.{Refusal}
use Rattle.flow_text.specs.declared.limits.TheConstants.{LONGEST_LINE}

-- the fault of a line's length
pub length_fault-long : (line : List ℕ) → is_comment line ≡ false → LONGEST_LINE < length line
    → length_fault line ≡ Some LineTooLong
length_fault-long line plain h =
    let long : nat_lt LONGEST_LINE (length line) ≡ true = search (std_rules, arith) in
    rw (plain, long) refl

pub length_fault-short : (line : List ℕ) → is_comment line ≡ false → length line ≤ LONGEST_LINE
    → length_fault line ≡ None
length_fault-short line plain h =
    let short : nat_lt LONGEST_LINE (length line) ≡ false = search (std_rules, arith) in
    rw (plain, short) refl

-- the fault of a line with fields that is no comment, and has the length of a line
second_none : (a b : Option FaultCode) → option_or a b ≡ None → b ≡ None
second_none None b h = h
second_none (Some code) b h = cc

pub record-fine : {K : Type 0} (rules : Rules K) (k : K) (line : List ℕ) → is_comment line ≡ false
    → (length (fields_of line) == 0) ≡ false → fault_of rules k line ≡ None
    → rules.record_fault k (fields_of line) ≡ None
unfolding fault_of
record-fine rules k line plain some fine = second_none _ _ (rw (plain, some) at fine)

-- a line that has a field
pub has_some : (field : List ℕ) (others : List (List ℕ)) → (length (field ∷ others) == 0) ≡ false
has_some field others = search (std_rules, arith)

pub of_comment : {K : Type 0} (rules : Rules K) (with_record : K → List (List ℕ) → K) (k : K) (line : List ℕ)
    → is_comment line ≡ true
    → (fault_of rules k line ≡ None) × (k ≡ with_line with_record k line)
unfolding fault_of with_line
of_comment rules with_record k line h = (simp h, simp h)

pub of_long : {K : Type 0} (rules : Rules K) (k : K) (line : List ℕ) → is_comment line ≡ false
    → LONGEST_LINE < length line → fault_of rules k line ≡ Some LineTooLong
unfolding fault_of
of_long rules k line plain h = rw (length_fault-long line plain h) refl

pub of_empty : {K : Type 0} (rules : Rules K) (with_record : K → List (List ℕ) → K) (k : K) (line : List ℕ)
    → is_comment line ≡ false → length line ≤ LONGEST_LINE → fields_of line ≡ []
    → (fault_of rules k line ≡ None) × (k ≡ with_line with_record k line)
unfolding fault_of with_line
of_empty rules with_record k line plain short none =
    (rw (length_fault-short line plain short, plain, none) refl, rw (plain, none) refl)

pub of_fields : {K : Type 0} (rules : Rules K) (with_record : K → List (List ℕ) → K) (k : K) (line letter : List ℕ)
    (others : List (List ℕ)) → is_comment line ≡ false → length line ≤ LONGEST_LINE
    → fields_of line ≡ letter ∷ others
    → (fault_of rules k line ≡ rules.record_fault k (letter ∷ others))
    × (with_line with_record k line ≡ with_record k (letter ∷ others))
unfolding fault_of with_line
of_fields rules with_record k line letter others plain short fs =
    let some = has_some letter others in
    (rw (length_fault-short line plain short, plain, fs, some) refl, rw (plain, fs, some) refl)

-- a judge that answers as the fault that it was told
pub Judges-along : {K : Type 0} (fault told : Option FaultCode) (after known new : K) (r : Result (Unit {0}) Refusal)
    → (fault ≡ told) × (after ≡ known) → Judges told known r new → Judges fault after r new
Judges-along fault told after known new r same h = rw (same.0, same.1) h
