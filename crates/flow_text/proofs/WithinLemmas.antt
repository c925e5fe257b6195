-- What an accepted text says keeps the limits: each line without a fault keeps them.
use Rattle.std.proofs.Common.{◌≡◌, ◌≤◌, ℕ, ◌==◌, Bool, true, false, not, ◌||◌, List, [], ◌∷◌, ◌++◌, length, refl, ◌∙◌}
use Rattle.std.proofs.Common.{sym, subst, arith, inl, inr, append_assoc, append-nil, Option, Some, None, Ok, nat_lt}
use Rattle.std.specs.Prelude.{if◌then◌else◌}
use Rattle.std.proofs.lemmas.Bool.{cases_Bool, cases_lt}
use Rattle.std.proofs.lemmas.Grind.{common_steps}
use Rattle.flow_net.specs.declared.limits.TheConstants.{GREATEST_CAPACITY}
use Rattle.flow_text.specs.Lines.{lines}
use Rattle.flow_text.specs.Fields.{fields_of, field_at}
use Rattle.flow_text.specs.Digits.{value_of}
use Rattle.flow_text.specs.Numbers.{is_number}
use Rattle.flow_text.specs.Tests.{first_failed, number_tests, ends_tests}
use Rattle.flow_text.specs.Rules.{Rules, is_comment, fault_of, first_fault, whole_fault, at_line}
use Rattle.flow_text.specs.Reading.{accepted, with_line, Adds}
use Rattle.flow_text.specs.declared.faults.FaultCode.{FaultCode}
use Rattle.flow_text.specs.declared.faults.FaultCode.TheVariants.{LineTooLong, WrongFields, NodeOutOfRange}
use Rattle.flow_text.proofs.FaultLemmas.{or_parts}
use Rattle.flow_text.proofs.RuleLemmas.{of_comment, of_long, of_empty, of_fields}
use Rattle.flow_text.specs.declared.limits.TheConstants.{LONGEST_LINE}

at_none : (k : ℕ) (o : Option FaultCode) → at_line k o ≡ None → o ≡ None
at_none k None h = refl
at_none k (Some code) h = cc

-- what holds of what is known, if each line without a fault keeps it
module _ {K : Type 0} (rules : Rules K) (known_of : List (List ℕ) → K) (with_record : K → List (List ℕ) → K)
    (adds : Adds rules known_of with_record) (P : K → Type 0)
    (keeps : (k : K) (letter : List ℕ) (others : List (List ℕ)) → rules.record_fault k (letter ∷ others) ≡ None → P k
    → P (with_record k (letter ∷ others))) where
  by_fields : (k : K) (line : List ℕ) (fields : List (List ℕ)) → fields_of line ≡ fields → is_comment line ≡ false
      → length line ≤ LONGEST_LINE → fault_of rules k line ≡ None → P k → P (with_line with_record k line)
  by_fields k line [] is plain short fine p = subst P (of_empty rules with_record k line plain short is).1 p
  by_fields k line (letter ∷ others) is plain short fine p =
      let of = of_fields rules with_record k line letter others plain short is in
      subst P (sym of.1) (keeps k letter others (sym of.0 ∙ fine) p)

  by_line : (k : K) (line : List ℕ) → fault_of rules k line ≡ None → P k → P (with_line with_record k line)
  by_line k line fine p = elim (cases_Bool (is_comment line)) [
    | inl comment ↦ subst P (of_comment rules with_record k line comment).1 p
    | inr plain ↦ elim (cases_lt LONGEST_LINE (length line)) [
      | inl long ↦
          let no' : ◌≡◌ {A = Option FaultCode} None (Some LineTooLong) = sym fine ∙ of_long rules k line plain long in
          cc
      | inr short ↦ by_fields k line (fields_of line) refl plain (omega arith) fine p
    ]
  ]

  pub by_lines : (before after : List (List ℕ)) → P (known_of before) → first_fault rules known_of before after ≡ None
      → P (known_of (before ++ after))
  unfolding first_fault
  by_lines before [] p h = subst (λ ls. P (known_of ls)) (sym (append-nil before)) p
  by_lines before (line ∷ after) p h =
      let parts = or_parts _ _ h in
      let fine : fault_of rules (known_of before) line ≡ None = at_none _ _ parts.0 in
      subst (λ ls. P (known_of ls)) (append_assoc before (line ∷ []) after)
      (by_lines (before ++ line ∷ []) after
      (subst P (sym (adds before line fine)) (by_line (known_of before) line fine p)) parts.1)

  -- a text without a fault
  pub by_text : (b : List ℕ) → P (known_of []) → whole_fault rules known_of b ≡ None
      → P (known_of (lines b)) × (rules.end_fault (known_of (lines b)) ≡ None)
  unfolding whole_fault
  by_text b p h = let parts = or_parts _ _ h in (by_lines [] (lines b) p parts.0, at_none _ _ parts.1)

-- an accepted text has no fault
pub accepted-parts : {A : Type 0} (said found : A) (fault : Option (ℕ × FaultCode)) → accepted said fault ≡ Ok found
    → (fault ≡ None) × (said ≡ found)
accepted-parts said found None h = (refl, cc)
accepted-parts said found (Some fault) h = cc

-- tests that none fails
pub passed : (fails : Bool) (code : FaultCode) (others : Option FaultCode)
    → (if fails then Some code else others) ≡ None → (fails ≡ false) × (others ≡ None)
passed true code others h = cc
passed false code others h = (refl, h)

-- a number that passes its tests
pub record InRange (field : List ℕ) (least greatest : ℕ) (tests : List (Bool × FaultCode)) : Type 0 where
  pub from : least ≤ value_of field
  pub to : value_of field ≤ greatest
  pub others : first_failed tests ≡ None

or_false : (a b : Bool) → (a || b) ≡ false → (a ≡ false) × (b ≡ false)
or_false false b h = (refl, h)
or_false true b h = cc

pub number-passed : (field : List ℕ) (least greatest : ℕ) (code : FaultCode) (tests : List (Bool × FaultCode))
    → first_failed (number_tests field least greatest code ++ tests) ≡ None → InRange field least greatest tests
number-passed field least greatest code tests h =
    let digits = passed (not (is_number field)) _
    (first_failed ((nat_lt (value_of field) least || nat_lt greatest (value_of field), code) ∷ tests)) h in
    let range = passed (nat_lt (value_of field) least || nat_lt greatest (value_of field)) code (first_failed tests)
    digits.1 in
    let sides = or_false (nat_lt (value_of field) least) (nat_lt greatest (value_of field)) range.0 in
    let low = sides.0 in let high = sides.1 in
    record { from = grind (arith, common_steps, low); to = grind (arith, common_steps, high); others = range.1 }

-- two ends and a number that pass their tests
pub record EndsInRange (nodes : ℕ) (fields : List (List ℕ)) : Type 0 where
  pub src_least : 1 ≤ value_of (field_at fields 1)
  pub src_most : value_of (field_at fields 1) ≤ nodes
  pub dst_least : 1 ≤ value_of (field_at fields 2)
  pub dst_most : value_of (field_at fields 2) ≤ nodes
  pub fits : value_of (field_at fields 3) ≤ GREATEST_CAPACITY

pub ends-passed : (nodes : ℕ) (code : FaultCode) (fields : List (List ℕ))
    → first_failed (ends_tests nodes code fields) ≡ None → EndsInRange nodes fields
unfolding ends_tests
ends-passed nodes code fields h =
    let last = number_tests (field_at fields 3) 0 GREATEST_CAPACITY code in
    let both = number_tests (field_at fields 2) 1 nodes NodeOutOfRange ++ last in
    let count = passed (not (length fields == 4)) WrongFields
    (first_failed (number_tests (field_at fields 1) 1 nodes NodeOutOfRange ++ both)) h in
    let src = number-passed (field_at fields 1) 1 nodes NodeOutOfRange both count.1 in
    let dst = number-passed (field_at fields 2) 1 nodes NodeOutOfRange last src.others in
    let number = number-passed (field_at fields 3) 0 GREATEST_CAPACITY code [] dst.others in
    record { src_least = src.from; src_most = src.to; dst_least = dst.from; dst_most = dst.to; fits = number.to }
