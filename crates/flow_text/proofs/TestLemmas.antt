-- Tests in an order: those of a part that all pass leave the fault to the others, and else the part has the fault.
use Rattle.std.proofs.Common.{◌≡◌, ℕ, ◌==◌, ◌∙◌, ap, Bool, false, List, [], ◌∷◌, ◌++◌, length, refl, inl, inr, arith}
use Rattle.std.specs.Option.{option_or}
use Rattle.std.proofs.lemmas.Bool.{cases_Bool}
use Rattle.flow_text.specs.Tests.{first_failed}
use Rattle.flow_text.specs.declared.faults.FaultCode.{FaultCode}

pub two_parts : (tests more : List (Bool × FaultCode))
    → first_failed (tests ++ more) ≡ option_or (first_failed tests) (first_failed more)
two_parts [] more = refl
two_parts (test ∷ tests) more = elim (cases_Bool test.0) [
  | inl yes' ↦ rw yes' refl
  | inr no' ↦ rw no' (two_parts tests more)
]

pub three_parts : (tests more last : List (Bool × FaultCode)) → first_failed (tests ++ (more ++ last))
    ≡ option_or (first_failed tests) (option_or (first_failed more) (first_failed last))
three_parts tests more last =
    two_parts tests (more ++ last) ∙ ap (option_or (first_failed tests)) (two_parts more last)

-- a letter counts among the fields of its line
pub not_four : (kind : List ℕ) (others : List (List ℕ)) → (length others == 3) ≡ false
    → (length (kind ∷ others) == 4) ≡ false
not_four kind others h = grind arith
