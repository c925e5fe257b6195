-- Tests in an order: the first that fails decides. A test is whether it fails, with the fault that it tells.
use Rattle.std.specs.Prelude.{ℕ, Bool, not, ◌&&◌, ◌||◌, ◌==◌, nat_lt, List, [], ◌∷◌, ◌++◌, length, Option, None, Some}
use Rattle.std.specs.Prelude.{if◌then◌else◌}
use Rattle.flow_text.specs.Fields.{field_at}
use Rattle.flow_text.specs.Digits.{value_of}
use Rattle.std.specs.Str.{all_ascii_digits}
use Rattle.flow_text.specs.declared.faults.FaultCode.{FaultCode}
use Rattle.flow_text.specs.declared.faults.FaultCode.TheVariants.{WrongFields, BadNumber, NodeOutOfRange}
use Rattle.flow_net.specs.declared.limits.TheConstants.{GREATEST_CAPACITY}

-- the fault of the first test that fails
abbrev pub first_failed : List (Bool × FaultCode) → Option FaultCode
first_failed [] = None
first_failed (test ∷ tests) = if test.0 then Some test.1 else first_failed tests

-- a number, of one digit or more and nothing else, from a least to a greatest
abbrev pub number_tests : List ℕ → ℕ → ℕ → FaultCode → List (Bool × FaultCode)
number_tests field least greatest code =
    (not (nat_lt 0 (length field) && all_ascii_digits field), BadNumber)
    ∷ (nat_lt (value_of field) least || nat_lt greatest (value_of field), code) ∷ []

-- a line of a letter, SRC, DST and a number of 64 bits, where a greater number has this fault
unfoldable pub ends_tests : ℕ → FaultCode → List (List ℕ) → List (Bool × FaultCode)
ends_tests nodes code fields =
    (not (length fields == 4), WrongFields)
    ∷ number_tests (field_at fields 1) 1 nodes NodeOutOfRange
    ++ number_tests (field_at fields 2) 1 nodes NodeOutOfRange
    ++ number_tests (field_at fields 3) 0 GREATEST_CAPACITY code
