-- Solution files of the DIMACS format (1990): which fault a text has, or which value and flow lines it gives.
use Rattle.std.specs.Prelude.{ℕ, Bool, not, ◌==◌, nat_le, List, ◌∷◌, length, map, filter, Option, None, Some, is_some}
use Rattle.std.specs.Prelude.{Result, Ok, Err, if◌then◌else◌, codes}
use Rattle.std.specs.List.{find}
use Rattle.std.specs.Option.{option_map, option_map_or, unwrap_or}
use Rattle.flow_text.specs.Lines.{lines}
use Rattle.flow_text.specs.Fields.{fields_of, field_at}
use Rattle.flow_text.specs.Digits.{number_at}
use Rattle.flow_text.specs.Tests.{first_failed, number_tests, ends_tests}
use Rattle.flow_text.specs.Rules.{Rules, names, early_fault, whole_fault}
use Rattle.flow_text.specs.declared.faults.FaultCode.{FaultCode}
use Rattle.flow_text.specs.declared.faults.FaultCode.TheVariants.{UnknownLine, WrongFields, SecondSolutionLine}
use Rattle.flow_text.specs.declared.faults.FaultCode.TheVariants.{SolutionLineMissing, TooManyFlowLines, FlowOutOfRange}
use Rattle.flow_text.specs.declared.faults.FaultCode.TheVariants.{ValueOutOfRange}
use Rattle.flow_text.specs.declared.solutions.FlowLine.{FlowLine}
use Rattle.flow_text.specs.declared.limits.TheConstants.{GREATEST_VALUE, MOST_FLOW_LINES}

-- What the lines before a line say: VALUE and the flow lines.
pub record Stated : Type 0 where
  pub value : Option ℕ
  pub lines : List FlowLine

-- VALUE of the first line `s VALUE`, and SRC, DST and FLOW of the lines `f SRC DST FLOW`, in order. A comment is
-- none of these: its first field begins with 'c'.
unfoldable pub stated_of : List (List ℕ) → Stated
stated_of before = let records = map fields_of before in record {
  value = option_map (λ fields. number_at fields 1) (find (names (codes "s")) records);
  lines = map (λ fields. record { src = number_at fields 1; dst = number_at fields 2; flow = number_at fields 3 })
      (filter (names (codes "f")) records);
}

-- the tests of a solution line, but for that of a second one
unfoldable pub value_tests : List (List ℕ) → List (Bool × FaultCode)
value_tests fields =
    (not (length fields == 2), WrongFields) ∷ number_tests (field_at fields 1) 0 GREATEST_VALUE ValueOutOfRange

-- the tests of a flow line
abbrev pub flow_tests : ℕ → Stated → List (List ℕ) → List (Bool × FaultCode)
flow_tests nodes stated fields =
    (not (is_some stated.value), SolutionLineMissing)
    ∷ (nat_le MOST_FLOW_LINES (length stated.lines), TooManyFlowLines)
    ∷ ends_tests nodes FlowOutOfRange fields

-- the fault of a line with these fields, for a problem of so many nodes
unfoldable pub solution_record_fault : ℕ → Stated → List (List ℕ) → Option FaultCode
solution_record_fault nodes stated fields =
    if names (codes "s") fields then first_failed ((is_some stated.value, SecondSolutionLine) ∷ value_tests fields)
    else if names (codes "f") fields then first_failed (flow_tests nodes stated fields)
    else Some UnknownLine

-- the fault of the end of input
abbrev pub solution_end_fault : Stated → Option FaultCode
solution_end_fault stated = if is_some stated.value then None else Some SolutionLineMissing

-- the rules of a solution file, for a problem of so many nodes
abbrev pub solution_rules : ℕ → Rules Stated
solution_rules nodes = record { record_fault = solution_record_fault nodes; end_fault = solution_end_fault }

-- the early fault of a solution text that may go on, for a problem of so many nodes
abbrev pub early_solution : List ℕ → ℕ → Option (ℕ × FaultCode)
early_solution b nodes = early_fault (solution_rules nodes) stated_of b

-- the first fault of a whole solution text, or what it says: VALUE and the flow lines
unfoldable pub solution : List ℕ → ℕ → Result (ℕ × List FlowLine) (ℕ × FaultCode)
solution b nodes = let stated = stated_of (lines b) in
    option_map_or Err (whole_fault (solution_rules nodes) stated_of b) (Ok (unwrap_or stated.value 0, stated.lines))
