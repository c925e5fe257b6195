-- What the reader of a solution keeps and answers.
use Rattle.std.specs.Prelude.{◌≡◌, ℕ, Bool, true, false, ◌≤◌, ◌<◌, ◌^◌, ◌++◌, List, [], ◌∷◌, length, Option, Some, None}
use Rattle.std.specs.Prelude.{is_some, Result, Ok, Err, codes, if◌then◌else◌}
use Rattle.std.specs.List.{All}
use Rattle.std.specs.Option.{unwrap_or}
use Rattle.flow_text.specs.Fields.{field_at}
use Rattle.flow_text.specs.Digits.{value_of}
use Rattle.flow_text.specs.Rules.{Rules, names}
use Rattle.flow_text.specs.Solution.{Stated, stated_of, value_tests, solution_record_fault, solution_end_fault}
use Rattle.flow_text.specs.Solution.{early_solution}
use Rattle.flow_text.specs.declared.faults.FaultCode.TheVariants.{SecondSolutionLine}
use Rattle.flow_text.specs.Reading.{State, HasRead, Tells, Refuses, AnswersAs}
use Rattle.flow_text.specs.declared.faults.FaultCode.{FaultCode}
use Rattle.flow_text.specs.declared.faults.ReadFault.{ReadFault}
use Rattle.flow_text.specs.declared.machine.Refusal.{Refusal}
use Rattle.flow_text.specs.declared.machine.Refusal.TheVariants.{Memory}
use Rattle.flow_text.specs.declared.solutions.FlowLine.{FlowLine}
use Rattle.flow_text.specs.declared.solutions.Solution.{Solution}
use Rattle.flow_text.specs.declared.limits.TheConstants.{GREATEST_VALUE, MOST_FLOW_LINES}

-- what an accepted solution says: VALUE and the flow lines
pub record Written : Type 0 where
  pub value : ℕ
  pub lines : List FlowLine

abbrev pub written_of : Stated → Written
written_of stated = record { value = unwrap_or stated.value 0; lines = stated.lines }

-- VALUE of `s VALUE`
abbrev pub given_of : List (List ℕ) → ℕ
given_of fields = value_of (field_at fields 1)

-- what is known of a solution: NODES of the problem, and what the lines say
pub record SolutionSoFar : Type 0 where
  pub nodes : ℕ
  pub value : Option ℕ
  pub lines : List FlowLine

-- the same, by the lines before a line
abbrev pub so_far_of : ℕ → List (List ℕ) → SolutionSoFar
so_far_of nodes before =
    record { nodes = nodes; value = (stated_of before).value; lines = (stated_of before).lines }

-- what the lines say of it
abbrev pub stated_in : SolutionSoFar → Stated
stated_in known = record { value = known.value; lines = known.lines }

-- the rules of a solution file, where NODES is known with what the lines say
abbrev pub so_far_rules : Rules SolutionSoFar
so_far_rules = record {
  record_fault = λ known. solution_record_fault known.nodes (stated_in known);
  end_fault = λ known. solution_end_fault (stated_in known);
}

-- the tests of a solution line
abbrev pub solution_tests : SolutionSoFar → List (List ℕ) → List (Bool × FaultCode)
solution_tests known fields = (is_some known.value, SecondSolutionLine) ∷ value_tests fields

-- SRC, DST and FLOW of `f SRC DST FLOW`
abbrev pub flow_of : List (List ℕ) → FlowLine
flow_of fields = record {
  src = value_of (field_at fields 1);
  dst = value_of (field_at fields 2);
  flow = value_of (field_at fields 3);
}

-- what is known after a line with these fields
unfoldable pub with_solution_record : SolutionSoFar → List (List ℕ) → SolutionSoFar
with_solution_record known fields = record {
  nodes = known.nodes;
  value = if names (codes "s") fields then Some (given_of fields) else known.value;
  lines = if names (codes "f") fields then known.lines ++ flow_of fields ∷ [] else known.lines;
}

-- both ends of a flow line are nodes, and its flow has 64 bits
pub record IsLineWithin (nodes : ℕ) (line : FlowLine) : Type 0 where
  pub src_least : 1 ≤ line.src
  pub src_most : line.src ≤ nodes
  pub dst_least : 1 ≤ line.dst
  pub dst_most : line.dst ≤ nodes
  pub flow_fits : line.flow < 2 ^ 64

-- what the keeper of a flow line answers: whether the line has no fault and is kept
abbrev pub KeepsLine : SolutionSoFar → FlowLine → Result Bool Refusal → SolutionSoFar → Type 0
KeepsLine old line (Ok true) new =
    (is_some old.value ≡ true) × (length old.lines < MOST_FLOW_LINES) × IsLineWithin old.nodes line
    × (new ≡ record old { lines = old.lines ++ line ∷ [] })
KeepsLine old line (Ok false) new = new ≡ old
KeepsLine old line (Err refusal) new = refusal ≡ Memory

-- the limits of a solution: VALUE, how many flow lines, and each of them
pub record IsWithinLimits (nodes : ℕ) (written : Written) : Type 0 where
  pub value_most : written.value ≤ GREATEST_VALUE
  pub lines_most : length written.lines ≤ MOST_FLOW_LINES
  pub lines_within : All (IsLineWithin nodes) written.lines

-- what a solution's fields say
abbrev pub written_in : Solution → Written
written_in found = record { value = found.value; lines = found.lines.items }

-- the reader of a solution has been fed these bytes and has refused none
abbrev pub ReadsSolution : ℕ → State SolutionSoFar → List ℕ → Type 0
ReadsSolution nodes reader b = HasRead so_far_rules (so_far_of nodes) reader b × (early_solution b nodes ≡ None)

-- what `feed` answers, with these bytes fed in all
abbrev pub FeedsSolution : ℕ → List ℕ → Result (Unit {0}) ReadFault → State SolutionSoFar → Type 0
FeedsSolution nodes b (Ok done) new = ReadsSolution nodes new b
FeedsSolution nodes b (Err fault) new = Tells fault (early_solution b nodes) × Refuses new fault

-- what `finish` answers to a whole text
abbrev pub FinishesSolution : Result (ℕ × List FlowLine) (ℕ × FaultCode) → Result Solution ReadFault → Type 0
FinishesSolution answer (Ok found) = answer ≡ Ok (found.value, found.lines.items)
FinishesSolution answer (Err fault) = AnswersAs answer (Err fault)

-- the flow lines that a reader lends: none after a refusal
abbrev pub lent_lines : State SolutionSoFar → List FlowLine
lent_lines reader = if is_some reader.refused then [] else reader.known.lines
