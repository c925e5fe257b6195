-- Problem files of the DIMACS format (1990): which fault a text has, or which problem it is.
use Rattle.std.specs.Prelude.{ℕ, Bool, not, ◌&&◌, ◌||◌, ◌==◌, nat_lt, nat_le, List, [], ◌∷◌, ◌++◌, length, map, filter}
use Rattle.std.specs.Prelude.{Option, Some, is_some, Result, Ok, Err, if◌then◌else◌, codes}
use Rattle.std.specs.List.{find}
use Rattle.std.specs.Option.{option_map, option_map_or, unwrap_or}
use Rattle.std.specs.Str.{bytes_eq}
use Rattle.flow_net.specs.declared.networks.Arc.{Arc}
use Rattle.flow_net.specs.Nets.{Instance}
use Rattle.flow_net.specs.NodeSets.{one_of}
use Rattle.flow_text.specs.Lines.{lines}
use Rattle.flow_text.specs.Fields.{fields_of, field_at}
use Rattle.flow_text.specs.Digits.{number_at}
use Rattle.flow_text.specs.Tests.{first_failed, number_tests, ends_tests}
use Rattle.flow_text.specs.Rules.{Rules, names, early_fault, whole_fault}
use Rattle.flow_text.specs.declared.faults.FaultCode.{FaultCode}
use Rattle.flow_text.specs.declared.faults.FaultCode.TheVariants.{UnknownLine, WrongFields, SecondProblemLine}
use Rattle.flow_text.specs.declared.faults.FaultCode.TheVariants.{ProblemLineMissing, NotMax, NodesOutOfRange}
use Rattle.flow_text.specs.declared.faults.FaultCode.TheVariants.{ArcsOutOfRange, NodeOutOfRange, NodeLineAfterArcLine}
use Rattle.flow_text.specs.declared.faults.FaultCode.TheVariants.{NotTerminal, TerminalsMissing, AlreadyTerminal}
use Rattle.flow_text.specs.declared.faults.FaultCode.TheVariants.{TooManyArcs, CapacityOutOfRange, TooFewArcs}
use Rattle.flow_net.specs.declared.limits.TheConstants.{MOST_PROBLEM_ARCS, MOST_PROBLEM_NODES, FEWEST_NODES}

-- the fields of a node line with this letter in the third
abbrev pub is_terminal : List ℕ → List (List ℕ) → Bool
is_terminal letter fields = names (codes "n") fields && bytes_eq (field_at fields 2) letter

-- What the lines before a line say: NODES and ARCS, the terminals, and the arcs.
pub record Known : Type 0 where
  pub size : Option (ℕ × ℕ)
  pub sources : List ℕ
  pub sinks : List ℕ
  pub arcs : List Arc

-- NODES and ARCS of the first line `p max NODES ARCS`, the sources of the lines `n ID s` and the sinks of the lines
-- `n ID t`, and the arcs of the lines `a SRC DST CAP`, in order. A comment is none of these: its first field begins
-- with 'c'.
unfoldable pub known_of : List (List ℕ) → Known
known_of before = let records = map fields_of before in record {
  size = option_map (λ fields. (number_at fields 2, number_at fields 3)) (find (names (codes "p")) records);
  sources = map (λ fields. number_at fields 1) (filter (is_terminal (codes "s")) records);
  sinks = map (λ fields. number_at fields 1) (filter (is_terminal (codes "t")) records);
  arcs = map (λ fields. record { src = number_at fields 1; dst = number_at fields 2; cap = number_at fields 3 })
      (filter (names (codes "a")) records);
}

abbrev pub nodes : Known → ℕ
nodes known = (unwrap_or known.size (0, 0)).0

abbrev pub arc_count : Known → ℕ
arc_count known = (unwrap_or known.size (0, 0)).1

-- whether a source or a sink is missing
abbrev pub lacks_terminals : Known → Bool
lacks_terminals known = nat_le (length known.sources) 0 || nat_le (length known.sinks) 0

-- the tests of a problem line, but for that of a second one
unfoldable pub size_tests : List (List ℕ) → List (Bool × FaultCode)
size_tests fields =
    (not (length fields == 4), WrongFields)
    ∷ (not (bytes_eq (field_at fields 1) (codes "max")), NotMax)
    ∷ number_tests (field_at fields 2) FEWEST_NODES MOST_PROBLEM_NODES NodesOutOfRange
    ++ number_tests (field_at fields 3) 0 MOST_PROBLEM_ARCS ArcsOutOfRange

-- the tests of a node line
abbrev pub node_tests : Known → List (List ℕ) → List (Bool × FaultCode)
node_tests known fields =
    (not (is_some known.size), ProblemLineMissing)
    ∷ (nat_lt 0 (length known.arcs), NodeLineAfterArcLine)
    ∷ (not (length fields == 3), WrongFields)
    ∷ number_tests (field_at fields 1) 1 (nodes known) NodeOutOfRange
    ++ (not (bytes_eq (field_at fields 2) (codes "s") || bytes_eq (field_at fields 2) (codes "t")), NotTerminal)
    ∷ (one_of known.sources (number_at fields 1) || one_of known.sinks (number_at fields 1), AlreadyTerminal) ∷ []

-- the tests of an arc line
abbrev pub arc_tests : Known → List (List ℕ) → List (Bool × FaultCode)
arc_tests known fields =
    (not (is_some known.size), ProblemLineMissing)
    ∷ (lacks_terminals known, TerminalsMissing)
    ∷ (nat_le (arc_count known) (length known.arcs), TooManyArcs)
    ∷ ends_tests (nodes known) CapacityOutOfRange fields

-- the fault of a line with these fields
unfoldable pub problem_record_fault : Known → List (List ℕ) → Option FaultCode
problem_record_fault known fields =
    if names (codes "p") fields then first_failed ((is_some known.size, SecondProblemLine) ∷ size_tests fields)
    else if names (codes "n") fields then first_failed (node_tests known fields)
    else if names (codes "a") fields then first_failed (arc_tests known fields)
    else Some UnknownLine

-- the tests of the end of input
abbrev pub end_tests : Known → List (Bool × FaultCode)
end_tests known =
    (not (is_some known.size), ProblemLineMissing)
    ∷ (lacks_terminals known, TerminalsMissing)
    ∷ (nat_lt (length known.arcs) (arc_count known), TooFewArcs) ∷ []

-- the rules of a problem file
abbrev pub problem_rules : Rules Known
problem_rules = record { record_fault = problem_record_fault; end_fault = λ known. first_failed (end_tests known) }

-- the problem that an accepted text says
abbrev pub instance_of : Known → Instance
instance_of known =
    record { net = record { nodes = nodes known; arcs = known.arcs }; sources = known.sources; sinks = known.sinks }

-- the early fault of a problem text that may go on
abbrev pub early : List ℕ → Option (ℕ × FaultCode)
early b = early_fault problem_rules known_of b

-- the first fault of a whole problem text, or the problem that it says
unfoldable pub problem : List ℕ → Result Instance (ℕ × FaultCode)
problem b = option_map_or Err (whole_fault problem_rules known_of b) (Ok (instance_of (known_of (lines b))))
