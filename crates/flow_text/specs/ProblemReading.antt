-- What the reader of a problem keeps and answers.
use Rattle.std.specs.Prelude.{◌≡◌, ℕ, ◌≤◌, ◌<◌, Bool, true, false, ◌&&◌, ◌++◌, List, [], ◌∷◌, length, drop, Option}
use Rattle.std.specs.Prelude.{Some, None, is_some, Result, Ok, Err, codes, if◌then◌else◌}
use Rattle.std.specs.Str.{bytes_eq}
use Rattle.std.specs.List.{All}
use Rattle.std.specs.Option.{option_map}
use Rattle.flow_net.specs.declared.networks.Arc.{Arc}
use Rattle.flow_net.specs.Nets.{Net, Instance, IsNode}
use Rattle.flow_net.specs.Limits.{IsArcWithin}
use Rattle.flow_text.specs.Fields.{field_at}
use Rattle.flow_text.specs.Digits.{value_of}
use Rattle.flow_text.specs.Rules.{names}
use Rattle.flow_text.specs.Terminals.{Marks, lacks_one}
use Rattle.flow_text.specs.Problem.{Known, known_of, size_tests, node_tests, instance_of, problem_rules}
use Rattle.flow_text.specs.declared.faults.FaultCode.TheVariants.{SecondProblemLine}
use Rattle.flow_text.specs.Reading.{State, HasRead, FeedsBy, AnswersAs}
use Rattle.flow_text.specs.declared.faults.FaultCode.{FaultCode}
use Rattle.flow_text.specs.declared.faults.ReadFault.{ReadFault}
use Rattle.flow_text.specs.declared.machine.Refusal.{Refusal}
use Rattle.flow_text.specs.declared.machine.Refusal.TheVariants.{Memory}
use Rattle.flow_net.specs.declared.limits.TheConstants.{MOST_PROBLEM_NODES, MOST_PROBLEM_ARCS}

-- NODES and ARCS of `p max NODES ARCS`
abbrev pub size_of : List (List ℕ) → ℕ × ℕ
size_of fields = (value_of (field_at fields 2), value_of (field_at fields 3))

-- ID of `n ID s` or `n ID t`
abbrev pub node_of : List (List ℕ) → ℕ
node_of fields = value_of (field_at fields 1)

-- the arc of `a SRC DST CAP`
abbrev pub arc_of : List (List ℕ) → Arc
arc_of fields = record {
  src = value_of (field_at fields 1);
  dst = value_of (field_at fields 2);
  cap = value_of (field_at fields 3);
}

-- the tests of a problem line
abbrev pub problem_tests : Known → List (List ℕ) → List (Bool × FaultCode)
problem_tests known fields = (is_some known.size, SecondProblemLine) ∷ size_tests fields

-- the terminals after a node line with these fields
abbrev pub with_node : Marks → List (List ℕ) → Marks
with_node marks fields = record {
  sources = if bytes_eq (field_at fields 2) (codes "s") then marks.sources ++ node_of fields ∷ [] else marks.sources;
  sinks = if bytes_eq (field_at fields 2) (codes "t") then marks.sinks ++ node_of fields ∷ [] else marks.sinks;
}

-- the terminals that are known
abbrev pub marks_of : Known → Marks
marks_of known = record { sources = known.sources; sinks = known.sinks }

-- what is known after a node line with these fields
abbrev pub with_terminal : Known → List (List ℕ) → Known
with_terminal known fields = record known {
  sources = (with_node (marks_of known) fields).sources;
  sinks = (with_node (marks_of known) fields).sinks;
}

-- what is known after a line with these fields
unfoldable pub with_problem_record : Known → List (List ℕ) → Known
with_problem_record known fields = record {
  size = if names (codes "p") fields then Some (size_of fields) else known.size;
  sources = if names (codes "n") fields && bytes_eq (field_at fields 2) (codes "s")
      then known.sources ++ node_of fields ∷ [] else known.sources;
  sinks = if names (codes "n") fields && bytes_eq (field_at fields 2) (codes "t")
      then known.sinks ++ node_of fields ∷ [] else known.sinks;
  arcs = if names (codes "a") fields then known.arcs ++ arc_of fields ∷ [] else known.arcs;
}

-- what is known from a problem line on: NODES, ARCS, the terminals and the arcs
pub record ProblemSoFar : Type 0 where
  pub nodes : ℕ
  pub declared : ℕ
  pub marks : Marks
  pub arcs : List Arc

abbrev pub known_with : ProblemSoFar → Known
known_with sized = record {
  size = Some (sized.nodes, sized.declared);
  sources = sized.marks.sources;
  sinks = sized.marks.sinks;
  arcs = sized.arcs;
}

-- the tests of a node line behind its first two, which look at other lines alone
unfoldable pub mark_tests : ℕ → Marks → List (List ℕ) → List (Bool × FaultCode)
mark_tests nodes marks fields =
    drop 2 (node_tests (known_with (record { nodes = nodes; declared = 0; marks = marks; arcs = [] })) fields)

-- what is known: nothing before a problem line
abbrev pub known_from : Option ProblemSoFar → Known
known_from None = record { size = None; sources = []; sinks = []; arcs = [] }
known_from (Some sized) = known_with sized

-- what the keeper of an arc answers: whether the arc line has no fault, and the arc is kept
abbrev pub KeepsArc : ProblemSoFar → Arc → Result Bool Refusal → ProblemSoFar → Type 0
KeepsArc old arc (Ok true) new =
    (lacks_one old.marks ≡ false) × (length old.arcs < old.declared) × IsArcWithin old.nodes arc
    × (new ≡ record old { arcs = old.arcs ++ arc ∷ [] })
KeepsArc old arc (Ok false) new = new ≡ old
KeepsArc old arc (Err refusal) new = refusal ≡ Memory

-- what a problem line declares is kept: nodes and at most as many arcs, both within the limits, and terminals that are
-- nodes
pub record KeepsDeclared (net : Net) (declared : ℕ) (marks : Marks) : Type 0 where
  pub nodes_most : net.nodes ≤ MOST_PROBLEM_NODES
  pub declared_most : declared ≤ MOST_PROBLEM_ARCS
  pub arcs_most : length net.arcs ≤ declared
  pub sources_within : All (IsNode net) marks.sources
  pub sinks_within : All (IsNode net) marks.sinks

-- the reader of a problem has been fed these bytes and has refused none
abbrev pub Reads : State Known → List ℕ → Type 0
Reads reader b = HasRead problem_rules known_of reader b

-- what `feed` answers, with these bytes fed in all
abbrev pub Feeds : List ℕ → Result (Unit {0}) ReadFault → State Known → Type 0
Feeds b result new = FeedsBy problem_rules known_of b result new

-- what `finish` answers to a whole text
abbrev pub Finishes : Result Instance (ℕ × FaultCode) → Result Instance ReadFault → Type 0
Finishes answer result = AnswersAs answer result

-- the network that lines say: none before a problem line
abbrev pub known_net : Known → Option Net
known_net known = option_map (λ size. (instance_of known).net) known.size

-- the network that a reader lends: none after a refusal
abbrev pub lent_net : State Known → Option Net
lent_net reader = if is_some reader.refused then None else known_net reader.known
