-- What the flow lines of a solution add up to at each node, in cells: cell v - 1 for node v.
use Rattle.std.specs.Prelude.{◌≡◌, ◌≢◌, ℕ, ◌+◌, ◌-◌, ◌<◌, ◌≤◌, Bool, List, length, slice_index, slice_index_or, true}
use Rattle.std.specs.Prelude.{false, if◌then◌else◌}
use Rattle.flow_net.specs.NodeSets.{just}
use Rattle.flow_text.specs.declared.solutions.FlowLine.{FlowLine}
use Rattle.flow_tools.specs.checking.SolutionFlows.{lines_into, lines_out_of}
use Rattle.flow_tools.specs.checking.LineFlows.{line_flow}

-- a node that has a cell
abbrev pub IsCellOf : ℕ → ℕ → Type 0
IsCellOf n v = (1 ≤ v) × (v ≤ n)

-- a node's cell
abbrev pub at_node : List ℕ → ℕ → ℕ
at_node cells v = slice_index cells (v - 1)

-- there is a cell for each node, and the cells hold what enters and what leaves it
pub record AreNodeFlows (nodes : ℕ) (lines : List FlowLine) (into out : List ℕ) : Type 0 where
  pub into_len : length into ≡ nodes
  pub out_len : length out ≡ nodes
  pub entering : (k : ℕ) → k < nodes → slice_index into k ≡ lines_into (just (k + 1)) lines
  pub leaving : (k : ℕ) → k < nodes → slice_index out k ≡ lines_out_of (just (k + 1)) lines

-- `more` carries what `lines` do and one line more, over whatever pairs of nodes
abbrev pub HaveOneMore : List FlowLine → FlowLine → List FlowLine → Type 0
HaveOneMore lines line more = (p : ℕ → ℕ → Bool) → line_flow p more
    ≡ line_flow p lines + (if p line.src line.dst then line.flow else 0)

-- of the first n places, those that aren't marked hold the same in both lists
abbrev pub AreEqualUnless : List Bool → List ℕ → List ℕ → ℕ → Type 0
AreEqualUnless marks into out n = (k : ℕ) → k < n → slice_index_or marks k true ≡ false
    → slice_index into k ≡ slice_index out k

-- the least node that isn't marked and holds different numbers
pub record IsFirstUnequal (marks : List Bool) (into out : List ℕ) (node : ℕ) : Type 0 where
  pub cell : IsCellOf (length marks) node
  pub unmarked : slice_index_or marks (node - 1) true ≡ false
  pub unequal : slice_index into (node - 1) ≢ slice_index out (node - 1)
  pub least : AreEqualUnless marks into out (node - 1)
