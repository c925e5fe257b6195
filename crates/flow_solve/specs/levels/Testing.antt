-- The test of a flow: sums over the first arcs, in cells.
use Rattle.std.specs.Prelude.{◌≡◌, ℕ, ◌+◌, ◌-◌, ◌*◌, ◌%◌, ◌<◌, ◌≤◌, ◌==◌, Bool, true, false, List, length, slice_index}
use Rattle.std.specs.Prelude.{nat_le, take}
use Rattle.flow_net.specs.declared.limits.TheConstants.{GREATEST_CAPACITY}
use Rattle.flow_net.specs.declared.networks.Arc.{Arc}
use Rattle.flow_net.specs.Nets.{Net, arc_at}
use Rattle.flow_net.specs.NodeSets.{one_of, just}
use Rattle.flow_net.specs.Flows.{out_of, into}
use Rattle.flow_solve.specs.declared.levels.testing.TheConstants.{EVEN, INNER, MARKED, SINK, SOURCE, TWO_CELLS}
use Rattle.flow_solve.specs.declared.residual.cells.TheConstants.{CELL}

-- the number of 96 bits in three cells, the lowest first
abbrev pub balance_at : List ℕ → ℕ → ℕ
balance_at cells k =
    slice_index cells (3 * k) + slice_index cells (3 * k + 1) * CELL + slice_index cells (3 * k + 2) * TWO_CELLS

-- whether a node's role is that of a source, and whether it is one of the set; that of node v stands in cell v - 1
abbrev pub is_source : List ℕ → ℕ → Bool
is_source roles v = slice_index roles (v - 1) == SOURCE

abbrev pub in_set : List ℕ → ℕ → Bool
in_set roles v = nat_le MARKED (slice_index roles (v - 1))

-- all nodes have their roles
pub record AreRoles (net : Net) (s t roles : List ℕ) : Type 0 where
  pub size : length roles ≡ net.nodes
  pub sources : (v : ℕ) → 1 ≤ v → v ≤ net.nodes → one_of s v ≡ true → slice_index roles (v - 1) ≡ SOURCE
  pub sinks : (v : ℕ) → 1 ≤ v → v ≤ net.nodes → one_of t v ≡ true → slice_index roles (v - 1) ≡ SINK
  pub inner : (v : ℕ) → 1 ≤ v → v ≤ net.nodes → one_of s v ≡ false → one_of t v ≡ false
      → slice_index roles (v - 1) % MARKED ≡ INNER

-- an arc that carries x has no half-arc with a residual capacity that leads out of a set
abbrev pub IsTight : (ℕ → Bool) → Arc → ℕ → Type 0
IsTight X a x = (X a.src ≡ true → x < a.cap → X a.dst ≡ true) × (X a.dst ≡ true → 0 < x → X a.src ≡ true)

-- what leaves the nodes of a set, and what enters them, over the first i arcs
abbrev pub out_so_far : (ℕ → Bool) → Net → List ℕ → ℕ → ℕ
out_so_far X net xs i = out_of X (take i net.arcs) (take i xs)

abbrev pub into_so_far : (ℕ → Bool) → Net → List ℕ → ℕ → ℕ
into_so_far X net xs i = into X (take i net.arcs) (take i xs)

-- the balances of the nodes that are no terminals, the two sums of the sources, and whether nothing leads out of the
-- set, over the first i arcs
pub record AreSums (net : Net) (xs roles balances : List ℕ) (i out inward : ℕ) (is_closed : Bool) : Type 0 where
  pub size : length balances ≡ 3 * net.nodes
  pub balanced : (v : ℕ) → 1 ≤ v → v ≤ net.nodes → slice_index roles (v - 1) % MARKED ≡ INNER
      → balance_at balances (v - 1) + out_so_far (just v) net xs i ≡ EVEN + into_so_far (just v) net xs i
  pub leaves : out ≡ out_so_far (is_source roles) net xs i
  pub enters : inward ≡ into_so_far (is_source roles) net xs i
  pub leaves_most : out ≤ i * GREATEST_CAPACITY
  pub enters_most : inward ≤ i * GREATEST_CAPACITY
  pub loops : (j : ℕ) → j < i → (arc_at net j).src ≡ (arc_at net j).dst → slice_index xs j ≡ 0
  pub closed : is_closed ≡ true → (j : ℕ) → j < i → IsTight (in_set roles) (arc_at net j) (slice_index xs j)
