-- Lists of names and of nodes, and arcs under new names.
use Rattle.std.specs.Prelude.{◌≡◌, ℕ, ◌+◌, ◌-◌, ◌≤◌, ◌<◌, List, length, slice_index, slice_index_or}
use Rattle.flow_net.specs.declared.networks.Arc.{Arc}
use Rattle.flow_net.specs.Nets.{Net, arc_at}
use Rattle.flow_net.specs.Arcs.{no_arc}
use Rattle.flow_net.specs.Arrangements.{renamed}

-- each number of 1 to n stands in each list, in the one where the other tells
pub record AreInverse (n : ℕ) (names nodes : List ℕ) : Type 0 where
  pub names_count : length names ≡ n
  pub nodes_count : length nodes ≡ n
  pub of_node : (i : ℕ) → i < n
      → (1 ≤ slice_index names i) × (slice_index names i ≤ n) × (slice_index nodes (slice_index names i - 1) ≡ i + 1)
  pub of_name : (i : ℕ) → i < n
      → (1 ≤ slice_index nodes i) × (slice_index nodes i ≤ n) × (slice_index names (slice_index nodes i - 1) ≡ i + 1)

-- each of the first arcs stands at its spot in the list, with its ends renamed
abbrev pub AreCopied : Net → List ℕ → List Arc → List ℕ → ℕ → Type 0
AreCopied net names arcs spots count = (i : ℕ) → i < count
    → (slice_index spots i < length arcs)
    × (slice_index_or arcs (slice_index spots i) no_arc ≡ renamed names (arc_at net i))
