-- Where every capacity is 1, the value of a solve is the connectivity of a pair.
use Rattle.std.proofs.Common.{◌≡◌, ℕ, ◌≤◌, Bool, length, arith}
use Rattle.std.specs.List.{All}
use Rattle.std.proofs.lemmas.List.Elements.{recursion_from_All}
use Rattle.std.proofs.lemmas.List.Sums.{count_by-le-length}
use Rattle.flow_net.specs.Nets.{Net}
use Rattle.flow_net.specs.Cuts.{leaves, capacity}
use Rattle.flow_net.specs.Connectivity.{leaving}
use Rattle.flow_net.specs.LeastCuts.{IsLeastCapacity, IsPairConnectivity}
use Rattle.flow_net.proofs.Connections.{cap_counts, least_cut}

-- a solve's value is the pair's connectivity
pub solved_pair : (net : Net) (s t : ℕ → Bool) (k : ℕ) → All (λ a. a.cap ≡ 1) net.arcs → IsLeastCapacity net s t k
    → IsPairConnectivity net s t k
solved_pair net s t k one =
    least_cut s t (capacity net) (leaving net) k
    (λ X. cap_counts (leaves X) net.arcs (recursion_from_All (λ a. a.cap ≡ 1) net.arcs one))

-- which is at most the number of arcs
pub pair_bounded : (net : Net) (s t : ℕ → Bool) (k : ℕ) → IsPairConnectivity net s t k → k ≤ length net.arcs
pair_bounded net s t k p = omega (arith, count_by-le-length (leaves p.reached.0) net.arcs, p.reached.2)
