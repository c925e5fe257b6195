-- The least capacity of a cut and the connectivities, by names of their own.
use Rattle.std.specs.Prelude.{ℕ, Bool}
use Rattle.flow_net.specs.Nets.{Net}
use Rattle.flow_net.specs.NodeSets.{IsLeastOver}
use Rattle.flow_net.specs.Cuts.{IsCut, capacity}
use Rattle.flow_net.specs.Connectivity.{leaving, crossing, IsProper}

-- k is the least capacity of a cut
abbrev pub IsLeastCapacity : Net → (ℕ → Bool) → (ℕ → Bool) → ℕ → Type 0
IsLeastCapacity net s t k = IsLeastOver (IsCut s t) (capacity net) k

-- k is the least number of arcs that leave a set which is neither empty nor all
abbrev pub IsConnectivity : Net → ℕ → Type 0
IsConnectivity net k = IsLeastOver (IsProper net) (leaving net) k

-- the same of the arcs with exactly one end in the set
abbrev pub IsUndirectedConnectivity : Net → ℕ → Type 0
IsUndirectedConnectivity net k = IsLeastOver (IsProper net) (crossing net) k

-- k is the least number of arcs that leave a set with every source inside and every sink outside
abbrev pub IsPairConnectivity : Net → (ℕ → Bool) → (ℕ → Bool) → ℕ → Type 0
IsPairConnectivity net s t k = IsLeastOver (IsCut s t) (leaving net) k

-- the same of the arcs with exactly one end in the set
abbrev pub IsUndirectedPairConnectivity : Net → (ℕ → Bool) → (ℕ → Bool) → ℕ → Type 0
IsUndirectedPairConnectivity net s t k = IsLeastOver (IsCut s t) (crossing net) k
