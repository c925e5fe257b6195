-- Cuts and their capacities (Ford and Fulkerson 1956). A cut is named by its source side, a set of nodes.
use Rattle.std.specs.Prelude.{ℕ, ◌+◌, ◌≤◌, Bool, not, ◌&&◌, List, [], ◌∷◌, IsTrue, IsFalse, if◌then◌else◌}
use Rattle.flow_net.specs.declared.networks.Arc.{Arc}
use Rattle.flow_net.specs.Nets.{Net}

-- the arc leads out of the set
abbrev pub leaves : (ℕ → Bool) → Arc → Bool
leaves X a = X a.src && not (X a.dst)

-- the sum of the capacities of the arcs that pass a test
abbrev pub cap_over : (Arc → Bool) → List Arc → ℕ
cap_over p [] = 0
cap_over p (a ∷ arcs) = (if p a then a.cap else 0) + cap_over p arcs

-- a set with every source inside and every sink outside
pub record IsCut (s t X : ℕ → Bool) : Type 0 where
  pub sources : (v : ℕ) → IsTrue (s v) → IsTrue (X v)
  pub sinks : (v : ℕ) → IsTrue (t v) → IsFalse (X v)

-- the sum of the capacities of the arcs that leave the set
abbrev pub capacity : Net → (ℕ → Bool) → ℕ
capacity net X = cap_over (leaves X) net.arcs

-- a cut such that no cut's capacity is smaller
pub record IsMinimumCut (net : Net) (s t X : ℕ → Bool) : Type 0 where
  pub cut : IsCut s t X
  pub least : (Y : ℕ → Bool) → IsCut s t Y → capacity net X ≤ capacity net Y
