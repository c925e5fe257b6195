-- Sets of nodes. A set is a test that says of each number whether it is inside.
use Rattle.std.specs.Prelude.{◌≡◌, ℕ, ◌≤◌, Bool, ◌==◌, List}
use Rattle.std.specs.List.{list_any}

-- the set of the nodes in a list
abbrev pub one_of : List ℕ → ℕ → Bool
one_of ws v = list_any (λ w. w == v) ws

-- the set of one node
abbrev pub just : ℕ → ℕ → Bool
just v w = w == v

-- k is the least of what a count gives for the sets of a kind
pub record IsLeastOver (IsKind : (ℕ → Bool) → Type 0) (count : (ℕ → Bool) → ℕ) (k : ℕ) : Type 0 where
  pub reached : (X : ℕ → Bool) × IsKind X × (count X ≡ k)
  pub least : (X : ℕ → Bool) → IsKind X → k ≤ count X
