-- The least sides of the minimum cuts of a network.
use Rattle.std.specs.Prelude.{ℕ, Bool, IsTrue, IsFalse}
use Rattle.flow_net.specs.Nets.{Net}
use Rattle.flow_net.specs.Cuts.{IsMinimumCut}

-- the least source side: the nodes that lie in the source side of every minimum cut
abbrev pub IsInLeastSourceSide : Net → (ℕ → Bool) → (ℕ → Bool) → ℕ → Type 0
IsInLeastSourceSide net s t v = (X : ℕ → Bool) → IsMinimumCut net s t X → IsTrue (X v)

-- the least sink side: the nodes that lie outside the source side of every minimum cut
abbrev pub IsInLeastSinkSide : Net → (ℕ → Bool) → (ℕ → Bool) → ℕ → Type 0
IsInLeastSinkSide net s t v = (X : ℕ → Bool) → IsMinimumCut net s t X → IsFalse (X v)
