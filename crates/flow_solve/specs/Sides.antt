-- The least sides of the minimum cuts, beside a flow of the greatest value.
use Rattle.std.specs.Prelude.{◌↔◌, ℕ, Bool, not, List, IsTrue, take}
use Rattle.flow_net.specs.Nets.{Net, IsNode}
use Rattle.flow_net.specs.NodeSets.{one_of}
use Rattle.flow_net.specs.Flows.{HasValue}
use Rattle.flow_net.specs.GreatestFlows.{HasGreatestValue}
use Rattle.flow_net.specs.Cuts.{capacity, IsMinimumCut}
use Rattle.flow_net.specs.LeastSides.{IsInLeastSourceSide, IsInLeastSinkSide}
use Rattle.flow_solve.specs.declared.residual.half_arcs.Direction.{Direction}
use Rattle.flow_solve.specs.declared.residual.half_arcs.Direction.TheVariants.{Forwards, Backwards}
use Rattle.flow_solve.specs.declared.task.Task.{Task}
use Rattle.flow_solve.specs.residual.Searches.{seen}

-- The set has exactly the nodes that lie in the source side of every minimum cut. It makes a minimum cut itself, whose
-- capacity is the flow's value.
pub record IsLeastSourceSide (net : Net) (s t xs : List ℕ) (X : ℕ → Bool) : Type 0 where
  pub nodes : (v : ℕ) → IsNode net v → IsTrue (X v) ↔ IsInLeastSourceSide net (one_of s) (one_of t) v
  pub minimum : IsMinimumCut net (one_of s) (one_of t) X
  pub value : HasValue net (one_of s) xs (capacity net X)

-- The set has exactly the nodes that lie outside the source side of every minimum cut. The other nodes make a minimum
-- cut, whose capacity is the flow's value.
pub record IsLeastSinkSide (net : Net) (s t xs : List ℕ) (X : ℕ → Bool) : Type 0 where
  pub nodes : (v : ℕ) → IsNode net v → IsTrue (X v) ↔ IsInLeastSinkSide net (one_of s) (one_of t) v
  pub minimum : IsMinimumCut net (one_of s) (one_of t) (λ v. not (X v))
  pub value : HasValue net (one_of s) xs (capacity net (λ v. not (X v)))

-- the one that a search finds in its direction
abbrev pub IsLeastSide : Direction → Net → List ℕ → List ℕ → List ℕ → (ℕ → Bool) → Type 0
IsLeastSide Forwards net s t xs X = IsLeastSourceSide net s t xs X
IsLeastSide Backwards net s t xs X = IsLeastSinkSide net s t xs X

-- the terminals that a search goes from in its direction, and those that it looks out for
abbrev pub starts_of : Direction → List ℕ → List ℕ → List ℕ
starts_of Forwards s t = s
starts_of Backwards s t = t

abbrev pub until_of : Direction → List ℕ → List ℕ → List ℕ
until_of Forwards s t = t
until_of Backwards s t = s

-- of a task: the flow's value is the greatest; the nodes that a search has seen, whose distances stand in the first
-- cells, are the least side
abbrev pub HasGreatestFlow : Task → List ℕ → Type 0
HasGreatestFlow task xs = HasGreatestValue task.packed.net.now (one_of task.s.now) (one_of task.t.now) xs

abbrev pub SeesSide : Direction → Task → List ℕ → List ℕ → Type 0
SeesSide dir task xs cells =
    IsLeastSide dir task.packed.net.now task.s.now task.t.now xs (seen (take task.packed.net.now.nodes cells))
