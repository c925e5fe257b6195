-- The verdict on a flow: a number for each arc.
use Rattle.std.specs.Prelude.{◌≡◌, ◌≢◌, ℕ, ◌+◌, ◌^◌, ◌<◌, ◌≤◌, ◌⊎◌, Bool, List, length, slice_index}
use Rattle.flow_net.specs.Nets.{Net, Instance, arc_at}
use Rattle.flow_net.specs.NodeSets.{one_of, just}
use Rattle.flow_net.specs.Flows.{Fits, IsFeasible, HasValue, IsGreatest, into, out_of}
use Rattle.flow_net.specs.GreatestFlows.{HasGreatestValue}
use Rattle.flow_text.specs.declared.solutions.FlowLine.{FlowLine}
use Rattle.flow_tools.specs.checking.ArcShares.{Carries}
use Rattle.flow_tools.specs.checking.NodeSums.{AreNodeFlows}
use Rattle.flow_tools.specs.checking.Verdicts.{IsInner}

-- the first arc whose flow passes its capacity
pub record IsFirstOver (net : Net) (xs : List ℕ) (i : ℕ) : Type 0 where
  pub within : i < length net.arcs
  pub over : (arc_at net i).cap < slice_index xs i
  pub least : (k : ℕ) → k < i → slice_index xs k ≤ (arc_at net k).cap

-- what enters a node leaves it
abbrev pub IsBalanced : Net → List ℕ → ℕ → Type 0
IsBalanced net xs v = into (just v) net.arcs xs ≡ out_of (just v) net.arcs xs

-- what enters each node that is no terminal leaves it
abbrev pub AreBalanced : Instance → List ℕ → Type 0
AreBalanced p xs = (v : ℕ) → IsInner p v → IsBalanced p.net xs v

-- the first node that is no terminal and that isn't balanced
pub record IsFirstUnbalanced (p : Instance) (xs : List ℕ) (v : ℕ) : Type 0 where
  pub inner : IsInner p v
  pub unbalanced : into (just v) p.net.arcs xs ≢ out_of (just v) p.net.arcs xs
  pub least : (w : ℕ) → w < v → IsInner p w → IsBalanced p.net xs w

-- a number of 128 bits is what leaves the sources less what enters them, in two's complement
abbrev pub IsDifference : ℕ → ℕ → ℕ → Type 0
IsDifference out into' w = (w + into' ≡ out) ⊎ (w + into' ≡ out + 2 ^ 128)

-- and so it is the flow's value
abbrev pub HasWord : Net → (ℕ → Bool) → List ℕ → ℕ → Type 0
HasWord net s xs w = IsDifference (out_of s net.arcs xs) (into s net.arcs xs) w

-- the cells hold what enters and what leaves each node, as lines say it that the flow carries
abbrev pub AreSumsOf : Net → List ℕ → List ℕ → List ℕ → Type 0
AreSumsOf net xs into' out =
    (lines : List FlowLine) × Carries net lines xs × AreNodeFlows net.nodes lines into' out

-- the verdict on a flow and what is told with it: 0, it is feasible, and what is told is its value, the greatest one;
-- 1, it is feasible, but its value, which is told in two's complement, isn't the greatest; 2, the first arc whose flow
-- passes its capacity; 3, no flow does, and the first node, no terminal, of which what enters it isn't what leaves it
pub record IsChecked (p : Instance) (xs : List ℕ) (verdict told : ℕ) : Type 0 where
  pub greatest : verdict ≡ 0 → IsFeasible p.net (one_of p.sources) (one_of p.sinks) xs
      × HasValue p.net (one_of p.sources) xs told × IsGreatest p.net (one_of p.sources) (one_of p.sinks) told
  pub smaller : verdict ≡ 1 → IsFeasible p.net (one_of p.sources) (one_of p.sinks) xs
      × HasWord p.net (one_of p.sources) xs told
      × (HasGreatestValue p.net (one_of p.sources) (one_of p.sinks) xs → ⊥)
  pub over : verdict ≡ 2 → IsFirstOver p.net xs told
  pub unbalanced : verdict ≡ 3 → Fits p.net xs × IsFirstUnbalanced p xs (told + 1)
  pub most : verdict ≤ 3
