-- The laws that the rest of the toolkit stands on. Each is the contract of a function of `laws`.
use Rattle.std.specs.Prelude.{◌≡◌, ◌≢◌, ℕ, ◌+◌, ◌<◌, ◌≤◌, ◌⊎◌, ◌↔◌, Bool, List, length, IsTrue, IsFalse}
use Rattle.std.specs.Prelude.{slice_index, slice_set}
use Rattle.flow_net.specs.declared.networks.Arc.{Arc}
use Rattle.flow_net.specs.Nets.{Net, IsNode, arc_at}
use Rattle.flow_net.specs.Limits.{IsNet}
use Rattle.flow_net.specs.DerivedNets.{unit, both_ways}
use Rattle.flow_net.specs.NodeSets.{just}
use Rattle.flow_net.specs.Flows.{out_of, into, IsFeasible, HasValue, IsGreatest}
use Rattle.flow_net.specs.Cuts.{IsCut, capacity, IsMinimumCut}
use Rattle.flow_net.specs.LeastSides.{IsInLeastSourceSide, IsInLeastSinkSide}
use Rattle.flow_net.specs.LeastCuts.{IsLeastCapacity}
use Rattle.flow_net.specs.LeastCuts.{IsConnectivity, IsUndirectedConnectivity, IsPairConnectivity}
use Rattle.flow_net.specs.LeastCuts.{IsUndirectedPairConnectivity}
use Rattle.flow_net.specs.Residual.{IsClosed, IsReachable, IsReaching}
use Rattle.flow_net.specs.Paths.{IsPath, HasRoom, IsApart, push_all, IsMoreBy}

-- no source is a sink
abbrev pub AreApart : (ℕ → Bool) → (ℕ → Bool) → Type 0
AreApart s t = (v : ℕ) → IsTrue (s v) → IsFalse (t v)

-- no feasible flow's value passes a cut's capacity
abbrev pub WeakDuality : Type 0
WeakDuality = (net : Net) (s t X : ℕ → Bool) (xs : List ℕ) → IsNet net → IsFeasible net s t xs → IsCut s t X
    → out_of s net.arcs xs ≤ capacity net X + into s net.arcs xs

-- a cut that no residual half-arc leaves is minimum, and the flow greatest: its value is the cut's capacity
abbrev pub ClosedCut : Type 0
ClosedCut = (net : Net) (s t X : ℕ → Bool) (xs : List ℕ) → IsNet net → IsFeasible net s t xs → IsCut s t X
    → IsClosed net xs X
    → IsGreatest net s t (capacity net X) × IsMinimumCut net s t X × HasValue net s xs (capacity net X)

-- the theorem of Ford and Fulkerson: one number is a feasible flow's greatest value and a cut's least capacity
abbrev pub MaxFlowMinCut : Type 0
MaxFlowMinCut = (net : Net) (s t : ℕ → Bool) → IsNet net → AreApart s t
    → (k : ℕ) × IsGreatest net s t k × IsLeastCapacity net s t k

-- what the residual network of a greatest flow reaches from the sources is the least source side
abbrev pub LeastSourceSide : Type 0
LeastSourceSide = (net : Net) (s t X : ℕ → Bool) (xs : List ℕ) → IsNet net → IsFeasible net s t xs
    → IsReachable net s xs X → ((v : ℕ) → IsTrue (t v) → IsFalse (X v))
    → (v : ℕ) → IsTrue (X v) ↔ IsInLeastSourceSide net s t v

-- what reaches a sink in the residual network of a greatest flow is the least sink side
abbrev pub LeastSinkSide : Type 0
LeastSinkSide = (net : Net) (s t X : ℕ → Bool) (xs : List ℕ) → IsNet net → IsFeasible net s t xs → IsReaching net t xs X
    → ((v : ℕ) → IsTrue (s v) → IsFalse (X v)) → (v : ℕ) → IsTrue (X v) ↔ IsInLeastSinkSide net s t v

-- a push along a residual path from a source to a sink keeps the flow feasible and raises its value by the amount
abbrev pub AugmentingPath : Type 0
AugmentingPath = (net : Net) (s t : ℕ → Bool) (xs : List ℕ) (d u w : ℕ) (hs : List ℕ) → IsFeasible net s t xs
    → IsTrue (s u) → IsTrue (t w) → IsFalse (s w) → IsPath net u hs w → IsApart hs → HasRoom net xs d hs
    → IsFeasible net s t (push_all xs hs d) × IsMoreBy net s xs d (push_all xs hs d)

-- the connectivity with the terminals is the greatest value of a flow where every capacity is 1
abbrev pub PairByFlow : Type 0
PairByFlow = (net : Net) (s t : ℕ → Bool) (k : ℕ) → IsNet net → AreApart s t
    → IsGreatest (unit net) s t k ↔ IsPairConnectivity net s t k

-- k is the least connectivity of a node with another, to it or from it
pub record IsLeastOfPairs (net : Net) (r k : ℕ) : Type 0 where
  pub reached : (v : ℕ) × IsNode net v × (v ≢ r)
      × (IsPairConnectivity net (just r) (just v) k ⊎ IsPairConnectivity net (just v) (just r) k)
  pub least : (v j : ℕ) → IsNode net v → v ≢ r
      → IsPairConnectivity net (just r) (just v) j ⊎ IsPairConnectivity net (just v) (just r) j → k ≤ j

-- the connectivity is the least over one node, whichever it is, and every other, both ways
abbrev pub ConnectivityByPairs : Type 0
ConnectivityByPairs = (net : Net) (r k : ℕ) → IsNet net → IsNode net r → IsConnectivity net k ↔ IsLeastOfPairs net r k

-- the undirected connectivity is the directed one of the network both ways, with the terminals and without
abbrev pub UndirectedByBothWays : Type 0
UndirectedByBothWays = (net : Net) (k : ℕ) → (IsConnectivity (both_ways net) k ↔ IsUndirectedConnectivity net k)
    × ((s t : ℕ → Bool) → IsPairConnectivity (both_ways net) s t k ↔ IsUndirectedPairConnectivity net s t k)

-- the arc with so much more capacity, and the network in which the arc at a place has it
abbrev pub widened : Arc → ℕ → Arc
widened a d = record { src = a.src; dst = a.dst; cap = a.cap + d }

abbrev pub upgraded : Net → ℕ → ℕ → Net
upgraded net i d = record { nodes = net.nodes; arcs = slice_set net.arcs i (widened (arc_at net i) d) }

-- more capacity on one arc alone raises the greatest value just where the arc begins in the least source side and ends
-- in the least sink side
abbrev pub SingleUpgrade : Type 0
SingleUpgrade = (net : Net) (s t : ℕ → Bool) (i d k j : ℕ) → IsNet net → IsNet (upgraded net i d) → AreApart s t
    → i < length net.arcs → 1 ≤ d → IsGreatest net s t k → IsGreatest (upgraded net i d) s t j
    → (k < j) ↔ (IsInLeastSourceSide net s t (arc_at net i).src × IsInLeastSinkSide net s t (arc_at net i).dst)

-- the network in which the arc at a place carries nothing any more
abbrev pub failed : Net → ℕ → Net
failed net i = record {
  nodes = net.nodes;
  arcs = slice_set net.arcs i (record {
    src = (arc_at net i).src;
    dst = (arc_at net i).dst;
    cap = 0;
  });
}

-- an arc that carries nothing in one greatest flow can fail without loss: the greatest value stays, and the flow has it
abbrev pub HarmlessFailure : Type 0
HarmlessFailure = (net : Net) (s t : ℕ → Bool) (i k : ℕ) (xs : List ℕ) → i < length net.arcs → IsGreatest net s t k
    → IsFeasible net s t xs → HasValue net s xs k → slice_index xs i ≡ 0
    → IsFeasible (failed net i) s t xs × HasValue (failed net i) s xs k × IsGreatest (failed net i) s t k
