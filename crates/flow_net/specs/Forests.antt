-- Edge connectivity by forests that have no arc in common, from one root. The arcs that no forest has taken are those
-- that are left: a network of their own, of the same nodes.
use Rattle.std.specs.Prelude.{◌≡◌, ℕ, ◌+◌, ◌-◌, ◌*◌, ◌≤◌, ◌⊎◌, Bool, List, map}
use Rattle.std.specs.Prelude.{IsTrue, IsFalse, if◌then◌else◌}
use Rattle.std.specs.List.{count_by}
use Rattle.flow_net.specs.declared.networks.Arc.{Arc}
use Rattle.flow_net.specs.Nets.{Net, IsNode}
use Rattle.flow_net.specs.Arcs.{enters}
use Rattle.flow_net.specs.Limits.{IsNet}
use Rattle.flow_net.specs.DerivedNets.{unit, reversed, both_ways}
use Rattle.flow_net.specs.NodeSets.{just}
use Rattle.flow_net.specs.Flows.{IsFeasible, HasValue}
use Rattle.flow_net.specs.Cuts.{IsCut}
use Rattle.flow_net.specs.Connectivity.{leaving, crossing, IsProper}
use Rattle.flow_net.specs.LeastCuts.{IsConnectivity, IsUndirectedConnectivity}

-- how many arcs enter a set
abbrev pub entering : Net → (ℕ → Bool) → ℕ
entering net Y = count_by (enters Y) net.arcs

-- at least c of the arcs that enter a set aren't left, or at least k arcs enter it
abbrev pub IsEntered : Net → Net → ℕ → ℕ → (ℕ → Bool) → Type 0
IsEntered net left k c Y = (entering left Y + c ≤ entering net Y) ⊎ (k ≤ entering net Y)

-- c forests are done: this is so of each set that has a node and not the root
pub record AreEntered (net left : Net) (r k c : ℕ) : Type 0 where
  pub entered : (Y : ℕ → Bool) (v : ℕ) → IsNode net v → IsTrue (Y v) → IsFalse (Y r) → IsEntered net left k c Y

-- c forests are done, and one more has come to the nodes of a set: of each set that has one of these and not the root
-- it is so with one arc more
pub record HasSpread (net left : Net) (r k c : ℕ) (done : ℕ → Bool) : Type 0 where
  pub earlier : AreEntered net left r k c
  pub reached : (Y : ℕ → Bool) (v : ℕ) → IsTrue (done v) → IsTrue (Y v) → IsFalse (Y r)
      → IsEntered net left k (c + 1) Y

-- an arc is taken of those that are left
abbrev pub IsTaken : Arc → Net → Net → Type 0
IsTaken a left rest = (Y : ℕ → Bool) → entering rest Y + (if enters Y a then 1 else 0) ≤ entering left Y

-- The steps by which forests grow from a root.
pub record ForestSteps (net : Net) (r : ℕ) : Type 0 where
  -- at the start no forest is done, and no more arcs are left than there are
  pub start : (k : ℕ) (left : Net) → ((Y : ℕ → Bool) → entering left Y ≤ entering net Y) → AreEntered net left r k 0
  -- a forest begins at the root
  pub begin : (k c : ℕ) (left : Net) (done : ℕ → Bool) → AreEntered net left r k c
      → ((v : ℕ) → IsTrue (done v) → v ≡ r) → HasSpread net left r k c done
  -- it comes to the end of an arc that is left and begins where it has come to, and takes it
  pub along : (k c : ℕ) (left rest : Net) (a : Arc) (done next : ℕ → Bool) → HasSpread net left r k c done
      → IsNode net a.dst → IsTrue (done a.src) → IsTaken a left rest
      → ((v : ℕ) → IsTrue (next v) → (v ≡ a.dst) ⊎ IsTrue (done v)) → HasSpread net rest r k c next
  -- it comes without an arc to a node that k arcs or more part from where it has come to, as a flow of k shows
  pub joined : (k c w : ℕ) (left : Net) (done next : ℕ → Bool) → HasSpread net left r k c done
      → ((X : ℕ → Bool) → IsCut done (just w) X → k ≤ leaving net X)
      → ((v : ℕ) → IsTrue (next v) → (v ≡ w) ⊎ IsTrue (done v)) → HasSpread net left r k c next
  pub by_flow : (k w : ℕ) (done : ℕ → Bool) (xs : List ℕ) → IsFeasible (unit net) done (just w) xs
      → HasValue (unit net) done xs k → (X : ℕ → Bool) → IsCut done (just w) X → k ≤ leaving net X
  -- k may be lowered at any time
  pub lower : (j k c : ℕ) (left : Net) (done : ℕ → Bool) → HasSpread net left r k c done → j ≤ k
      → HasSpread net left r j c done
  -- it is done when it has come to all nodes
  pub complete : (k c : ℕ) (left : Net) (done : ℕ → Bool) → HasSpread net left r k c done
      → ((v : ℕ) → IsNode net v → IsTrue (done v)) → AreEntered net left r k (c + 1)

-- so forests grow in each network, from each root
abbrev pub GrowingForests : Type 0
GrowingForests = (net : Net) (r : ℕ) → IsNet net → ForestSteps net r

-- the network with each arc turned round
abbrev pub turned : Net → Net
turned net = record { nodes = net.nodes; arcs = map reversed net.arcs }

-- twice some number
abbrev pub IsEven : ℕ → Type 0
IsEven k = (half : ℕ) × (k ≡ 2 * half)

-- as many arcs leave each set as enter it
abbrev pub IsEitherWay : Net → Type 0
IsEitherWay net = (X : ℕ → Bool) → leaving net X ≡ entering net X

-- that is so where as many leave each node as enter it (Euler 1736)
abbrev pub BalancedSets : Type 0
BalancedSets = (net : Net) → IsNet net → ((v : ℕ) → IsNode net v → leaving net (just v) ≡ entering net (just v))
    → IsEitherWay net

-- an even number of arcs cross each set, where an even number cross each node
abbrev pub EvenSets : Type 0
EvenSets = (net : Net) → IsNet net → ((v : ℕ) → IsNode net v → IsEven (crossing net (just v))) → (X : ℕ → Bool)
    → IsEven (crossing net X)

-- where k forests are done, k is the connectivity if some proper set has so many arcs. The forests are those of the
-- network both ways, for the undirected connectivity; of the network and of the network turned round; or of the network
-- alone, where as many arcs leave each set as enter it: if these are even numbers besides, one forest less is enough
abbrev pub ConnectivityByForests : Type 0
ConnectivityByForests = (net left : Net) (r k : ℕ) (X : ℕ → Bool) → IsProper net X
    → (AreEntered (both_ways net) left r k k → crossing net X ≡ k → IsUndirectedConnectivity net k)
    × (AreEntered net left r k k → (other : Net) → AreEntered (turned net) other r k k → leaving net X ≡ k
    → IsConnectivity net k)
    × (AreEntered net left r k k → IsEitherWay net → leaving net X ≡ k → IsConnectivity net k)
    × (AreEntered net left r k (k - 1) → IsEitherWay net → ((Y : ℕ → Bool) → IsEven (leaving net Y))
    → leaving net X ≡ k → IsConnectivity net k)
