-- Forests that grow from one root: what their cells hold, and the flows by which they come to nodes without an arc.
use Rattle.std.specs.Prelude.{◌≡◌, ℕ, zero, suc, ◌+◌, ◌-◌, ◌*◌, ◌/◌, ◌%◌, ◌≤◌, ◌<◌, ◌==◌, Bool, false, not, ◌&&◌}
use Rattle.std.specs.Prelude.{List, length, slice_index, slice_index_or, ◌≢◌, Option, MatchOption, IsTrue, IsFalse}
use Rattle.std.specs.Prelude.{◌∷◌, nat_le, if◌then◌else◌}
use Rattle.std.specs.Int.{bit_at}
use Rattle.std.specs.List.{All}
use Rattle.flow_net.specs.declared.networks.Arc.{Arc}
use Rattle.flow_net.specs.Nets.{Net, IsNode, arc_at}
use Rattle.flow_net.specs.Arcs.{no_arc, enters}
use Rattle.flow_net.specs.NodeSets.{just}
use Rattle.flow_net.specs.Flows.{out_of, into, IsFeasible}
use Rattle.flow_net.specs.Connectivity.{leaving, crossing, IsProper}
use Rattle.flow_net.specs.Cuts.{IsCut}
use Rattle.flow_net.specs.Forests.{entering, AreEntered, HasSpread, IsEven, turned}
use Rattle.flow_net.specs.Limits.{IsNet, IsArcWithin}
use Rattle.flow_net.specs.Residual.{Table, residual}
use Rattle.flow_solve.specs.declared.forests.Ground.{Ground}
use Rattle.flow_solve.specs.declared.forests.rows.TheConstants.{TAKEN}
use Rattle.flow_solve.specs.declared.forests.growing.Lead.{Lead}
use Rattle.flow_solve.specs.declared.forests.joining.Budgeted.{Budgeted}
use Rattle.flow_solve.specs.declared.residual.half_arcs.Direction.{Direction}
use Rattle.flow_solve.specs.declared.residual.half_arcs.Direction.TheVariants.{Forwards, Backwards}
use Rattle.flow_solve.specs.residual.HalfArcs.{near_end, far_end}
use Rattle.flow_solve.specs.Steps.{PaysSteps, TakesSteps}

-- a set of nodes that is neither empty nor all has so many arcs out of it
abbrev pub IsReached : Net → ℕ → Type 0
IsReached net k = (X : ℕ → Bool) × IsProper net X × (leaving net X ≡ k)

-- the least number so far is less, or the same: a set still has so many arcs out of it
pub record HasFallen (net : Net) (before after : ℕ) : Type 0 where
  pub reached : IsReached net after
  pub fewer : after ≤ before

-- cell v - 1 counts the arcs that leave node v
abbrev pub AreLeaving : Net → List ℕ → Type 0
AreLeaving net counts = (i : ℕ) → i < net.nodes → slice_index counts i ≡ leaving net (just (i + 1))

-- cell v - 1 counts the arcs that leave node v, and the arcs that enter it
pub record AreDegrees (net : Net) (out into : List ℕ) : Type 0 where
  pub leaving : AreLeaving net out
  pub entering : (i : ℕ) → i < net.nodes → slice_index into i ≡ entering net (just (i + 1))

-- Its arcs are those of some network and these turned round: as many leave a set as cross it there.
pub record IsBothWays (net : Net) : Type 0 where
  pub one_way : Net
  pub limits : IsNet one_way
  pub nodes : one_way.nodes ≡ net.nodes
  pub crossed : (X : ℕ → Bool) → leaving net X ≡ crossing one_way X

-- an even number of arcs leaves each set
abbrev pub AreEven : Net → Type 0
AreEven net = (X : ℕ → Bool) → IsEven (leaving net X)

-- Where searches go backwards, forests grow along the arcs, and where they go forwards, along the arcs turned round.
abbrev pub facing : Direction → Net → Net
facing Forwards net = turned net
facing Backwards net = net

-- the network along whose arcs forests grow
abbrev pub ahead : Ground → Net
ahead ground = facing ground.direction ground.net.now

-- cells hold bits, 32 each, one for each node: whether it is marked
abbrev pub marked_in : List ℕ → ℕ → Bool
marked_in cells zero = false
marked_in cells (suc b) = bit_at (slice_index cells (b / 32)) (b % 32) == 1

-- a search has seen the node; one that the forest has come to counts as unseen
abbrev pub seen_in : List ℕ → List ℕ → ℕ → Bool
seen_in done seen v = marked_in seen v && not (marked_in done v)

-- a node was marked; the others are as they were
pub record HasMarked (w : ℕ) (before after : List ℕ) : Type 0 where
  pub here : IsTrue (marked_in after w)
  pub others : (v : ℕ) → v ≢ w → marked_in after v ≡ marked_in before v

-- rows stand one after the other
abbrev pub Rises : List ℕ → Type 0
Rises first = (u v : ℕ) → u ≤ v → v < length first → slice_index first u ≤ slice_index first v

-- a cell stands in the row of a node
abbrev pub StandsIn : List ℕ → ℕ → ℕ → Type 0
StandsIn first v i = (1 ≤ v) × (v < length first) × (slice_index first (v - 1) ≤ i) × (i < slice_index first v)

-- the node that a number in a cell tells of: the number itself, or the end of the arc before the one with the number
abbrev pub node_told : Bool → Net → ℕ → ℕ
node_told numbered net k = if numbered then (slice_index_or (no_arc ∷ net.arcs) k no_arc).dst else k

-- an arc from a node to another
abbrev pub IsBetween : Arc → ℕ → ℕ → Type 0
IsBetween a v w = (a.src ≡ v) × (a.dst ≡ w)

-- Rows tell of a network, whose arcs are those that no forest has taken: each leads from the node of a row to one that
-- a cell of the row tells of. The highest bit of a cell tells that its arc is taken.
pub record Tells (numbered : Bool) (net : Net) (first rows : List ℕ) (left : Net) : Type 0 where
  pub within : All (IsArcWithin net.nodes) left.arcs
  pub size : length left.arcs ≡ length rows
  pub arc : (v i : ℕ) → StandsIn first v i → slice_index rows i < TAKEN
      → 1 ≤ node_told numbered net (slice_index rows i)
      → IsBetween (arc_at left i) v (node_told numbered net (slice_index rows i))

-- while they are filled, an empty cell tells of a self-loop
pub record AreRows (net : Net) (first cells : List ℕ) (told : Net) : Type 0 where
  pub tells : Tells false net first cells told
  pub empty : (i : ℕ) → slice_index cells i ≡ 0 → (arc_at told i).src ≡ (arc_at told i).dst

-- an arc enters a set, from one of the nodes behind a node and up to another
abbrev pub enters_from : ℕ → ℕ → (ℕ → Bool) → Arc → Bool
enters_from low high Y a = enters Y a && nat_le (suc low) a.src && nat_le a.src high

-- rows tell of more arcs than before: of so many more that enter a set
abbrev pub AreMore : Net → List ℕ → List ℕ → List ℕ → ((ℕ → Bool) → ℕ) → Type 0
AreMore net first before after count = (told : Net) → AreRows net first before told
    → (more : Net) × AreRows net first after more × ((Y : ℕ → Bool) → entering more Y ≡ entering told Y + count Y)

-- where forests grow: a network, a root, where each row begins, and marks for each node
pub record IsStand (ground : Ground) (done : List ℕ) : Type 0 where
  pub limits : IsNet ground.net.now
  pub root : IsNode ground.net.now ground.root
  pub firsts : length ground.first.now ≡ ground.net.now.nodes + 1
  pub size : ground.net.now.nodes ≤ 32 * length done

-- a cell before another whose arc leads on from a node of its row to one that a search for it didn't find marked; the
-- arc isn't taken, if not all are looked at
pub record IsLead (ground : Ground) (rows done : List ℕ) (from end : ℕ) (all : Bool) (lead : Lead) : Type 0 where
  pub after : from ≤ lead.cell
  pub before : lead.cell < end
  pub cell : lead.cell < length rows
  pub free : IsFalse all → slice_index rows lead.cell < TAKEN
  pub behind : lead.behind
      ≡ node_told ground.numbered (ahead ground) (slice_index rows lead.cell % TAKEN)
  pub size : lead.behind ≤ 32 * length done

-- where forests grow before searches have what they need, and afterwards
abbrev pub at_stage : Ground → Bool → Ground
at_stage ground ready = record {
  net = ground.net;
  root = ground.root;
  direction = ground.direction;
  first = ground.first;
  parts = ground.parts;
  paired = ground.paired;
  even = ground.even;
  numbered = ready && not ground.paired;
  dense = ground.dense;
  sorted = ground.sorted;
  scarce = ground.scarce;
}

-- c forests are done, and rows tell of the arcs that are left
abbrev pub IsGrove : Ground → ℕ → ℕ → List ℕ → Type 0
IsGrove ground k c rows = (left : Net) × Tells ground.numbered (ahead ground) ground.first.now rows left
    × AreEntered (ahead ground) left ground.root k c

-- c forests are done, and one more has come to some nodes
abbrev pub IsForest : Ground → ℕ → ℕ → List ℕ → List ℕ → Type 0
IsForest ground k c rows done = (left : Net) × Tells ground.numbered (ahead ground) ground.first.now rows left
    × HasSpread (ahead ground) left ground.root k c (marked_in done)

-- it has come to more
pub record HasGrown (ground : Ground) (rows done rows' done' : List ℕ) : Type 0 where
  pub stand : IsStand ground done'
  pub more : (v : ℕ) → IsTrue (marked_in done v) → IsTrue (marked_in done' v)
  pub forest : (k c : ℕ) → IsForest ground k c rows done → IsForest ground k c rows' done'

-- so much leaves a node, forwards, or enters it, backwards, more than the other way
abbrev pub sends : Direction → Net → ℕ → List ℕ → ℕ → Type 0
sends Forwards net w xs k = out_of (just w) net.arcs xs ≡ k + into (just w) net.arcs xs
sends Backwards net w xs k = into (just w) net.arcs xs ≡ k + out_of (just w) net.arcs xs

-- a feasible flow of so much between a node and those of a set
pub record IsRaised (dir : Direction) (net : Net) (w : ℕ) (done : ℕ → Bool) (xs : List ℕ) (value : ℕ) : Type 0 where
  pub node : IsNode net w
  pub feasible : IsFeasible net (just w) done xs
  pub sent : sends dir net w xs value

-- where a half-arc has a residual capacity and leads from a node of a set, it leads to a node of the set
abbrev pub IsPassed : Ground → List ℕ → (ℕ → Bool) → ℕ → Type 0
IsPassed ground xs X h = IsTrue (X (near_end ground.direction ground.net.now h))
    → 1 ≤ residual ground.net.now xs h → IsTrue (X (far_end ground.direction ground.net.now h))

-- how many arcs lead out of a set, forwards, or into it, backwards
abbrev pub parted : Direction → Net → (ℕ → Bool) → ℕ
parted Forwards net X = leaving net X
parted Backwards net X = entering net X

-- each set that parts a node from those of a set has at least so many of these arcs
abbrev pub IsBelow : Direction → Net → ℕ → (ℕ → Bool) → ℕ → Type 0
IsBelow dir net w done k = (X : ℕ → Bool) → IsCut (just w) done X → k ≤ parted dir net X

-- each set with a node and without the root is entered by at least so many arcs
abbrev pub AreAbove : Ground → ℕ → Type 0
AreAbove ground k = (Y : ℕ → Bool) (v : ℕ) → IsNode ground.net.now v → IsTrue (Y v) → IsFalse (Y ground.root)
    → k ≤ entering (facing ground.direction ground.net.now) Y

-- Where something is answered the steps taken are paid, and else they are no more than could be.
abbrev pub Pays : Table → ℕ → Table → Option ℕ → Type 0
Pays before given after answer =
    MatchOption answer (TakesSteps before after given) (λ r. PaysSteps before given after r)

abbrev pub PaysIfAny : Table → ℕ → Table → Option Budgeted → Type 0
PaysIfAny before given after answer =
    MatchOption answer (TakesSteps before after given) (λ r. PaysSteps before given after r.left)
