-- The method by levels (Dinitz 1970): numbers of nodes, the *ranks*, that fall along walks, places that only move on,
-- and what a phase leaves. The ranks of a phase are the distances that its search gives.
use Rattle.std.specs.Prelude.{◌≡◌, ◌≢◌, ℕ, zero, suc, ◌+◌, ◌-◌, ◌*◌, ◌≤◌, ◌<◌, ◌==◌, ◌⊎◌, ◌&&◌, min, nat_lt, Bool}
use Rattle.std.specs.Prelude.{true, false, not, IsTrue, IsFalse, List, [], ◌∷◌, length, slice_index, take}
use Rattle.std.specs.Prelude.{if◌then◌else◌}
use Rattle.std.specs.List.{AllByRecursion}
use Rattle.flow_net.specs.Nets.{Net, IsNode}
use Rattle.flow_net.specs.Limits.{AreTerminals}
use Rattle.flow_net.specs.NodeSets.{one_of}
use Rattle.flow_net.specs.Flows.{IsFeasible, HasValue, HasNoLoops}
use Rattle.flow_net.specs.Residual.{Table, tail_of, head_of, residual}
use Rattle.flow_solve.specs.declared.residual.half_arcs.Direction.TheVariants.{Backwards}
use Rattle.flow_solve.specs.declared.residual.searching.Plan.{Plan}
use Rattle.flow_solve.specs.declared.levels.walking.Phase.{Phase}
use Rattle.flow_solve.specs.declared.levels.walking.Walks.{Walks}
use Rattle.flow_solve.specs.residual.Packs.{IsPacked}
use Rattle.flow_solve.specs.residual.Searches.{seen, IsSearched}

-- the cell of a node; 0 for no node
abbrev pub cell_of : List ℕ → ℕ → ℕ
cell_of cells zero = 0
cell_of cells (suc p) = slice_index cells p

-- where a half-arc first stands among the packed ones
abbrev pub first_at : List ℕ → ℕ → ℕ
first_at [] h = 0
first_at (g ∷ halves) h = if g == h then 0 else first_at halves h + 1

-- how many numbers below n pass a test
abbrev pub count_below : ℕ → (ℕ → Bool) → ℕ
count_below zero p = 0
count_below (suc n) p = count_below n p + (if p n then 1 else 0)

-- the half-arc leads to a node of a lower rank; its place lies before the current place of the node that it leaves
abbrev pub falls : Net → (ℕ → ℕ) → ℕ → Bool
falls net rank h = nat_lt (rank (head_of net h)) (rank (tail_of net h))

abbrev pub passed : Net → (ℕ → ℕ) → (ℕ → ℕ) → ℕ → Bool
passed net place current h = nat_lt (place h) (current (tail_of net h))

-- how many half-arcs fall, aren't passed, and meet a test
abbrev pub is_left : Net → (ℕ → ℕ) → (ℕ → ℕ) → (ℕ → ℕ) → (ℕ → Bool) → ℕ → Bool
is_left net rank place current test h = falls net rank h && (not (passed net place current h) && test h)

abbrev pub left : Net → (ℕ → ℕ) → (ℕ → ℕ) → (ℕ → ℕ) → (ℕ → Bool) → ℕ
left net rank place current test = count_below (2 * length net.arcs) (is_left net rank place current test)

-- the tests: any half-arc, and one with a residual capacity
abbrev pub any : ℕ → Bool
any h = true

abbrev pub is_open : Net → List ℕ → ℕ → Bool
is_open net xs h = not (residual net xs h == 0)

-- the sum of a weight over the numbers below n that pass a test
abbrev pub weight_below : ℕ → (ℕ → Bool) → (ℕ → ℕ) → ℕ
weight_below zero p w = 0
weight_below (suc n) p w = weight_below n p w + (if p n then w n else 0)

-- What the augmentation costs that fills a half-arc: a look and a push for each half-arc of its path, and a look for
-- each half-arc that the walk goes along anew. The walk goes on where the filled one begins, and ranks fall along its
-- path, so these are no more than that node's rank.
abbrev pub fill_cost : Net → (ℕ → ℕ) → ℕ → ℕ
fill_cost net rank h = 2 * (net.nodes - 1) + min (rank (tail_of net h)) (net.nodes - 1)

-- the sum of these over the half-arcs that fall, aren't passed, and have a residual capacity
abbrev pub to_fill : Net → (ℕ → ℕ) → (ℕ → ℕ) → (ℕ → ℕ) → List ℕ → ℕ
to_fill net rank place current xs =
    weight_below (2 * length net.arcs) (is_left net rank place current (is_open net xs)) (fill_cost net rank)

-- what the rest of a phase may cost, in steps
abbrev pub owed : Net → List ℕ → List ℕ → List ℕ → List ℕ → ℕ
owed net halves rank current xs =
    to_fill net (cell_of rank) (first_at halves) (cell_of current) xs
    + left net (cell_of rank) (first_at halves) (cell_of current) any

-- no sink, and each half-arc that leads from it to another node is passed
pub record IsDead (net : Net) (sink : ℕ → Bool) (place current : ℕ → ℕ) (v : ℕ) : Type 0 where
  pub inner : sink v ≡ false
  pub over : (h : ℕ) → h < 2 * length net.arcs → tail_of net h ≡ v → head_of net h ≢ v → place h < current v

-- on what was passed and falls nothing remains, or it leads to a dead node
abbrev pub IsBlocked : Net → (ℕ → Bool) → (ℕ → ℕ) → (ℕ → ℕ) → (ℕ → ℕ) → List ℕ → Type 0
IsBlocked net sink rank place current xs = (h : ℕ) → h < 2 * length net.arcs → place h < current (tail_of net h)
    → rank (head_of net h) < rank (tail_of net h) → (residual net xs h ≡ 0)
    ⊎ IsDead net sink place current (head_of net h)

-- each node's current place lies among its half-arcs, or behind them
abbrev pub AreWithin : Net → List ℕ → (ℕ → ℕ) → Type 0
AreWithin net first current = (v : ℕ) → IsNode net v → (slice_index first (v - 1) ≤ current v)
    × (current v ≤ slice_index first v)

-- only one node's place has moved, and not back
pub record HasMoved (now next : ℕ → ℕ) (x : ℕ) : Type 0 where
  pub up : now x ≤ next x
  pub there : (v : ℕ) → v ≢ x → next v ≡ now v

-- the current places: a cell for each node, and each within the node's half-arcs or behind them
pub record IsCurrent (net : Net) (first current : List ℕ) : Type 0 where
  pub size : length current ≡ net.nodes
  pub places : AreWithin net first (cell_of current)

-- what a look for an admissible half-arc of a node does to the current places
pub record IsLooked (net : Net) (first halves rank now next xs : List ℕ) (x : ℕ) : Type 0 where
  pub size : length next ≡ net.nodes
  pub places : AreWithin net first (cell_of next)
  pub moved : HasMoved (cell_of now) (cell_of next) x
  pub blocked : (t : ℕ → Bool) → IsBlocked net t (cell_of rank) (first_at halves) (cell_of now) xs
      → IsBlocked net t (cell_of rank) (first_at halves) (cell_of next) xs

-- of the half-arcs of a path, the e-th is the first on which the least remains, and that is b
pub record IsFilling (net : Net) (xs hs : List ℕ) (e b : ℕ) : Type 0 where
  pub place : e < length hs
  pub amount : b ≡ residual net xs (slice_index hs e)
  pub least : (i : ℕ) → i < length hs → b ≤ residual net xs (slice_index hs i)
  pub first : (i : ℕ) → i < e → b < residual net xs (slice_index hs i)

-- the half-arc at a node's current place leads to a lower rank, and something remains on it
pub record IsAdmissible (net : Net) (rank place current : ℕ → ℕ) (xs : List ℕ) (v h : ℕ) : Type 0 where
  pub half : h < 2 * length net.arcs
  pub tail : tail_of net h ≡ v
  pub here : place h ≡ current v
  pub falls : rank (head_of net h) < rank (tail_of net h)
  pub remains : 1 ≤ residual net xs h

-- what holds throughout a phase
pub record IsInPhase (net : Net) (s t first halves rank current xs : List ℕ) (k : ℕ) : Type 0 where
  pub feasible : IsFeasible net (one_of s) (one_of t) xs
  pub value : HasValue net (one_of s) xs k
  pub no_loops : HasNoLoops net xs
  pub size : length current ≡ net.nodes
  pub places : AreWithin net first (cell_of current)
  pub blocked : IsBlocked net (one_of t) (cell_of rank) (first_at halves) (cell_of current) xs

-- the sinks are the nodes of distance 0
abbrev pub AreSinks : Net → List ℕ → List ℕ → Type 0
AreSinks net t dist = (v : ℕ) → IsNode net v → (IsTrue (one_of t v) → cell_of dist v ≡ 0)
    × (cell_of dist v ≡ 0 → IsTrue (one_of t v))

-- of two nodes the one at the lower level has the lower rank
abbrev pub IsOrdered : Net → (ℕ → ℕ) → (ℕ → ℕ) → Type 0
IsOrdered net level rank = (v w : ℕ) → IsNode net v → IsNode net w → level v < level w → rank v < rank w

-- no half-arc with a residual capacity leads down by more than one level
abbrev pub IsGentle : Net → List ℕ → (ℕ → ℕ) → Type 0
IsGentle net xs level = (h : ℕ) → h < 2 * length net.arcs → 1 ≤ residual net xs h
    → level (tail_of net h) ≤ level (head_of net h) + 1

-- levels after a search: a node that it saw is at its distance, and a source that it didn't see is far above
pub record IsLevelled (net : Net) (s t xs dist : List ℕ) (level : ℕ → ℕ) : Type 0 where
  pub gentle : IsGentle net xs level
  pub ordered : IsOrdered net level (cell_of dist)
  pub sinks : (v : ℕ) → IsTrue (one_of t v) → level v ≡ 0
  pub near : (v : ℕ) → IsTrue (seen dist v) → level v ≡ cell_of dist v
  pub far : (v : ℕ) → IsTrue (one_of s v) → IsFalse (seen dist v) → net.nodes ≤ level v

-- what a search backwards that has seen a source leaves to a phase
pub record AreLevels (net : Net) (s t xs dist : List ℕ) : Type 0 where
  pub via : List ℕ
  pub searched : IsSearched net xs Backwards t dist via
  pub source : (v : ℕ) × IsTrue (one_of s v) × IsTrue (seen dist v)
  pub sinks : AreSinks net t dist
  pub near : (v : ℕ) → IsTrue (seen dist v) → cell_of dist v < net.nodes
  pub levels : (level : ℕ → ℕ) × IsLevelled net s t xs dist level

-- what the walks of a phase go by: terminals, packed half-arcs, and a distance for each node
pub record IsPhase (phase : Phase) : Type 0 where
  pub terminals : AreTerminals phase.packed.net.now phase.s.now phase.t.now
  pub packed : IsPacked phase.packed.net.now phase.packed.first.now phase.packed.halves.now
  pub dist_size : length phase.dist.now ≡ phase.packed.net.now.nodes
  pub sinks : AreSinks phase.packed.net.now phase.t.now phase.dist.now

-- after j phases: whatever a search backwards finds, it sees a source only at a distance above j
abbrev pub IsFar : Net → List ℕ → List ℕ → List ℕ → ℕ → Type 0
IsFar net s t xs j = (dist via : List ℕ) → IsSearched net xs Backwards t dist via → (v : ℕ) → IsTrue (one_of s v)
    → IsTrue (seen dist v) → j + 1 ≤ cell_of dist v

-- the ranks fall along a list of half-arcs
abbrev pub Descends : Net → (ℕ → ℕ) → List ℕ → Type 0
Descends net rank hs = AllByRecursion (λ h. rank (head_of net h) < rank (tail_of net h)) hs

-- the same words, of a phase as the code has it
abbrev pub IsAt : Phase → List ℕ → List ℕ → ℕ → Type 0
IsAt phase current xs k =
    IsInPhase phase.packed.net.now phase.s.now phase.t.now phase.packed.first.now phase.packed.halves.now
    phase.dist.now current xs k

-- walks at a phase's places, with cells for a path
pub record AreWalks (run : Phase) (xs : List ℕ) (walks : Walks) : Type 0 where
  pub phase : IsAt run walks.current.now xs walks.value
  pub path_size : length walks.path.now ≡ run.packed.net.now.nodes

-- the first half-arcs of their path
abbrev pub path_of : Walks → ℕ → List ℕ
path_of walks k = take k walks.path.now

-- the same cells, whatever they hold
pub record AreSameWalks (before after : Walks) : Type 0 where
  pub current : after.current.ghost_name ≡ before.current.ghost_name
  pub current_size : length after.current.now ≡ length before.current.now
  pub path : after.path.ghost_name ≡ before.path.ghost_name
  pub path_size : length after.path.now ≡ length before.path.now

abbrev pub owes : Phase → List ℕ → Table → ℕ
owes phase current table = owed phase.packed.net.now phase.packed.halves.now phase.dist.now current table.flows

abbrev pub IsDeadIn : Phase → List ℕ → ℕ → Type 0
IsDeadIn phase current v =
    IsDead phase.packed.net.now (one_of phase.t.now) (first_at phase.packed.halves.now) (cell_of current) v

abbrev pub KeepsGentle : Phase → List ℕ → List ℕ → Type 0
KeepsGentle phase xs ys =
    (level : ℕ → ℕ) → IsOrdered phase.packed.net.now level (cell_of phase.dist.now)
    → IsGentle phase.packed.net.now xs level → IsGentle phase.packed.net.now ys level

abbrev pub HasLevels : Phase → List ℕ → Type 0
HasLevels phase xs = AreLevels phase.packed.net.now phase.s.now phase.t.now xs phase.dist.now

abbrev pub IsFarIn : Phase → List ℕ → ℕ → Type 0
IsFarIn phase xs j = IsFar phase.packed.net.now phase.s.now phase.t.now xs j

abbrev pub HasLooked : Phase → List ℕ → List ℕ → List ℕ → ℕ → Type 0
HasLooked phase now next xs v =
    IsLooked phase.packed.net.now phase.packed.first.now phase.packed.halves.now phase.dist.now now next xs v

abbrev pub IsNext : Phase → List ℕ → List ℕ → ℕ → ℕ → Type 0
IsNext phase current xs v h =
    IsAdmissible phase.packed.net.now (cell_of phase.dist.now) (first_at phase.packed.halves.now) (cell_of current) xs
    v h

-- the looks for a node's next half-arc, but some, are paid by the half-arcs that they pass
abbrev pub Looks : Phase → List ℕ → Table → List ℕ → Table → ℕ → Type 0
Looks phase now before next after some =
    after.steps
    + left phase.packed.net.now (cell_of phase.dist.now) (first_at phase.packed.halves.now) (cell_of next) any
    ≤ before.steps
    + left phase.packed.net.now (cell_of phase.dist.now) (first_at phase.packed.halves.now) (cell_of now) any + some

abbrev pub FindsLevels : Plan → List ℕ → List ℕ → Type 0
FindsLevels plan xs dist = AreLevels plan.packed.net.now plan.until.now plan.starts.now xs dist

-- each source that was seen is dead; each node that was seen is nearer than there are nodes
abbrev pub AreDead : Phase → List ℕ → Type 0
AreDead phase current = (v : ℕ) → IsTrue (one_of phase.s.now v) → IsTrue (seen phase.dist.now v)
    → IsDeadIn phase current v

abbrev pub AreNearIn : Phase → Type 0
AreNearIn phase = (v : ℕ) → IsTrue (seen phase.dist.now v) → cell_of phase.dist.now v < phase.packed.net.now.nodes

-- the steps of a walk are paid by what the phase owes less after it
abbrev pub PaysOwed : Phase → List ℕ → Table → List ℕ → Table → Type 0
PaysOwed phase now before next after = after.steps + owes phase next after ≤ before.steps + owes phase now before
