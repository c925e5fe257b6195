-- Breadth-first searches over the residual network, forwards from sources or backwards from sinks. Lists of cells have
-- a cell for each node, that of node 1 first; the place of a node is the number of its cell.
use Rattle.std.specs.Prelude.{◌⊎◌, ◌≡◌, ℕ, zero, suc, ◌+◌, ◌-◌, ◌*◌, ◌<◌, ◌≤◌, nat_lt, if◌then◌else◌, Bool}
use Rattle.std.specs.Prelude.{false, IsTrue, IsFalse, List, length, slice_index, slice_index_or}
use Rattle.flow_net.specs.Nets.{Net}
use Rattle.flow_net.specs.NodeSets.{one_of}
use Rattle.flow_net.specs.Paths.{IsPath, IsApart, HasRoom}
use Rattle.flow_net.specs.Residual.{head_of, residual}
use Rattle.flow_solve.specs.declared.residual.searching.TheConstants.{FAR, WANTED}
use Rattle.flow_net.specs.declared.limits.TheConstants.{MOST_NODES}
use Rattle.flow_solve.specs.declared.residual.searching.Arrival.{Arrival}
use Rattle.flow_solve.specs.declared.residual.half_arcs.Direction.{Direction}
use Rattle.flow_solve.specs.declared.residual.searching.Plan.{Plan}
use Rattle.flow_solve.specs.declared.residual.searching.Progress.{Progress}
use Rattle.flow_solve.specs.declared.residual.half_arcs.Direction.TheVariants.{Forwards, Backwards}
use Rattle.flow_solve.specs.residual.HalfArcs.{near_end, far_end, crossed, IsClosedFor}
use Rattle.flow_solve.specs.residual.Packs.{group_of}

-- the set contains each node of a list
abbrev pub ContainsAll : List ℕ → (ℕ → Bool) → Type 0
ContainsAll nodes X = (v : ℕ) → IsTrue (one_of nodes v) → IsTrue (X v)

-- The search has seen the node at a place: its cell has a distance, and neither of the two numbers for an unseen node,
-- FAR and, for one that the search looks out for, WANTED.
abbrev pub IsMarked : List ℕ → ℕ → Type 0
IsMarked dist p = slice_index dist p < WANTED

-- the set of the nodes that the search has seen
abbrev pub seen : List ℕ → ℕ → Bool
seen dist zero = false
seen dist (suc p) = nat_lt (slice_index_or dist p FAR) WANTED

-- no marked place is farther
abbrev pub IsNear : List ℕ → ℕ → Type 0
IsNear dist level = (p : ℕ) → IsMarked dist p → slice_index dist p ≤ level

-- the set contains the node at each marked place
abbrev pub ContainsMarked : ℕ → List ℕ → (ℕ → Bool) → Type 0
ContainsMarked n dist X = (p : ℕ) → p < n → IsMarked dist p → IsTrue (X (p + 1))

-- a sum over the marked places among the first
abbrev pub spread : (ℕ → ℕ) → List ℕ → ℕ → ℕ
spread w dist zero = 0
spread w dist (suc k) = spread w dist k + (if nat_lt (slice_index dist k) WANTED then w k else 0)

-- a sum over the first places in the queue
abbrev pub queued : (ℕ → ℕ) → List ℕ → ℕ → ℕ
queued w queue zero = 0
queued w queue (suc k) = queued w queue k + w (slice_index queue k)

-- the queue has each marked place once, in its first cells, the nearest first
pub record IsQueue (dist queue : List ℕ) (tail : ℕ) : Type 0 where
  pub sums : (w : ℕ → ℕ) → spread w dist (length dist) ≡ queued w queue tail
  pub places : (i : ℕ) → i < tail → slice_index queue i < length dist
  pub marks : (i : ℕ) → i < tail → IsMarked dist (slice_index queue i)
  pub waits : (p : ℕ) → p < length dist → IsMarked dist p → (i : ℕ) × (i < tail) × (slice_index queue i ≡ p)
  pub levels : (p : ℕ) → p < length dist → IsMarked dist p → slice_index dist p < tail
  pub rises : (i j : ℕ) → i ≤ j → j < tail
      → slice_index dist (slice_index queue i) ≤ slice_index dist (slice_index queue j)

-- what an unseen node's cell has, by whether the search looks out for the node; and 1 where it does
abbrev pub unseen_cell : List ℕ → ℕ → ℕ
unseen_cell until p = if one_of until (p + 1) then WANTED else FAR

abbrev pub wanted_at : List ℕ → ℕ → ℕ
wanted_at until p = if one_of until (p + 1) then 1 else 0

-- how many of the nodes that the search looks out for were seen
pub record IsCount (until dist : List ℕ) (wanted : ℕ) : Type 0 where
  pub cells : (p : ℕ) → p < length dist → WANTED ≤ slice_index dist p → slice_index dist p ≡ unseen_cell until p
  pub count : wanted ≡ spread (wanted_at until) dist (length dist)

-- a search that goes on: what it has seen stays as it was, and it counts each node that it looks out for
pub record GoesOn (dist via queue : List ℕ) (before : Progress) (dist' via' queue' : List ℕ) (after : Progress)
    : Type 0 where
  pub kept : (p : ℕ) → IsMarked dist p → (slice_index dist' p ≡ slice_index dist p)
      × (slice_index via' p ≡ slice_index via p)
  pub ahead : (i : ℕ) → i < before.seen → slice_index queue' i ≡ slice_index queue i
  pub more : before.seen ≤ after.seen
  pub count : (until : List ℕ) → IsCount until dist before.wanted → IsCount until dist' after.wanted

-- the cells of a search: one for each node in each list
pub record AreCells (net : Net) (dist via queue : List ℕ) : Type 0 where
  pub dist_size : length dist ≡ net.nodes
  pub via_size : length via ≡ net.nodes
  pub queue_size : length queue ≡ net.nodes

-- how far a search is: it has a cell for each node in each list, and what it has seen stands in the queue
pub record IsSearch (dist via queue : List ℕ) (progress : Progress) : Type 0 where
  pub via_size : length via ≡ length dist
  pub queue_size : length queue ≡ length dist
  pub few : length dist ≤ MOST_NODES
  pub order : IsQueue dist queue progress.seen
  pub wanted : progress.wanted ≤ progress.seen

-- a search may come to a place: it is unseen, and none that was seen is farther
pub record IsArrival (dist : List ℕ) (progress : Progress) (arrival : Arrival) : Type 0 where
  pub place : arrival.place < length dist
  pub unseen : WANTED ≤ slice_index dist arrival.place
  pub level : arrival.level ≤ progress.seen
  pub near : IsNear dist arrival.level

-- for a half-arc that leaves a node: the search may cross it, and so comes to a place
pub record LeadsTo (dir : Direction) (net : Net) (flows : List ℕ) (h d : ℕ) (arrival : Arrival) : Type 0 where
  pub head : head_of net h ≡ arrival.place + 1
  pub remains : 1 ≤ residual net flows (crossed dir h)
  pub level : arrival.level ≡ d
  pub half : arrival.half ≡ crossed dir h

-- it has come there
pub record HasArrived (dist via : List ℕ) (arrival : Arrival) : Type 0 where
  pub marked : IsMarked dist arrival.place
  pub level : slice_index dist arrival.place ≡ arrival.level
  pub half : slice_index via arrival.place ≡ arrival.half
  pub near : IsNear dist arrival.level

-- among the farthest nodes that the search has seen is one that it looks out for
abbrev pub EndsWithWanted : List ℕ → List ℕ → Type 0
EndsWithWanted until dist = (p : ℕ) × IsTrue (one_of until (p + 1)) × IsMarked dist p × IsNear dist (slice_index dist p)

-- the search came to the place over the half-arc in its cell of `via`, from a node that is nearer by one
pub record IsCome (net : Net) (flows : List ℕ) (dir : Direction) (dist via : List ℕ) (p : ℕ) : Type 0 where
  pub in_range : slice_index via p < 2 * length net.arcs
  pub far : far_end dir net (slice_index via p) ≡ p + 1
  pub remains : 1 ≤ residual net flows (slice_index via p)
  pub near : 1 ≤ near_end dir net (slice_index via p)
  pub within : near_end dir net (slice_index via p) ≤ net.nodes
  pub marked : IsMarked dist (near_end dir net (slice_index via p) - 1)
  pub level : slice_index dist (near_end dir net (slice_index via p) - 1) + 1 ≡ slice_index dist p

-- each half-arc with a residual capacity whose near end is at the place has a marked far end, farther by one at most
abbrev pub IsDone : Net → List ℕ → Direction → List ℕ → ℕ → Type 0
IsDone net flows dir dist p = (h : ℕ) → h < 2 * length net.arcs → group_of net h ≡ p
    → 1 ≤ residual net flows (crossed dir h)
    → IsMarked dist (head_of net h - 1) × (slice_index dist (head_of net h - 1) ≤ slice_index dist p + 1)

-- each half-arc that leaves a place was followed, and nothing else came in
pub record IsFollowed (net : Net) (flows : List ℕ) (dir : Direction) (place : ℕ) (dist dist' via' : List ℕ)
    : Type 0 where
  pub near : IsNear dist' (slice_index dist place + 1)
  pub come : (p : ℕ) → IsMarked dist' p → IsMarked dist p ⊎ IsCome net flows dir dist' via' p
  pub next_level : (p : ℕ) → IsMarked dist' p → IsMarked dist p ⊎ (slice_index dist' p ≡ slice_index dist place + 1)
  pub done : (h : ℕ) → h < 2 * length net.arcs → group_of net h ≡ place → 1 ≤ residual net flows (crossed dir h)
      → IsMarked dist' (head_of net h - 1)
  pub only : (side : ℕ → Bool) → IsClosedFor dir net flows side → IsTrue (side (place + 1))
      → ContainsMarked net.nodes dist side → ContainsMarked net.nodes dist' side

-- What a search has found, also where it has stopped early: the starts are marked with 0; a marked place was come to; a
-- place is done, or else no marked place is farther than it by more than one; each closed set that contains the starts
-- contains what is marked.
pub record IsSearched (net : Net) (flows : List ℕ) (dir : Direction) (starts dist via : List ℕ) : Type 0 where
  pub size : length dist ≡ net.nodes
  pub begun : (i : ℕ) → i < length starts → IsMarked dist (slice_index starts i - 1)
  pub zeros : (i : ℕ) → i < length starts → slice_index dist (slice_index starts i - 1) ≡ 0
  pub come : (p : ℕ) → p < net.nodes → IsMarked dist p → ((slice_index dist p ≡ 0) × IsTrue (one_of starts (p + 1)))
      ⊎ IsCome net flows dir dist via p
  pub levels : (p : ℕ) → p < net.nodes → IsMarked dist p → slice_index dist p < net.nodes
  pub even : (p : ℕ) → p < net.nodes → IsMarked dist p → IsDone net flows dir dist p
      ⊎ IsNear dist (slice_index dist p + 1)
  pub least : (X : ℕ → Bool) → ContainsAll starts X → IsClosedFor dir net flows X → ContainsMarked net.nodes dist X

-- the least closed set that contains the starts: all that a search can come to
pub record IsWhole (dir : Direction) (net : Net) (flows starts : List ℕ) (X : ℕ → Bool) : Type 0 where
  pub contains : ContainsAll starts X
  pub closed : IsClosedFor dir net flows X
  pub least : (Y : ℕ → Bool) → ContainsAll starts Y → IsClosedFor dir net flows Y → (v : ℕ) → IsTrue (X v)
      → IsTrue (Y v)

-- the search comes to none of the nodes that it looks out for, and has seen all that it can come to
pub record Misses (dir : Direction) (net : Net) (flows starts until dist : List ℕ) : Type 0 where
  pub whole : IsWhole dir net flows starts (seen dist)
  pub outside : (v : ℕ) → IsTrue (one_of until v) → IsFalse (seen dist v)

-- a residual path from a node of one set to a node of another, with no two half-arcs of one arc
pub record IsRoute (net : Net) (flows : List ℕ) (from to : ℕ → Bool) : Type 0 where
  pub first : ℕ
  pub last : ℕ
  pub path : List ℕ
  pub begins : IsTrue (from first)
  pub ends : IsTrue (to last)
  pub leads : IsPath net first path last
  pub apart : IsApart path
  pub room : HasRoom net flows 1 path

-- the residual network leads, in the search's direction, from a start to one of the nodes that it looks out for
abbrev pub HasRoute : Direction → Net → List ℕ → List ℕ → List ℕ → Type 0
HasRoute Forwards net flows starts until = IsRoute net flows (one_of starts) (one_of until)
HasRoute Backwards net flows starts until = IsRoute net flows (one_of until) (one_of starts)

-- the same words, of a plan as the code has it
abbrev pub HasSearched : Plan → List ℕ → List ℕ → List ℕ → Type 0
HasSearched plan flows dist via = IsSearched plan.packed.net.now flows plan.direction plan.starts.now dist via

abbrev pub HasMissed : Plan → List ℕ → List ℕ → Type 0
HasMissed plan flows dist = Misses plan.direction plan.packed.net.now flows plan.starts.now plan.until.now dist

abbrev pub HasFollowed : Plan → List ℕ → ℕ → List ℕ → List ℕ → List ℕ → Type 0
HasFollowed plan flows place dist dist' via' = IsFollowed plan.packed.net.now flows plan.direction place dist dist' via'

abbrev pub Brings : Plan → List ℕ → ℕ → ℕ → Arrival → Type 0
Brings plan flows h d arrival = LeadsTo plan.direction plan.packed.net.now flows h d arrival

-- where a half-arc leads, and what remains on it for the search
abbrev pub place_over : Plan → ℕ → ℕ
place_over plan h = head_of plan.packed.net.now h - 1

abbrev pub room_over : Plan → List ℕ → ℕ → ℕ
room_over plan flows h = residual plan.packed.net.now flows (crossed plan.direction h)

-- it leads to a seen place, or nothing remains on it
abbrev pub IsNoArrival : Plan → List ℕ → ℕ → List ℕ → Type 0
IsNoArrival plan flows h dist = 1 ≤ room_over plan flows h → IsMarked dist (place_over plan h)

-- each marked place is done
abbrev pub HasDone : Plan → List ℕ → List ℕ → Type 0
HasDone plan flows dist =
    (p : ℕ) → p < plan.packed.net.now.nodes → IsMarked dist p → IsDone plan.packed.net.now flows plan.direction dist p

-- where enough were seen, the farthest place is one that the search looks out for
abbrev pub EndsSoon : Plan → ℕ → List ℕ → Type 0
EndsSoon plan wanted dist = 1 ≤ plan.enough → plan.enough ≤ wanted → EndsWithWanted plan.until.now dist

-- the place in the queue whose half-arcs are followed next
abbrev pub next_in : List ℕ → Progress → ℕ
next_in queue progress = slice_index queue progress.followed
