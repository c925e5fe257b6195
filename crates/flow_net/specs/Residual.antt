-- The residual network (Ford and Fulkerson 1956), by half-arcs: half-arc 2·i runs along arc i, and 2·i + 1 against it.
use Rattle.std.specs.Prelude.{ℕ, ◌+◌, ◌-◌, ◌*◌, ◌/◌, ◌%◌, ◌≤◌, ◌<◌, Bool, List, length, slice_index, slice_set, IsTrue}
use Rattle.std.specs.Prelude.{IsFalse, ◌==◌, if◌then◌else◌}
use Rattle.flow_net.specs.declared.networks.Arc.{Arc}
use Rattle.flow_net.specs.Nets.{Net, arc_at}

-- A table of flows: the flow on each arc, and how many looks and pushes were made of it so far.
pub record Table : Type 0 where
  pub flows : List ℕ
  pub steps : ℕ

-- where a half-arc of an arc begins and ends
abbrev pub half_tail : Arc → ℕ → ℕ
half_tail a h = if h % 2 == 0 then a.src else a.dst

abbrev pub half_head : Arc → ℕ → ℕ
half_head a h = if h % 2 == 0 then a.dst else a.src

-- what remains on it where the arc carries x: capacity less flow along the arc, the flow against it
abbrev pub half_room : Arc → ℕ → ℕ → ℕ
half_room a x h = if h % 2 == 0 then a.cap - x else x

-- what the arc carries after a push of d: more along the arc, less against it
abbrev pub half_pushed : ℕ → ℕ → ℕ → ℕ
half_pushed x h d = if h % 2 == 0 then x + d else x - d

-- the same for a half-arc of a network: where it begins, where it ends, and its residual capacity
abbrev pub tail_of : Net → ℕ → ℕ
tail_of net h = half_tail (arc_at net (h / 2)) h

abbrev pub head_of : Net → ℕ → ℕ
head_of net h = half_head (arc_at net (h / 2)) h

abbrev pub residual : Net → List ℕ → ℕ → ℕ
residual net xs h = half_room (arc_at net (h / 2)) (slice_index xs (h / 2)) h

-- the flow after a push of d through a half-arc
abbrev pub pushed : List ℕ → ℕ → ℕ → List ℕ
pushed xs h d = slice_set xs (h / 2) (half_pushed (slice_index xs (h / 2)) h d)

-- no half-arc with a residual capacity leaves the set
abbrev pub IsClosed : Net → List ℕ → (ℕ → Bool) → Type 0
IsClosed net xs X = (h : ℕ) → h < 2 * length net.arcs → IsTrue (X (tail_of net h)) → 1 ≤ residual net xs h
    → IsTrue (X (head_of net h))

-- the least closed set that holds the sources: what the residual network reaches from them
pub record IsReachable (net : Net) (s : ℕ → Bool) (xs : List ℕ) (X : ℕ → Bool) : Type 0 where
  pub sources : (v : ℕ) → IsTrue (s v) → IsTrue (X v)
  pub closed : IsClosed net xs X
  pub least : (Y : ℕ → Bool) → ((v : ℕ) → IsTrue (s v) → IsTrue (Y v)) → IsClosed net xs Y
      → (v : ℕ) → IsTrue (X v) → IsTrue (Y v)

-- its mirror, the least set that holds the sinks and that no half-arc with a residual capacity enters: what reaches a
-- sink
pub record IsReaching (net : Net) (t : ℕ → Bool) (xs : List ℕ) (X : ℕ → Bool) : Type 0 where
  pub sinks : (v : ℕ) → IsTrue (t v) → IsTrue (X v)
  pub closed : (h : ℕ) → h < 2 * length net.arcs → IsTrue (X (head_of net h)) → 1 ≤ residual net xs h
      → IsTrue (X (tail_of net h))
  pub least : (Y : ℕ → Bool) → ((v : ℕ) → IsTrue (t v) → IsFalse (Y v)) → IsClosed net xs Y
      → (v : ℕ) → IsTrue (X v) → IsFalse (Y v)
