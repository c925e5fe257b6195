-- Trails: the paths that a search backwards leaves, from each node that it has seen to a sink.
use Rattle.std.specs.Prelude.{◌≡◌, ℕ, zero, suc, ◌-◌, ◌≤◌, ◌<◌, List, [], ◌∷◌, length, slice_index, IsTrue, IsFalse}
use Rattle.flow_net.specs.declared.limits.TheConstants.{GREATEST_CAPACITY}
use Rattle.flow_net.specs.Nets.{Net, IsNode}
use Rattle.flow_net.specs.NodeSets.{one_of}
use Rattle.flow_net.specs.Paths.{HasRoom}
use Rattle.flow_net.specs.Residual.{head_of}
use Rattle.flow_solve.specs.declared.paths.Trail.{Trail}
use Rattle.flow_solve.specs.declared.residual.half_arcs.Direction.TheVariants.{Backwards}
use Rattle.flow_solve.specs.residual.Searches.{IsMarked, IsCome, seen}

-- the half-arcs over which so many steps lead on from a node
abbrev pub trail : Net → List ℕ → ℕ → ℕ → List ℕ
trail net via zero v = []
trail net via (suc d) v = slice_index via (v - 1) ∷ trail net via d (head_of net (slice_index via (v - 1)))

-- as many as the node's distance
abbrev pub trail_from : Net → List ℕ → List ℕ → ℕ → List ℕ
trail_from net dist via v = trail net via (slice_index dist (v - 1)) v

-- each marked place with a distance was come to, backwards, and no distance is as large as the number of nodes
pub record AreTrails (net : Net) (flows dist via : List ℕ) : Type 0 where
  pub dist_size : length dist ≡ net.nodes
  pub via_size : length via ≡ net.nodes
  pub come : (p : ℕ) → p < net.nodes → IsMarked dist p → 1 ≤ slice_index dist p → IsCome net flows Backwards dist via p
  pub levels : (p : ℕ) → p < net.nodes → IsMarked dist p → slice_index dist p < net.nodes

-- the half-arcs of a trail: those from one of its nodes, and all of them
abbrev pub halves_from : Trail → ℕ → List ℕ
halves_from t v = trail_from t.net.now t.dist.now t.via.now v

abbrev pub halves_on : Trail → List ℕ
halves_on t = halves_from t t.source

-- It is one of such a flow, from a node that the search has seen.
pub record IsTrail (t : Trail) (flows : List ℕ) : Type 0 where
  pub trails : AreTrails t.net.now flows t.dist.now t.via.now
  pub node : IsNode t.net.now t.source
  pub marked : IsMarked t.dist.now (t.source - 1)

-- a node of a list that the search has seen, and the first such node
abbrev pub IsSeenOf : List ℕ → List ℕ → ℕ → Type 0
IsSeenOf nodes dist v = IsTrue (one_of nodes v) × (1 ≤ v) × (v ≤ length dist) × IsMarked dist (v - 1)

abbrev pub IsFirstSeen : List ℕ → List ℕ → ℕ → Type 0
IsFirstSeen nodes dist v =
    (i : ℕ) × (i < length nodes) × (slice_index nodes i ≡ v)
    × ((j : ℕ) → j < i → IsFalse (seen dist (slice_index nodes j)))

-- no amount that a table can hold and that has room on the half-arcs is greater
abbrev pub IsMost : Net → List ℕ → List ℕ → ℕ → Type 0
IsMost net flows hs k = (d : ℕ) → d ≤ GREATEST_CAPACITY → HasRoom net flows d hs → d ≤ k
