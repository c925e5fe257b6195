-- Residual paths that a search has found, and what they show.
use Rattle.std.proofs.Common.{◌≡◌, ◌≢◌, ℕ, zero, suc, ◌+◌, ◌-◌, ◌*◌, ◌/◌, ◌≤◌, ◌<◌, Bool, true, false, IsTrue, List, []}
use Rattle.std.proofs.Common.{◌∷◌, length, get_or, refl, sym, ap, subst, inl, inr, arith}
use Rattle.std.specs.List.{AllByRecursion}
use Rattle.std.proofs.lemmas.Bool.{cases_Bool}
use Rattle.flow_net.specs.Nets.{Net, IsNode}
use Rattle.flow_net.specs.NodeSets.{one_of}
use Rattle.flow_net.specs.Flows.{IsFeasible}
use Rattle.flow_net.specs.GreatestFlows.{HasGreatestValue}
use Rattle.flow_net.specs.Residual.{tail_of, head_of, residual}
use Rattle.flow_net.specs.Paths.{IsPath, HasRoom, IsApart, push_all}
use Rattle.flow_net.specs.Laws.{AreApart}
use Rattle.flow_net.proofs.AugmentingPaths.{Climbs, climbs_apart, augmented}
use Rattle.flow_solve.specs.declared.residual.half_arcs.Direction.{Direction}
use Rattle.flow_solve.specs.declared.residual.half_arcs.Direction.TheVariants.{Forwards, Backwards}
use Rattle.flow_solve.specs.residual.Searches.{IsMarked, IsSearched, IsRoute, HasRoute}
use Rattle.flow_solve.specs.residual.Trails.{trail, trail_from, AreTrails}

pub sink_no_source : (s t : ℕ → Bool) → AreApart s t → (v : ℕ) → t v ≡ true → s v ≡ false
sink_no_source s t a v i = elim (cases_Bool (s v)) [
  | inl both ↦ let not_both = a v both in cc
  | inr out ↦ out
]

-- a flow of greater value exists where a residual path leads from a source to a sink
pub route_raises : (net : Net) (s t : ℕ → Bool) (xs : List ℕ) → AreApart s t → IsFeasible net s t xs
    → IsRoute net xs s t → HasGreatestValue net s t xs → ⊥
route_raises net s t xs a f r g =
    let more = augmented net s t xs 1 r.first r.last r.path f r.begins r.ends (sink_no_source s t a r.last r.ends)
    r.leads r.apart r.room in
    omega (arith, g.1, g.2.most (push_all xs r.path 1) more.0, more.1)

-- forwards: the way that the search came, read back from its end
pub record IsWay (net : Net) (xs : List ℕ) (from : ℕ → Bool) (level : ℕ → ℕ) (w : ℕ) : Type 0 where
  pub first : ℕ
  pub path : List ℕ
  pub begins : IsTrue (from first)
  pub leads : IsPath net first path w
  pub climbs : Climbs net level path
  pub room : HasRoom net xs 1 path

-- a search forwards
module _ {net : Net} {xs s dist via : List ℕ} (f : IsSearched net xs Forwards s dist via) where
  pub way_to : (d v w : ℕ) (hs : List ℕ) → IsNode net v → IsMarked dist (v - 1) → get_or dist (v - 1) 0 ≡ d
      → IsPath net v hs w → Climbs net (λ u. get_or dist (u - 1) 0) hs → HasRoom net xs 1 hs
      → IsWay net xs (one_of s) (λ u. get_or dist (u - 1) 0) w
  way_to zero v w hs i m e p c r = elim (f.come (v - 1) (omega (arith, i)) m) [
    | inl start ↦
        let node : v - 1 + 1 ≡ v = omega (arith, i) in
        record {
          first = v;
          path = hs;
          begins = subst (λ u. IsTrue (one_of s u)) node start.1;
          leads = p;
          climbs = c;
          room = r;
        }
    | inr came ↦ absurd (omega (arith, came.level))
  ]
  way_to (suc d) v w hs i m e p c r = elim (f.come (v - 1) (omega (arith, i)) m) [
    | inl start ↦ absurd (omega (arith, start.0))
    | inr came ↦
        let h = get_or via (v - 1) 0 in
        let head : head_of net h ≡ v = let far = came.far in omega arith in
        let there : get_or dist (head_of net h - 1) 0 ≡ get_or dist (v - 1) 0 = ap (λ u. get_or dist (u - 1) 0) head in
        way_to d (tail_of net h) w (h ∷ hs) (came.near, came.within) came.marked (omega (arith, came.level))
        (came.in_range, refl, subst (λ u. IsPath net u hs w) (sym head) p) (omega (arith, came.level), c)
        (came.remains, r)
  ]

  pub forward_route : (t : ℕ → Bool) (p : ℕ) → p < net.nodes → IsMarked dist p → IsTrue (t (p + 1))
      → IsRoute net xs (one_of s) t
  forward_route t p l m i =
      let back : p + 1 - 1 ≡ p = omega arith in
      let w = way_to (get_or dist (p + 1 - 1) 0) (p + 1) (p + 1) [] (omega arith, omega arith)
      (subst (IsMarked dist) (sym back) m) refl refl tt tt in
      record {
        first = w.first;
        last = p + 1;
        path = w.path;
        begins = w.begins;
        ends = i;
        leads = w.leads;
        apart = climbs_apart net (λ u. get_or dist (u - 1) 0) w.first (p + 1) w.path w.leads w.climbs;
        room = w.room;
      }

-- backwards: the trail of a node. Levels rise toward the sinks.
abbrev pub nearness : Net → List ℕ → ℕ → ℕ
nearness net dist v = net.nodes - get_or dist (v - 1) 0

pub searched_trails : {net : Net} {xs t dist via : List ℕ} → length via ≡ net.nodes
    → IsSearched net xs Backwards t dist via → AreTrails net xs dist via
searched_trails size f = record {
  dist_size = f.size;
  via_size = size;
  come = λ p l m o. elim (f.come p l m) [
    | inl start ↦ absurd (omega (arith, start.0))
    | inr came ↦ came
  ];
  levels = f.levels;
}

-- the trail's first half-arc, and the rest
pub record IsNext (net : Net) (xs dist via : List ℕ) (v : ℕ) : Type 0 where
  pub in_range : get_or via (v - 1) 0 < 2 * length net.arcs
  pub begins : tail_of net (get_or via (v - 1) 0) ≡ v
  pub remains : 1 ≤ residual net xs (get_or via (v - 1) 0)
  pub node : IsNode net (head_of net (get_or via (v - 1) 0))
  pub marked : IsMarked dist (head_of net (get_or via (v - 1) 0) - 1)
  pub level : get_or dist (head_of net (get_or via (v - 1) 0) - 1) 0 + 1 ≡ get_or dist (v - 1) 0
  pub parts : trail_from net dist via v
      ≡ get_or via (v - 1) 0 ∷ trail_from net dist via (head_of net (get_or via (v - 1) 0))

-- a trail is a path that climbs, with room; it ends where the distance is 0
pub record IsTrail (net : Net) (xs dist via : List ℕ) (v d : ℕ) : Type 0 where
  pub last : ℕ
  pub node : IsNode net last
  pub marked : IsMarked dist (last - 1)
  pub over : get_or dist (last - 1) 0 ≡ 0
  pub leads : IsPath net v (trail net via d v) last
  pub climbs : Climbs net (nearness net dist) (trail net via d v)
  pub room : HasRoom net xs 1 (trail net via d v)

-- trails that lead on to where the search began
module _ {net : Net} {xs dist via : List ℕ} (a : AreTrails net xs dist via) where
  pub next_on : (v : ℕ) → 1 ≤ v → v ≤ net.nodes → IsMarked dist (v - 1) → 1 ≤ get_or dist (v - 1) 0
      → IsNext net xs dist via v
  next_on v o l m d =
      let came = a.come (v - 1) (omega arith) m d in let h = get_or via (v - 1) 0 in
      let more : get_or dist (v - 1) 0 ≡ suc (get_or dist (head_of net h - 1) 0) = omega (arith, came.level) in
      record {
        in_range = came.in_range;
        begins = let far = came.far in omega arith;
        remains = came.remains;
        node = (came.near, came.within);
        marked = came.marked;
        level = came.level;
        parts = ap (λ k. trail net via k v) more;
      }

  pub trail_is : (d v : ℕ) → 1 ≤ v → v ≤ net.nodes → IsMarked dist (v - 1) → get_or dist (v - 1) 0 ≡ d
      → IsTrail net xs dist via v d
  trail_is zero v o l m e = record {
    last = v;
    node = (o, l);
    marked = m;
    over = e;
    leads = refl;
    climbs = tt;
    room = tt;
  }
  trail_is (suc d) v o l m e =
      let n = next_on v o l m (omega arith) in let h = get_or via (v - 1) 0 in
      let rest = trail_is d (head_of net h) n.node.0 n.node.1 n.marked (omega (arith, n.level)) in
      let here : get_or dist (tail_of net h - 1) 0 ≡ get_or dist (v - 1) 0 = ap (λ u. get_or dist (u - 1) 0) n.begins in
      let low = a.levels (v - 1) (omega arith) m in
      record {
        last = rest.last;
        node = rest.node;
        marked = rest.marked;
        over = rest.over;
        leads = (n.in_range, n.begins, rest.leads);
        climbs = (omega (arith, n.level), rest.climbs);
        room = (n.remains, rest.room);
      }

  -- no two half-arcs of a trail are of one arc
  pub trail_parted : (v : ℕ) → 1 ≤ v → v ≤ net.nodes → IsMarked dist (v - 1) → IsApart (trail_from net dist via v)
  trail_parted v o l m =
      let r = trail_is (get_or dist (v - 1) 0) v o l m refl in
      climbs_apart net (nearness net dist) v r.last (trail_from net dist via v) r.leads r.climbs

  pub trail_apart : (v h : ℕ) (rest : List ℕ) → 1 ≤ v → v ≤ net.nodes → IsMarked dist (v - 1)
      → trail_from net dist via v ≡ h ∷ rest → AllByRecursion (λ g. g / 2 ≢ h / 2) rest
  trail_apart v h rest o l m e = (subst IsApart e (trail_parted v o l m)).0

-- where the distance is 0 a search backwards began
pub sink_at : {net : Net} {xs t dist via : List ℕ} (v : ℕ) → IsSearched net xs Backwards t dist via → 1 ≤ v
    → v ≤ net.nodes → IsMarked dist (v - 1) → get_or dist (v - 1) 0 ≡ 0 → one_of t v ≡ true
sink_at {t} v f o l m e = elim (f.come (v - 1) (omega arith) m) [
  | inl start ↦ let node : v - 1 + 1 ≡ v = omega arith in subst (λ u. IsTrue (one_of t u)) node start.1
  | inr came ↦ absurd (omega (arith, came.level))
]

pub backward_route : {net : Net} {xs t dist via : List ℕ} (s : ℕ → Bool) (p : ℕ) → length via ≡ net.nodes
    → IsSearched net xs Backwards t dist via → p < net.nodes → IsMarked dist p → IsTrue (s (p + 1))
    → IsRoute net xs s (one_of t)
backward_route {net} {dist} {via} s p size f l m i =
    let back : p + 1 - 1 ≡ p = omega arith in
    let r = trail_is (searched_trails size f) (get_or dist (p + 1 - 1) 0) (p + 1) (omega arith) (omega arith)
    (subst (IsMarked dist) (sym back) m) refl in
    record {
      first = p + 1;
      last = r.last;
      path = trail_from net dist via (p + 1);
      begins = i;
      ends = sink_at r.last f r.node.0 r.node.1 r.marked r.over;
      leads = r.leads;
      apart = climbs_apart net (nearness net dist) (p + 1) r.last (trail_from net dist via (p + 1)) r.leads r.climbs;
      room = r.room;
    }

-- in the search's direction
pub has_route : (dir : Direction) {net : Net} {xs starts : List ℕ} (until : List ℕ) {dist via : List ℕ} (p : ℕ)
    → length via ≡ net.nodes → IsSearched net xs dir starts dist via → p < net.nodes → IsMarked dist p
    → IsTrue (one_of until (p + 1)) → HasRoute dir net xs starts until
has_route Forwards until p size f l m i = forward_route f (one_of until) p l m i
has_route Backwards until p size f l m i = backward_route (one_of until) p size f l m i
