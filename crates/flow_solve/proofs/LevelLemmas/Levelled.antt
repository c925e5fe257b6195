-- The levels that a search backwards gives.
use Rattle.std.proofs.Common.{◌≡◌, ◌≢◌, ℕ, zero, suc, ◌+◌, ◌-◌, ◌*◌, ◌≤◌, ◌<◌, ◌⊎◌, Bool, true, false, IsTrue, IsFalse}
use Rattle.std.proofs.Common.{cond, eqb, ◌||◌, List, [], ◌∷◌, length, get_or, refl, ◌∙◌, sym, ap, subst, inl, inr}
use Rattle.std.proofs.Common.{arith}
use Rattle.std.specs.Prelude.{slice_index}
use Rattle.std.specs.List.{All}
use Rattle.std.proofs.lemmas.Bool.{cases_eq, cases_lt, cases_Bool, ne_eqb}
use Rattle.flow_net.specs.Nets.{Net, IsNode}
use Rattle.flow_net.specs.Limits.{IsNet}
use Rattle.flow_net.specs.NodeSets.{one_of}
use Rattle.flow_net.specs.Residual.{tail_of, head_of, residual}
use Rattle.flow_net.proofs.Zips.{tail_is_node}
use Rattle.flow_solve.specs.declared.residual.searching.TheConstants.{WANTED}
use Rattle.flow_solve.specs.declared.residual.half_arcs.Direction.TheVariants.{Backwards}
use Rattle.flow_solve.specs.residual.Packs.{group_of}
use Rattle.flow_solve.specs.residual.HalfArcs.{twin_of}
use Rattle.flow_solve.specs.residual.Searches.{seen, IsMarked, IsDone, IsSearched, IsCount, IsQueue, wanted_at}
use Rattle.flow_solve.specs.levels.Phases.{cell_of, AreSinks, IsOrdered, IsGentle, IsLevelled, AreLevels}
use Rattle.flow_solve.proofs.ResidualLemmas.Queues.{total, spread_most, spread_missing}
use Rattle.flow_net.proofs.NodeLists.{place_in}
use Rattle.flow_solve.proofs.ResidualLemmas.Searched.{seen_marked, marked_seen, some_seen}
use Rattle.flow_solve.proofs.ResidualLemmas.Crossings.{twin_twin, crossed_within, tail_group, tail_twin, head_twin}
use Rattle.flow_solve.proofs.ResidualLemmas.Routes.{sink_at}
use Rattle.flow_solve.proofs.LevelLemmas.Places.{cell_at}

-- ---- the sources that were seen are counted

either_step : (b c : Bool) (x y : ℕ) → x ≤ y → x + cond (b || c) 1 0 ≤ y + (cond b 1 0 + cond c 1 0)
either_step b c x y l = grind arith

-- one where two numbers are the same
abbrev is_just : ℕ → ℕ → ℕ
is_just w p = cond (eqb w (p + 1)) 1 0

just_off : (w p : ℕ) → w ≢ p + 1 → is_just w p ≡ 0
just_off w p n = ap (λ b. cond b 1 0) (ne_eqb w (p + 1) n)

-- a number stands among the first ones at most once
just_zero : (w n : ℕ) → n < w → total (is_just w) n ≡ 0
just_zero w zero l = refl
just_zero w (suc n) l = omega (arith, just_zero w n (omega arith), just_off w n (omega arith))

one_step : (b : Bool) (x : ℕ) → x ≡ 0 → x + cond b 1 0 ≤ 1
one_step b x e = grind arith

just_one : (w n : ℕ) → total (is_just w) n ≤ 1
just_one w zero = omega arith
just_one w (suc n) = elim (cases_eq w (n + 1)) [
  | inl e ↦ one_step (eqb w (n + 1)) (total (is_just w) n) (just_zero w n (omega arith))
  | inr d ↦
      omega (arith, just_one w n, just_off w n d)
]

both_total : (w : ℕ) (ws : List ℕ) (n : ℕ) → total (wanted_at (w ∷ ws)) n ≤ total (is_just w) n + total (wanted_at ws) n
both_total w ws zero = omega arith
both_total w ws (suc n) =
    let old = both_total w ws n in
    let s = either_step (eqb w (n + 1)) (one_of ws (n + 1)) 0 0 (omega arith) in
    omega arith

none_total : (n : ℕ) → total (wanted_at []) n ≡ 0
none_total zero = refl
none_total (suc n) = let old = none_total n in omega arith

total_wanted : (ws : List ℕ) (n : ℕ) → total (wanted_at ws) n ≤ length ws
total_wanted [] n = omega (arith, none_total n)
total_wanted (w ∷ ws) n = omega (arith, both_total w ws n, just_one w n, total_wanted ws n)

one_more : (b : Bool) (x n : ℕ) → x ≤ n → x + cond b 1 0 ≤ suc n
one_more b x n l = grind arith

total_few : (ws : List ℕ) (n : ℕ) → total (wanted_at ws) n ≤ n
total_few ws zero = omega arith
total_few ws (suc n) = one_more (one_of ws (n + 1)) (total (wanted_at ws) n) n (total_few ws n)

wanted_few : (s dist : List ℕ) (wanted : ℕ) → IsCount s dist wanted → wanted ≤ length dist
wanted_few s dist wanted c =
    omega (arith, c.count, spread_most (wanted_at s) dist (length dist), total_few s (length dist))

-- where as many were seen as there are, all were
all_seen : (s dist : List ℕ) (wanted v : ℕ) → IsCount s dist wanted → length s ≤ wanted → one_of s v ≡ true → 1 ≤ v
    → v ≤ length dist → seen dist v ≡ true
all_seen s dist wanted v c l i a b = elim (cases_lt (get_or dist (v - 1) 0) WANTED) [
  | inl m ↦ seen_marked dist v a b m
  | inr m ↦
      let node : v - 1 + 1 ≡ v = omega arith in
      let one : wanted_at s (v - 1) ≡ 1 = ap (λ w. cond (one_of s w) 1 0) node ∙ ap (λ b. cond b 1 0) i in
      absurd (omega (
        arith,
        c.count,
        spread_missing (wanted_at s) dist (v - 1) (length dist) (omega arith) m,
        total_wanted s (length dist),
        one,
      ))
]

-- ---- the level of the nodes that weren't seen

-- no marked place is above it, and where a place isn't done it is no farther than one above that place
record IsTop (net : Net) (s xs dist : List ℕ) (top : ℕ) : Type 0 where
  within : (p : ℕ) → p < net.nodes → IsMarked dist p → slice_index dist p ≤ top
  over : (p : ℕ) → p < net.nodes → IsMarked dist p → IsDone net xs Backwards dist p ⊎ (top ≤ slice_index dist p + 1)
  far : (v : ℕ) → IsTrue (one_of s v) → IsFalse (seen dist v) → net.nodes ≤ top

-- the search has seen all that it can: far above
top_whole : {net : Net} {s t xs dist via : List ℕ} → IsSearched net xs Backwards t dist via
    → ((p : ℕ) → p < net.nodes → IsMarked dist p → IsDone net xs Backwards dist p) → IsTop net s xs dist net.nodes
top_whole f done = record {
  within = λ p l m. omega (arith, f.levels p l m);
  over = λ p l m. inl (done p l m);
  far = λ v i o. omega arith;
}

-- it has stopped early, as it has seen all sources: as the last node that it saw
top_early : {net : Net} {s t xs dist via queue : List ℕ} {tail wanted : ℕ} → IsSearched net xs Backwards t dist via
    → IsQueue dist queue tail → IsCount s dist wanted → length s ≤ wanted → All (IsNode net) s → 0 < tail
    → IsTop net s xs dist (slice_index dist (slice_index queue (tail - 1)))
top_early {s} {dist} {queue} {tail} {wanted} f q c l nodes some = record {
  within = λ p m k. let w = q.waits p (omega (arith, f.size)) k in
      omega (arith, q.rises w.0 (tail - 1) (omega (arith, w.1)) (omega arith), ap (slice_index dist) w.2);
  over = λ p m k. elim (f.even p m k) [
    | inl d ↦ inl d
    | inr near ↦ inr (near (slice_index queue (tail - 1)) (q.marks (tail - 1) (omega arith)))
  ];
  far = λ v i o. let p = place_in s v i in let node = nodes p.0 0 p.1 in
      let inside = all_seen s dist wanted v c l i (omega (arith, node, p.2)) (omega (arith, node, p.2, f.size)) in
      absurd (cc);
}

-- ---- the levels

abbrev level_of : List ℕ → ℕ → ℕ → ℕ
level_of dist top v = cond (seen dist v) (cell_of dist v) top

level_seen : (dist : List ℕ) (top v : ℕ) → seen dist v ≡ true → level_of dist top v ≡ cell_of dist v
level_seen dist top v e = ap (λ b. cond b (cell_of dist v) top) e

level_unseen : (dist : List ℕ) (top v : ℕ) → seen dist v ≡ false → level_of dist top v ≡ top
level_unseen dist top v e = ap (λ b. cond b (cell_of dist v) top) e

-- no level is above the top
level_most : (net : Net) (s xs dist : List ℕ) (top v : ℕ) → length dist ≡ net.nodes → IsTop net s xs dist top
    → level_of dist top v ≤ top
level_most net s xs dist top v size b = elim (cases_Bool (seen dist v)) [
  | inl i ↦
      let m = marked_seen dist v i in
      omega (arith, level_seen dist top v i, cell_at dist v m.0, b.within (v - 1) (omega (arith, m.0, m.1)) m.2)
  | inr o ↦ omega (arith, level_unseen dist top v o)
]

-- a half-arc whose head is done: its tail is at most one farther
done_slope : (net : Net) (xs dist : List ℕ) (h : ℕ) → IsNet net → h < 2 * length net.arcs
    → tail_of net h ≢ head_of net h → IsDone net xs Backwards dist (head_of net h - 1) → 1 ≤ residual net xs h
    → IsMarked dist (tail_of net h - 1)
    × (slice_index dist (tail_of net h - 1) ≤ slice_index dist (head_of net h - 1) + 1)
done_slope net xs dist h n l o d r =
    let g = twin_of h in
    let ends : tail_of net g ≢ head_of net g = λ e. o (sym (head_twin net h) ∙ sym e ∙ tail_twin net h) in
    let at : group_of net g ≡ head_of net h - 1 = tail_group net g ends ∙ ap (λ v. v - 1) (tail_twin net h) in
    let back : 1 ≤ residual net xs (twin_of g) = subst (λ k. 1 ≤ residual net xs k) (sym (twin_twin h)) r in
    subst (λ v. IsMarked dist (v - 1) × (slice_index dist (v - 1) ≤ slice_index dist (head_of net h - 1) + 1))
    (head_twin net h) (d g (crossed_within Backwards h (length net.arcs) l) at back)

gentle_levels : (net : Net) (s t xs dist via : List ℕ) (top : ℕ) → IsNet net → IsSearched net xs Backwards t dist via
    → IsTop net s xs dist top → IsGentle net xs (level_of dist top)
gentle_levels net s t xs dist via top n f b h l r = elim (cases_eq (tail_of net h) (head_of net h)) [
  | inl loop ↦ omega (arith, ap (level_of dist top) loop)
  | inr o ↦ elim (cases_Bool (seen dist (head_of net h))) [
    | inr out ↦
        omega (arith, level_unseen dist top (head_of net h) out, level_most net s xs dist top (tail_of net h) f.size b)
    | inl into ↦
        let m = marked_seen dist (head_of net h) into in
        let low = level_seen dist top (head_of net h) into in
        let at = cell_at dist (head_of net h) m.0 in
        elim (b.over (head_of net h - 1) (omega (arith, m.0, m.1, f.size)) m.2) [
          | inr near ↦ omega (arith, near, low, at, level_most net s xs dist top (tail_of net h) f.size b)
          | inl d ↦
              let up = done_slope net xs dist h n l o d r in
              let node = tail_is_node net h n l in
              let inside = seen_marked dist (tail_of net h) node.0 (omega (arith, node, f.size)) up.0 in
              omega
              (arith, low, at, up.1, level_seen dist top (tail_of net h) inside, cell_at dist (tail_of net h) node.0)
        ]
  ]
]

-- ---- the distances

-- the sinks are at distance 0, and no others
zero_sink : (net : Net) (t xs dist via : List ℕ) (v : ℕ) → IsSearched net xs Backwards t dist via → All (IsNode net) t
    → IsTrue (one_of t v) → (cell_of dist v ≡ 0) × IsTrue (seen dist v)
zero_sink net t xs dist via v f nodes i =
    let p = place_in t v i in let node = nodes p.0 0 p.1 in
    let at : slice_index dist (v - 1) ≡ 0 = subst (λ w. slice_index dist (w - 1) ≡ 0) p.2 (f.zeros p.0 p.1) in
    let a : 1 ≤ v = omega (arith, node, p.2) in
    (sym (cell_at dist v a) ∙ at, seen_marked dist v a (omega (arith, node, p.2, f.size)) (omega arith))

sinks_at : (net : Net) (t xs dist via : List ℕ) → IsSearched net xs Backwards t dist via → All (IsNode net) t
    → AreSinks net t dist
sinks_at net t xs dist via f nodes v i =
    let at = cell_at dist v i.0 in (
      (λ k. (zero_sink net t xs dist via v f nodes k).0),
      (λ e. sink_at v f i.0 i.1 (omega arith) (omega arith)),
    )

-- of two nodes the one at the lower level is nearer
ordered_levels : (net : Net) (s xs dist : List ℕ) (top : ℕ) → length dist ≡ net.nodes → IsTop net s xs dist top
    → IsOrdered net (level_of dist top) (cell_of dist)
ordered_levels net s xs dist top size b v w i j l = elim (cases_Bool (seen dist v)) [
  | inr out ↦ absurd (omega (arith, level_unseen dist top v out, level_most net s xs dist top w size b))
  | inl into ↦
      let m = marked_seen dist v into in
      let low = level_seen dist top v into in
      elim (cases_lt (slice_index dist (w - 1)) WANTED) [
        | inl near ↦
            omega
            (arith, low, level_seen dist top w (seen_marked dist w j.0 (omega (arith, j, size)) near))
        | inr far ↦ omega (arith, m.2, far, cell_at dist v i.0, cell_at dist w j.0)
      ]
]

levelled : {net : Net} {s t xs dist via : List ℕ} {top : ℕ} → IsNet net → IsSearched net xs Backwards t dist via
    → All (IsNode net) t → IsTop net s xs dist top → IsLevelled net s t xs dist (level_of dist top)
levelled {net} {s} {t} {xs} {dist} {via} {top} n f nodes b = record {
  gentle = gentle_levels net s t xs dist via top n f b;
  ordered = ordered_levels net s xs dist top f.size b;
  sinks = λ v i. let z = zero_sink net t xs dist via v f nodes i in level_seen dist top v z.1 ∙ z.0;
  near = λ v i. level_seen dist top v i;
  far = λ v i o. omega (arith, b.far v i o, level_unseen dist top v o);
}

-- what a search that has seen a source leaves to a phase
pub levels_found : {net : Net} {s t xs dist via queue : List ℕ} {tail wanted : ℕ} (enough : ℕ) → IsNet net
    → IsQueue dist queue tail → IsSearched net xs Backwards t dist via → All (IsNode net) s → All (IsNode net) t
    → IsCount s dist wanted
    → (wanted < enough → (p : ℕ) → p < net.nodes → IsMarked dist p → IsDone net xs Backwards dist p)
    → length s ≤ enough ⊎ net.nodes < enough → wanted ≢ 0 → AreLevels net s t xs dist
levels_found {net} {s} {t} {xs} {dist} {via} {queue} {tail} {wanted} enough n q f sources sinks c whole all some =
    let one = some_seen s dist wanted c (omega (arith, some)) in
    let up : one.0 + 1 - 1 ≡ one.0 = omega arith in
    let here = seen_marked dist (one.0 + 1) (omega arith) (omega (arith, one.1))
    (subst (IsMarked dist) (sym up) one.2) in
    let first = q.waits one.0 one.1 one.2 in
    record {
      via = via;
      searched = f;
      source = (one.0 + 1, one.3, here);
      sinks = sinks_at net t xs dist via f sinks;
      near = λ v i. let m = marked_seen dist v i in
          omega (arith, f.levels (v - 1) (omega (arith, m.0, m.1, f.size)) m.2, cell_at dist v m.0);
      levels = elim (cases_lt wanted enough) [
        | inl few ↦ (level_of dist net.nodes, levelled n f sinks (top_whole f (whole few)))
        | inr enough' ↦ (
          level_of dist (slice_index dist (slice_index queue (tail - 1))),
          levelled n f sinks (top_early f q c (as_many all enough') sources (omega (arith, first.1))),
        )
      ];
    }
  where
    as_many : length s ≤ enough ⊎ net.nodes < enough → enough ≤ wanted → length s ≤ wanted
    as_many (inl l) m = omega arith
    as_many (inr l) m = absurd (omega (arith, wanted_few s dist wanted c, f.size))
