-- The queue of a search, and sums over it.
use Rattle.std.proofs.Common.{[], ◌∷◌, ◌≡◌, ◌≢◌, ℕ, zero, suc, ◌+◌, ◌-◌, ◌*◌, ◌≤◌, ◌<◌, Bool, cond, List, length}
use Rattle.std.proofs.Common.{get_or, set, ◌∙◌, refl, sym, ap, subst, inl, inr, add-one, below_more, get_or-set_same}
use Rattle.std.proofs.Common.{get_or-set_other, length-set, arith}
use Rattle.std.proofs.Math.Dec.{ltb}
use Rattle.std.proofs.lemmas.Bool.{cases_eq, cases_lt, lt-ltb, le-ltb}
use Rattle.flow_net.specs.Nets.{Net}
use Rattle.flow_net.specs.NodeSets.{one_of}
use Rattle.flow_net.specs.Residual.{residual}
use Rattle.flow_solve.specs.declared.residual.searching.TheConstants.{FAR, WANTED}
use Rattle.flow_solve.specs.declared.residual.half_arcs.Direction.{Direction}
use Rattle.flow_solve.specs.declared.residual.searching.Progress.{Progress}
use Rattle.flow_solve.specs.residual.Searches.{IsMarked, spread, queued, IsQueue, IsNear, GoesOn, IsCount, wanted_at}
use Rattle.flow_solve.specs.residual.HalfArcs.{near_end}
use Rattle.flow_solve.specs.residual.HalfArcs.{far_end}
use Rattle.flow_solve.specs.residual.Searches.{IsCome}

-- the sum over all of the first places
abbrev pub total : (ℕ → ℕ) → ℕ → ℕ
total w zero = 0
total w (suc k) = total w k + w k

pub spread_marked : (w : ℕ → ℕ) (dist : List ℕ) (k : ℕ) → IsMarked dist k
    → spread w dist (suc k) ≡ spread w dist k + w k
spread_marked w dist k m = ap (λ b. spread w dist k + cond b (w k) 0) (lt-ltb (get_or dist k 0) WANTED m)

pub spread_unmarked : (w : ℕ → ℕ) (dist : List ℕ) (k : ℕ) → WANTED ≤ get_or dist k 0
    → spread w dist (suc k) ≡ spread w dist k
spread_unmarked w dist k m =
    let e : spread w dist (suc k) ≡ spread w dist k + 0 =
    ap (λ b. spread w dist k + cond b (w k) 0) (le-ltb (get_or dist k 0) WANTED m) in
    omega arith

-- where the marks are the same, so is the sum
spread_same : (w : ℕ → ℕ) (dist dist' : List ℕ) (k : ℕ) → ((v : ℕ) → v < k → get_or dist' v 0 ≡ get_or dist v 0)
    → spread w dist' k ≡ spread w dist k
spread_same w dist dist' zero s = refl
spread_same w dist dist' (suc k) s = let old = spread_same w dist dist' k (λ v l. s v (omega arith)) in
    let e : cond (ltb (get_or dist' k 0) WANTED) (w k) 0 ≡ cond (ltb (get_or dist k 0) WANTED) (w k) 0 =
    ap (λ d. cond (ltb d WANTED) (w k) 0) (s k (omega arith)) in
    omega arith

pub spread_set : (w : ℕ → ℕ) (dist : List ℕ) (at x k : ℕ) → at < length dist → x < WANTED → WANTED ≤ get_or dist at 0
    → at < k → spread w (set dist at x) k ≡ spread w dist k + w at
spread_set w dist at x zero l o u m = absurd (omega arith)
spread_set w dist at x (suc k) l o u m = elim (cases_eq k at) [
  | inl e ↦
      let before = spread_same w dist (set dist at x) k (λ v b. get_or-set_other dist at v x 0 (omega arith)) in
      let here : get_or (set dist at x) k 0 ≡ x =
      ap (λ i. get_or (set dist at x) i 0) e ∙ get_or-set_same dist at x 0 l in
      let now = spread_marked w (set dist at x) k (omega (arith, here)) in
      let there : get_or dist k 0 ≡ get_or dist at 0 = ap (λ i. get_or dist i 0) e in
      let was = spread_unmarked w dist k (omega arith) in
      let weight : w k ≡ w at = ap w e in omega (arith, before, now, was, weight)
  | inr n ↦
      let old = spread_set w dist at x k l o u (omega arith) in
      let e : cond (ltb (get_or (set dist at x) k 0) WANTED) (w k) 0 ≡ cond (ltb (get_or dist k 0) WANTED) (w k) 0 =
      ap (λ d. cond (ltb d WANTED) (w k) 0) (get_or-set_other dist at k x 0 n) in
      omega arith
]

-- no more than all, and an unmarked place is missing
pub spread_most : (w : ℕ → ℕ) (dist : List ℕ) (k : ℕ) → spread w dist k ≤ total w k
spread_most w dist zero = omega arith
spread_most w dist (suc k) = let old = spread_most w dist k in elim (cases_lt (get_or dist k 0) WANTED) [
  | inl m ↦ omega (arith, spread_marked w dist k m)
  | inr m ↦ omega (arith, spread_unmarked w dist k m)
]

pub spread_missing : (w : ℕ → ℕ) (dist : List ℕ) (at k : ℕ) → at < k → WANTED ≤ get_or dist at 0
    → spread w dist k + w at ≤ total w k
spread_missing w dist at zero l u = absurd (omega arith)
spread_missing w dist at (suc k) l u = elim (cases_eq k at) [
  | inl e ↦
      let old = spread_most w dist k in let there : get_or dist k 0 ≡ get_or dist at 0 = ap (λ i. get_or dist i 0) e in
      let was = spread_unmarked w dist k (omega arith) in
      let weight : w k ≡ w at = ap w e in
      omega (arith, old, was, weight)
  | inr n ↦ let old = spread_missing w dist at k (omega arith) u in elim (cases_lt (get_or dist k 0) WANTED) [
    | inl m ↦ omega (arith, old, spread_marked w dist k m)
    | inr m ↦ omega (arith, old, spread_unmarked w dist k m)
  ]
]

pub spread_none : (w : ℕ → ℕ) (dist : List ℕ) (k : ℕ) → ((v : ℕ) → v < k → WANTED ≤ get_or dist v 0)
    → spread w dist k ≡ 0
spread_none w dist zero u = refl
spread_none w dist (suc k) u =
    spread_unmarked w dist k (u k (omega arith)) ∙ spread_none w dist k (λ v l. u v (omega arith))

-- where nothing was added up, no marked place has a weight; otherwise one has
pub spread_zero : (w : ℕ → ℕ) (dist : List ℕ) (k p : ℕ) → spread w dist k ≡ 0 → p < k → IsMarked dist p → w p ≡ 0
spread_zero w dist zero p e l m = absurd (omega arith)
spread_zero w dist (suc k) p e l m = elim (cases_eq p k) [
  | inl same ↦
      let there : get_or dist p 0 ≡ get_or dist k 0 = ap (λ i. get_or dist i 0) same in
      let more = spread_marked w dist k (omega arith) in let weight : w p ≡ w k = ap w same in omega arith
  | inr n ↦ spread_zero w dist k p (omega arith) (omega arith) m
]

pub spread_some : (w : ℕ → ℕ) (dist : List ℕ) (k : ℕ) → 0 < spread w dist k
    → (p : ℕ) × (p < k) × IsMarked dist p × (0 < w p)
spread_some w dist zero l = absurd (omega arith)
spread_some w dist (suc k) l = elim (cases_lt (get_or dist k 0) WANTED) [
  | inl m ↦ let more = spread_marked w dist k m in elim (cases_lt 0 (w k)) [
    | inl some ↦ (k, omega arith, m, some)
    | inr none ↦ let r = spread_some w dist k (omega arith) in (r.0, omega (arith, r.1), r.2, r.3)
  ]
  | inr m ↦
      let more = spread_unmarked w dist k m in
      let r = spread_some w dist k (omega arith) in
      (r.0, omega (arith, r.1), r.2, r.3)
]

-- a marked place with a weight that was unmarked before
abbrev pub HasGained : (ℕ → ℕ) → List ℕ → List ℕ → ℕ → Type 0
HasGained w dist dist' k = (p : ℕ) × (p < k) × IsMarked dist' p × (WANTED ≤ get_or dist p 0) × (0 < w p)

gained_on : (w : ℕ → ℕ) (dist dist' : List ℕ) (k : ℕ) → HasGained w dist dist' k → HasGained w dist dist' (suc k)
gained_on w dist dist' k r = (r.0, omega (arith, r.1), r.2, r.3, r.4)

-- where the sum has become greater there is one
pub spread_more : (w : ℕ → ℕ) (dist dist' : List ℕ) (k : ℕ) → spread w dist k < spread w dist' k
    → HasGained w dist dist' k
spread_more w dist dist' zero l = absurd (omega arith)
spread_more w dist dist' (suc k) l = elim (cases_lt (get_or dist' k 0) WANTED) [
  | inl m ↦ let now = spread_marked w dist' k m in elim (cases_lt (get_or dist k 0) WANTED) [
    | inl kept ↦
        let was = spread_marked w dist k kept in
        gained_on w dist dist' k (spread_more w dist dist' k (omega arith))
    | inr new ↦ let was = spread_unmarked w dist k new in elim (cases_lt 0 (w k)) [
      | inl some ↦ (k, omega arith, m, new, some)
      | inr none ↦ gained_on w dist dist' k (spread_more w dist dist' k (omega arith))
    ]
  ]
  | inr m ↦ let now = spread_unmarked w dist' k m in elim (cases_lt (get_or dist k 0) WANTED) [
    | inl kept ↦
        let was = spread_marked w dist k kept in
        gained_on w dist dist' k (spread_more w dist dist' k (omega arith))
    | inr new ↦
        let was = spread_unmarked w dist k new in
        gained_on w dist dist' k (spread_more w dist dist' k (omega arith))
  ]
]

-- the queue's sum by its first cells only
pub queued_same : (w : ℕ → ℕ) (queue queue' : List ℕ) (k : ℕ) → ((i : ℕ) → i < k → get_or queue' i 0 ≡ get_or queue i 0)
    → queued w queue' k ≡ queued w queue k
queued_same w queue queue' zero s = refl
queued_same w queue queue' (suc k) s =
    let old = queued_same w queue queue' k (λ i l. s i (omega arith)) in
    let e : w (get_or queue' k 0) ≡ w (get_or queue k 0) = ap w (s k (omega arith)) in
    omega arith

pub queued_rises : (w : ℕ → ℕ) (queue : List ℕ) (j k : ℕ) → j ≤ k → queued w queue j ≤ queued w queue k
queued_rises w queue j zero l = let e : j ≡ 0 = omega arith in rw e (omega arith)
queued_rises w queue j (suc k) l = elim (cases_lt k j) [
  | inl m ↦ let e : j ≡ suc k = omega arith in rw e (omega arith)
  | inr m ↦ let old = queued_rises w queue j k m in omega arith
]

queued_ones : (queue : List ℕ) (k : ℕ) → queued (λ i. 1) queue k ≡ k
queued_ones queue zero = refl
queued_ones queue (suc k) = let old = queued_ones queue k in omega arith

total_ones : (k : ℕ) → total (λ i. 1) k ≡ k
total_ones zero = refl
total_ones (suc k) = let old = total_ones k in omega arith

-- the range lengths add up to the last range's end
pub total_ranges : (first : List ℕ) (k : ℕ) → ((v : ℕ) → v < k → get_or first v 0 ≤ get_or first (v + 1) 0)
    → total (λ v. get_or first (v + 1) 0 - get_or first v 0) k + get_or first 0 0 ≡ get_or first k 0
total_ranges first zero r = omega arith
total_ranges first (suc k) r =
    let old = total_ranges first k (λ v l. r v (omega arith)) in
    let here = r k (omega arith) in
    let e : get_or first (suc k) 0 ≡ get_or first (k + 1) 0 = rw add-one refl in omega arith

-- the sum over a queue is at most that over all places
pub queue_most : (w : ℕ → ℕ) (dist queue : List ℕ) (tail : ℕ) → IsQueue dist queue tail
    → queued w queue tail ≤ total w (length dist)
queue_most w dist queue tail q = let e = q.sums w in let m = spread_most w dist (length dist) in omega arith

pub queue_short : (dist queue : List ℕ) (tail : ℕ) → IsQueue dist queue tail → tail ≤ length dist
queue_short dist queue tail q =
    let m = queue_most (λ i. 1) dist queue tail q in
    let a = queued_ones queue tail in
    let b = total_ones (length dist) in
    omega arith

pub queue_room : (dist queue : List ℕ) (tail at : ℕ) → at < length dist → WANTED ≤ get_or dist at 0
    → IsQueue dist queue tail → tail < length dist
queue_room dist queue tail at l u q =
    let m = spread_missing (λ i. 1) dist at (length dist) l u in
    let e = q.sums (λ i. 1) in
    let a = queued_ones queue tail in
    let b = total_ones (length dist) in
    omega arith

pub queue_none : (dist queue : List ℕ) → ((v : ℕ) → v < length dist → WANTED ≤ get_or dist v 0) → IsQueue dist queue 0
queue_none dist queue u = record {
  sums = λ w. spread_none w dist (length dist) u;
  places = λ i l. absurd (omega arith);
  marks = λ i l. absurd (omega arith);
  waits = λ v l m. absurd (omega (arith, u v l));
  levels = λ v l m. absurd (omega (arith, u v l));
  rises = λ i j o l. absurd (omega arith);
}

-- an unseen place is none of those that are marked
pub unseen_other : (dist : List ℕ) (at v : ℕ) → WANTED ≤ get_or dist at 0 → IsMarked dist v → v ≢ at
unseen_other dist at v u m e =
    let same : get_or dist v 0 ≡ get_or dist at 0 = ap (λ i. get_or dist i 0) e in
    omega arith

-- a place is marked and goes to the end of the queue
pub queue_more : {dist queue : List ℕ} {tail : ℕ} (at x : ℕ) → at < length dist → length queue ≡ length dist → x ≤ tail
    → x < WANTED → WANTED ≤ get_or dist at 0 → IsNear dist x → IsQueue dist queue tail
    → IsQueue (set dist at x) (set queue tail at) (tail + 1)
queue_more {dist} {queue} {tail} at x l size low o u near q =
    let dist' = set dist at x in let queue' = set queue tail at in
    let room = queue_room dist queue tail at l u q in
    let here : get_or dist' at 0 ≡ x = get_or-set_same dist at x 0 l in
    let last : get_or queue' tail 0 ≡ at = get_or-set_same queue tail at 0 (omega arith) in
    let same_size : length dist' ≡ length dist = length-set dist at x in
    let Kept : ℕ → Type 0 = λ i. get_or queue' i 0 ≡ get_or queue i 0 in
    let ahead : (i : ℕ) → i < tail → Kept i = λ i m. get_or-set_other queue tail i at 0 (omega arith) in
    let stays : (v : ℕ) → IsMarked dist v → get_or dist' v 0 ≡ get_or dist v 0 =
    λ v m. get_or-set_other dist at v x 0 (unseen_other dist at v u m) in
    let level_kept : (i : ℕ) → i < tail → get_or dist' (get_or queue' i 0) 0 ≡ get_or dist (get_or queue i 0) 0 =
    λ i m. ap (λ v. get_or dist' v 0) (ahead i m) ∙ stays (get_or queue i 0) (q.marks i m) in
    record {
      sums = λ w.
          let a = spread_set w dist at x (length dist) l o u l in
          let b = q.sums w in
          let c = queued_same w queue queue' tail ahead in
          let d : queued w queue' (tail + 1) ≡ queued w queue' tail + w at =
          rw add-one (ap (λ i. queued w queue' tail + w i) last) in
          let e : spread w dist' (length dist') ≡ spread w dist' (length dist) = ap (spread w dist') same_size in
          omega (arith, a, b, c, d, e);
      places = below_more (λ i. get_or queue' i 0 < length dist') tail
          (λ i m. let e = ahead i m in let p = q.places i m in omega arith) (omega arith);
      marks = below_more (λ i. IsMarked dist' (get_or queue' i 0)) tail
          (λ i m. let e = level_kept i m in let r = q.marks i m in omega (arith, e, r))
          (subst (IsMarked dist') (sym last) (omega (arith, here)));
      waits = λ v m marked. elim (cases_eq v at) [
        | inl e ↦ (tail, omega arith, last ∙ sym e)
        | inr n ↦
            let kept = get_or-set_other dist at v x 0 n in
            let r = q.waits v (omega arith) (omega (arith, kept)) in
            (r.0, omega (arith, r.1), ahead r.0 r.1 ∙ r.2)
      ];
      levels = λ v m marked. elim (cases_eq v at) [
        | inl e ↦ let level : get_or dist' v 0 ≡ x = ap (λ i. get_or dist' i 0) e ∙ here in omega (arith, level, low)
        | inr n ↦
            let kept = get_or-set_other dist at v x 0 n in
            let r = q.levels v (omega arith) (omega (arith, kept)) in
            omega (arith, kept, r)
      ];
      rises = λ i j between m. elim (cases_lt j tail) [
        | inl b ↦
            let e = level_kept i (omega arith) in
            let f = level_kept j b in
            let r = q.rises i j between b in
            omega arith
        | inr b ↦
            let end : j ≡ tail = omega arith in
            let far : get_or dist' (get_or queue' j 0) 0 ≡ x =
            ap (λ k. get_or dist' (get_or queue' k 0) 0) end ∙ ap (λ v. get_or dist' v 0) last ∙ here in
            elim (cases_lt i tail) [
              | inl b ↦ let e = level_kept i b in let r = near (get_or queue i 0) (q.marks i b) in omega arith
              | inr b ↦
                  let same : i ≡ j = omega arith in
                  let e : get_or dist' (get_or queue' i 0) 0 ≡ get_or dist' (get_or queue' j 0) 0 =
                  ap (λ k. get_or dist' (get_or queue' k 0) 0) same in
                  omega arith
            ]
      ];
    }

one_or_none : (b : Bool) → FAR - cond b WANTED FAR ≡ cond b 1 0
one_or_none b = grind arith

-- the count of those looked out for, where the place is marked
pub count_more : (until dist : List ℕ) (at x wanted : ℕ) → at < length dist → x < WANTED → WANTED ≤ get_or dist at 0
    → IsCount until dist wanted → IsCount until (set dist at x) (wanted + (FAR - get_or dist at 0))
count_more until dist at x wanted l o u c =
    let here : get_or (set dist at x) at 0 ≡ x = get_or-set_same dist at x 0 l in
    let size = length-set dist at x in
    record {
      cells = λ p m far. elim (cases_eq p at) [
        | inl e ↦
            let level : get_or (set dist at x) p 0 ≡ x = ap (λ i. get_or (set dist at x) i 0) e ∙ here in
            absurd (omega arith)
        | inr n ↦ let kept = get_or-set_other dist at p x 0 n in kept ∙ c.cells p (omega arith) (omega arith)
      ];
      count =
          let old = c.count in let more = spread_set (wanted_at until) dist at x (length dist) l o u l in
          let e : spread (wanted_at until) (set dist at x) (length (set dist at x))
          ≡ spread (wanted_at until) (set dist at x) (length dist) =
          ap (spread (wanted_at until) (set dist at x)) size in
          let weight : FAR - get_or dist at 0 ≡ wanted_at until at =
          ap (λ d. FAR - d) (c.cells at l u) ∙ one_or_none (one_of until (at + 1)) in
          omega arith;
    }

pub grown_marked : {dist via queue dist' via' queue' : List ℕ} {a b : Progress}
    → GoesOn dist via queue a dist' via' queue' b → (p : ℕ) → IsMarked dist p → IsMarked dist' p
grown_marked g p m = omega (arith, (g.kept p m).0)

pub grown_on : {dist via queue dist' via' queue' dist'' via'' queue'' : List ℕ} {a b c : Progress}
    → GoesOn dist via queue a dist' via' queue' b → GoesOn dist' via' queue' b dist'' via'' queue'' c
    → GoesOn dist via queue a dist'' via'' queue'' c
grown_on g h = record {
  kept = λ p m. let a = g.kept p m in let b = h.kept p (grown_marked g p m) in (b.0 ∙ a.0, b.1 ∙ a.1);
  ahead = λ i m. let a = g.more in h.ahead i (omega arith) ∙ g.ahead i m;
  more = let a = g.more in let b = h.more in omega arith;
  count = λ until k. h.count until (g.count until k);
}

pub near_more : (dist : List ℕ) (at x level : ℕ) → at < length dist → x ≤ level → IsNear dist level
    → IsNear (set dist at x) level
near_more dist at x level l o near v marked = elim (cases_eq v at) [
  | inl e ↦
      let here : get_or (set dist at x) v 0 ≡ x =
      ap (λ i. get_or (set dist at x) i 0) e ∙ get_or-set_same dist at x 0 l in
      omega arith
  | inr n ↦ let kept = get_or-set_other dist at v x 0 n in let r = near v (omega arith) in omega arith
]

get_or_past : (xs : List ℕ) (i : ℕ) → length xs ≤ i → get_or xs i 0 ≡ 0
get_or_past [] i l = refl
get_or_past (x ∷ xs) zero l = absurd (omega arith)
get_or_past (x ∷ xs) (suc i) l = get_or_past xs i (omega arith)

pub near_none : (dist : List ℕ) → ((v : ℕ) → v < length dist → WANTED ≤ get_or dist v 0) → IsNear dist 0
near_none dist u v marked = elim (cases_lt v (length dist)) [
  | inl l ↦ absurd (omega (arith, u v l))
  | inr l ↦ let e = get_or_past dist v l in omega arith
]

-- what was come to stays so
pub come_on : {dist via queue dist' via' queue' : List ℕ} {a b : Progress} (net : Net) (flows : List ℕ)
    (dir : Direction) (v : ℕ) → GoesOn dist via queue a dist' via' queue' b → IsMarked dist v
    → IsCome net flows dir dist via v → IsCome net flows dir dist' via' v
come_on {dist = dist} {via = via} {dist' = dist'} {via' = via'} net flows dir v g m c =
    let by = (g.kept v m).1 in let h = get_or via v 0 in let near = near_end dir net h - 1 in
    let there : IsMarked dist' near = grown_marked g near c.marked in
    let level : get_or dist' near 0 + 1 ≡ get_or dist' v 0 =
    let a = (g.kept near c.marked).0 in let b = (g.kept v m).0 in let l = c.level in omega arith in
    record {
      in_range = subst (λ k. k < 2 * length net.arcs) (sym by) c.in_range;
      far = subst (λ k. far_end dir net k ≡ v + 1) (sym by) c.far;
      remains = subst (λ k. 1 ≤ residual net flows k) (sym by) c.remains;
      near = subst (λ k. 1 ≤ near_end dir net k) (sym by) c.near;
      within = subst (λ k. near_end dir net k ≤ net.nodes) (sym by) c.within;
      marked = subst (λ k. IsMarked dist' (near_end dir net k - 1)) (sym by) there;
      level = subst (λ k. get_or dist' (near_end dir net k - 1) 0 + 1 ≡ get_or dist' v 0) (sym by) level;
    }
