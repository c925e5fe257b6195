-- Why there are few phases: each brings the sources one level farther from the sinks.
use Rattle.std.proofs.Common.{◌≡◌, ◌≢◌, ℕ, zero, suc, ◌+◌, ◌-◌, ◌*◌, ◌/◌, ◌≤◌, ◌<◌, IsTrue, IsFalse, List, []}
use Rattle.std.proofs.Common.{◌∷◌, length, get_or, refl, ◌∙◌, sym, ap, subst, inl, inr, arith}
use Rattle.std.specs.List.{AllByRecursion}
use Rattle.std.proofs.lemmas.Bool.{cases_eq, cases_lt, cases_Bool}
use Rattle.flow_net.specs.Nets.{Net}
use Rattle.flow_net.specs.Limits.{IsNet}
use Rattle.flow_net.specs.NodeSets.{one_of}
use Rattle.flow_net.specs.Residual.{tail_of, head_of, residual, pushed}
use Rattle.flow_net.specs.Paths.{IsPath, HasRoom, IsApart, push_all}
use Rattle.flow_net.specs.Laws.{AreApart}
use Rattle.flow_net.proofs.Zips.{head_is_node, tail_is_node}
use Rattle.flow_net.proofs.HalfArcs.{residual-pushed_other}
use Rattle.flow_net.proofs.AugmentingPaths.{room_after}
use Rattle.flow_solve.specs.declared.residual.half_arcs.Direction.TheVariants.{Backwards}
use Rattle.flow_solve.specs.residual.Searches.{seen, IsSearched, IsMarked}
use Rattle.flow_solve.specs.levels.Phases.{cell_of, IsDead, IsBlocked, IsOrdered, IsGentle, IsFar, Descends}
use Rattle.flow_solve.proofs.LevelLemmas.Falls.{opposite}
use Rattle.flow_solve.proofs.LevelLemmas.Places.{cell_at}
use Rattle.flow_solve.proofs.ResidualLemmas.Searched.{marked_seen}

module _ (net : Net) (level : ℕ → ℕ) (d : ℕ) where
  -- a push over a half-arc that doesn't rise keeps the slope gentle
  gentle_pushed : (xs : List ℕ) (h : ℕ) → h < 2 * length net.arcs → 1 ≤ residual net xs h
      → level (head_of net h) ≤ level (tail_of net h) → IsGentle net xs level → IsGentle net (pushed xs h d) level
  gentle_pushed xs h i o f s g l r = elim (cases_eq (g / 2) (h / 2)) [
    | inl e ↦ elim (cases_eq g h) [
      | inl same ↦
          let a : level (tail_of net g) ≡ level (tail_of net h) = ap (λ z. level (tail_of net z)) same in
          let b : level (head_of net g) ≡ level (head_of net h) = ap (λ z. level (head_of net z)) same in
          omega (arith, s h i o)
      | inr n ↦ let p = opposite net g h e n in omega (arith, ap level p.0, ap level p.1)
    ]
    | inr n ↦ s g l (omega (arith, residual-pushed_other net xs h g d n))
  ]

  gentle_push_all : (xs : List ℕ) (u w : ℕ) (hs : List ℕ) → IsPath net u hs w → IsApart hs → HasRoom net xs 1 hs
      → AllByRecursion (λ h. level (head_of net h) ≤ level (tail_of net h)) hs → IsGentle net xs level
      → IsGentle net (push_all xs hs d) level
  gentle_push_all xs u w [] p a r f s = s
  gentle_push_all xs u w (h ∷ hs) p a r f s =
      gentle_push_all (pushed xs h d) (head_of net h) w hs p.2 a.1 (room_after net xs h d 1 hs a.0 r.1) f.1
      (gentle_pushed xs h p.0 r.0 f.0 s)

-- ranks that follow the levels
module _ (net : Net) (level rank : ℕ → ℕ) (n : IsNet net) (o : IsOrdered net level rank) where
  -- a half-arc that falls in rank rises no level
  falls_level : (h : ℕ) → h < 2 * length net.arcs → rank (head_of net h) < rank (tail_of net h)
      → level (head_of net h) ≤ level (tail_of net h)
  falls_level h i f = elim (cases_lt (level (tail_of net h)) (level (head_of net h))) [
    | inl l ↦
        absurd (omega (arith, o (tail_of net h) (head_of net h) (tail_is_node net h n i) (head_is_node net h n i) l))
    | inr l ↦ l
  ]

  all_falls_level : (u w : ℕ) (hs : List ℕ) → IsPath net u hs w → Descends net rank hs
      → AllByRecursion (λ h. level (head_of net h) ≤ level (tail_of net h)) hs
  all_falls_level u w [] p c = tt
  all_falls_level u w (h ∷ hs) p c = (falls_level h p.0 c.0, all_falls_level (head_of net h) w hs p.2 c.1)

  -- so pushes along a path on which the ranks fall keep it gentle
  pub gentle_descended : (xs : List ℕ) (d u w : ℕ) (hs : List ℕ) → IsPath net u hs w → IsApart hs → HasRoom net xs 1 hs
      → Descends net rank hs → IsGentle net xs level → IsGentle net (push_all xs hs d) level
  gentle_descended xs d u w hs p a r c s = gentle_push_all net level d xs u w hs p a r (all_falls_level u w hs p c) s

-- what a phase leaves: a gentle slope down to the sinks, what was passed is blocked, and each source that was seen is
-- dead
pub record IsPhaseDone (net : Net) (s t dist : List ℕ) (level rank place current : ℕ → ℕ) (xs : List ℕ) : Type 0 where
  pub gentle : IsGentle net xs level
  pub ordered : IsOrdered net level rank
  pub sinks : (v : ℕ) → IsTrue (one_of t v) → level v ≡ 0
  pub blocked : IsBlocked net (one_of t) rank place current xs
  pub near : (v : ℕ) → IsTrue (seen dist v) → level v ≡ cell_of dist v
  pub far : (v : ℕ) → IsTrue (one_of s v) → IsFalse (seen dist v) → net.nodes ≤ level v
  pub dead : (v : ℕ) → IsTrue (one_of s v) → IsTrue (seen dist v) → IsDead net (one_of t) place current v

-- how a new distance compares with the old level
abbrev IsFarther : (ℕ → ℕ) → ℕ → (ℕ → Type 0) → ℕ → Type 0
IsFarther old new D v = (old v ≤ new) × (D v → old v < new)

sink_dies_not : (net : Net) (t : List ℕ) (place current : ℕ → ℕ) (v : ℕ) → IsTrue (one_of t v)
    → IsDead net (one_of t) place current v → ⊥
sink_dies_not net t place current v i d = let f = d.inner in absurd (cc)

-- at first a search sees no source at distance 0
pub far_start : (net : Net) (s t xs : List ℕ) → AreApart (one_of s) (one_of t) → IsFar net s t xs 0
far_start net s t xs apart dist via f v i k =
    let m = marked_seen dist v k in
    let at = cell_at dist v m.0 in
    elim (f.come (v - 1) (omega (arith, m.0, m.1, f.size)) m.2) [
      | inl start ↦
          let up : v - 1 + 1 ≡ v = omega (arith, m.0) in
          let sink : IsTrue (one_of t v) = subst (λ w. IsTrue (one_of t w)) up start.1 in
          let no = apart v i in absurd (cc)
      | inr came ↦ omega (arith, came.level, at)
    ]

-- a source that a search sees is at a distance below the number of nodes
pub far_few : {net : Net} (s : List ℕ) {t xs dist via : List ℕ} (j v : ℕ) → IsFar net s t xs j
    → IsSearched net xs Backwards t dist via → IsTrue (one_of s v) → IsTrue (seen dist v) → j + 1 < net.nodes
far_few s {dist} {via} j v far f i k =
    let m = marked_seen dist v k in
    omega (arith, far dist via f v i k, cell_at dist v m.0, f.levels (v - 1) (omega (arith, m.0, m.1, f.size)) m.2)

-- a phase that is done, and a search after it
module _ {net : Net} {s t dist : List ℕ} {level rank place current : ℕ → ℕ} {xs : List ℕ} (n : IsNet net)
    (p : IsPhaseDone net s t dist level rank place current xs) where
  -- a dead node's half-arcs that go down one level lead to dead nodes, if something remains on them
  dead_closed : (h : ℕ) → h < 2 * length net.arcs → IsDead net (one_of t) place current (tail_of net h)
      → 1 ≤ residual net xs h → level (tail_of net h) ≡ level (head_of net h) + 1
      → IsDead net (one_of t) place current (head_of net h)
  dead_closed h l d r e =
      elim (p.blocked h l (d.over h l refl other)
      (p.ordered (head_of net h) (tail_of net h) (head_is_node net h n l) (tail_is_node net h n l) (omega arith))) [
        | inl z ↦ absurd (omega arith)
        | inr k ↦ k
      ]
    where
      other : head_of net h ≢ tail_of net h
      other same = let at : level (head_of net h) ≡ level (tail_of net h) = ap level same in omega arith

  -- one half-arc farther
  farther_step : (dist' : List ℕ) {v : ℕ} (h : ℕ) → h < 2 * length net.arcs → tail_of net h ≡ v → 1 ≤ residual net xs h
      → get_or dist' (head_of net h - 1) 0 + 1 ≡ get_or dist' (v - 1) 0
      → IsFarther level (get_or dist' (head_of net h - 1) 0) (IsDead net (one_of t) place current) (head_of net h)
      → IsFarther level (get_or dist' (v - 1) 0) (IsDead net (one_of t) place current) v
  farther_step dist' {v} h i from r e rest =
      let at : level (tail_of net h) ≡ level v = ap level from in
      let slope = p.gentle h i r in
      let rest0 = rest.0 in (
        omega arith,
        λ d. elim (cases_eq (level v) (level (head_of net h) + 1)) [
          | inl e' ↦
              omega (
                arith,
                e,
                rest.1 (dead_closed h i (subst (IsDead net (one_of t) place current) (sym from) d) r (at ∙ e')),
              )
          | inr n' ↦ omega (arith, e, n')
        ],
      )

  farther_start : (v new : ℕ) → 1 ≤ v → IsTrue (one_of t (v - 1 + 1))
      → IsFarther level new (IsDead net (one_of t) place current) v
  farther_start v new o i =
      let up : v - 1 + 1 ≡ v = omega arith in
      let sink : IsTrue (one_of t v) = subst (λ w. IsTrue (one_of t w)) up i in
      (omega (arith, p.sinks v sink), λ d. absurd (sink_dies_not net t place current v sink d))

  -- a new search never finds a node nearer than the old one did, and a dead node farther
  farther : (dist' via' : List ℕ) → IsSearched net xs Backwards t dist' via' → (k v : ℕ) → 1 ≤ v → v ≤ net.nodes
      → get_or dist' (v - 1) 0 ≤ k → IsMarked dist' (v - 1)
      → IsFarther level (get_or dist' (v - 1) 0) (IsDead net (one_of t) place current) v
  farther dist' via' f zero v a b l m = elim (f.come (v - 1) (omega arith) m) [
    | inl start ↦ farther_start v (get_or dist' (v - 1) 0) a start.1
    | inr came ↦ absurd (omega (arith, came.level))
  ]
  farther dist' via' f (suc k) v a b l m =
      elim (f.come (v - 1) (omega arith) m) [
        | inl start ↦ farther_start v (get_or dist' (v - 1) 0) a start.1
        | inr came ↦
            let h = get_or via' (v - 1) 0 in
            let from : tail_of net h ≡ v = let far = came.far in omega arith in
            let rest =
            farther dist' via' f k (head_of net h) came.near came.within (omega (arith, came.level)) came.marked in
            farther_step dist' h came.in_range from came.remains came.level rest
      ]

  -- after a phase it sees none at the distance so far
  pub far_phase : (ys via : List ℕ) (j : ℕ) → IsFar net s t ys j → IsSearched net ys Backwards t dist via
      → j + 1 < net.nodes → IsFar net s t xs (j + 1)
  far_phase ys via j far f few dist' via' f' v i k =
      let m = marked_seen dist' v k in
      let at = cell_at dist' v m.0 in
      let r = farther dist' via' f' (get_or dist' (v - 1) 0) v m.0 (omega (arith, m.1, f'.size)) (omega arith) m.2 in
      elim (cases_Bool (seen dist v)) [
        | inl was ↦ omega (arith, r.1 (p.dead v i was), p.near v was, far dist via f v i was, at)
        | inr new ↦ omega (arith, r.0, p.far v i new, at)
      ]
