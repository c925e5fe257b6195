-- The walk of a phase, turn by turn.
use Rattle.std.proofs.Common.{◌≡◌, ◌≢◌, ℕ, ◌+◌, ◌-◌, ◌*◌, ◌≤◌, ◌<◌, ◌⊎◌, Bool, List, length, get_or, set, ◌∙◌, sym, ap}
use Rattle.std.proofs.Common.{subst, inl, inr, arith}
use Rattle.std.proofs.lemmas.Bool.{cases_eq}
use Rattle.flow_net.specs.Nets.{Net, IsNode}
use Rattle.flow_net.specs.Limits.{IsNet}
use Rattle.flow_net.specs.Residual.{tail_of, head_of, residual}
use Rattle.flow_solve.specs.residual.Packs.{IsPacked}
use Rattle.flow_solve.specs.levels.Phases.{cell_of, first_at, left, any, HasMoved, IsAdmissible, IsDead, IsBlocked}
use Rattle.flow_solve.specs.levels.Phases.{AreWithin}
use Rattle.flow_solve.specs.levels.Phases.{IsCurrent}
use Rattle.flow_solve.proofs.LevelLemmas.Falls.{left_on, pass_any}
use Rattle.flow_solve.proofs.LevelLemmas.Places.{cell_at, cell_set, cell_other, IsMine, mine, one_place, falls_apart}

-- ---- places that move on

-- a node's place moves on by one
pub record IsOn (now next : ℕ → ℕ) (x : ℕ) : Type 0 where
  pub here : next x ≡ now x + 1
  pub there : (v : ℕ) → v ≢ x → next v ≡ now v

pub on_up : (now next : ℕ → ℕ) (x : ℕ) → IsOn now next x → (v : ℕ) → now v ≤ next v
on_up now next x o v = elim (cases_eq v x) [
  | inl e ↦ rw e (omega (arith, o.here))
  | inr n ↦ omega (arith, o.there v n)
]

pub moved_up : (now next : ℕ → ℕ) (x : ℕ) → HasMoved now next x → (v : ℕ) → now v ≤ next v
moved_up now next x m v = elim (cases_eq v x) [
  | inl e ↦ rw e m.up
  | inr n ↦ omega (arith, m.there v n)
]

-- a node's cell is written
pub set_on : (current : List ℕ) (x p : ℕ) → 1 ≤ x → x ≤ length current
    → IsOn (cell_of (set current (x - 1) p)) (cell_of (set current (x - 1) (p + 1))) x
set_on current x p o l = record {
  here = cell_set current x (p + 1) o l ∙ ap (λ z. z + 1) (sym (cell_set current x p o l));
  there = λ v n. cell_other current x (p + 1) v o n ∙ sym (cell_other current x p v o n);
}

pub set_next : (current : List ℕ) (x : ℕ) → 1 ≤ x → x ≤ length current
    → IsOn (cell_of current) (cell_of (set current (x - 1) (cell_of current x + 1))) x
set_next current x o l = record {
  here = cell_set current x (cell_of current x + 1) o l;
  there = λ v n. cell_other current x (cell_of current x + 1) v o n;
}

pub set_moved : (current : List ℕ) (x p : ℕ) → 1 ≤ x → x ≤ length current → cell_of current x ≤ p
    → HasMoved (cell_of current) (cell_of (set current (x - 1) p)) x
set_moved current x p o l a = record {
  up = omega (arith, cell_set current x p o l);
  there = λ v n. cell_other current x p v o n;
}

pub moved_within : (net : Net) (first : List ℕ) (now next : ℕ → ℕ) (x : ℕ)
    → (now x ≤ next x) × ((v : ℕ) → v ≢ x → next v ≡ now v) → next x ≤ get_or first x 0 → AreWithin net first now
    → AreWithin net first next
moved_within net first now next x m l f v i = elim (cases_eq v x) [
  | inl e ↦
      (omega (arith, m.0, ap next e, ap now e, (f v i).0), omega (arith, l, ap next e, ap (λ w. get_or first w 0) e))
  | inr n ↦ (omega (arith, m.1 v n, (f v i).0), omega (arith, m.1 v n, (f v i).1))
]

-- places move on from now to next: what was dead or blocked stays so
module _ (net : Net) (t : ℕ → Bool) (place now next : ℕ → ℕ) where
  pub dead_on : (v : ℕ) → ((w : ℕ) → now w ≤ next w) → IsDead net t place now v → IsDead net t place next v
  dead_on v up d = record { inner = d.inner; over = λ h l e o. omega (arith, d.over h l e o, up v) }

  pub blocked_on : (xs : List ℕ) (h : ℕ) → ((w : ℕ) → now w ≤ next w)
      → (residual net xs h ≡ 0) ⊎ IsDead net t place now (head_of net h)
      → (residual net xs h ≡ 0) ⊎ IsDead net t place next (head_of net h)
  blocked_on xs h up (inl z) = inl z
  blocked_on xs h up (inr d) = inr (dead_on (head_of net h) up d)

  pub blocked_same : (rank : ℕ → ℕ) (xs : List ℕ) → ((v : ℕ) → next v ≡ now v) → IsBlocked net t rank place now xs
      → IsBlocked net t rank place next xs
  blocked_same rank xs same b h l p f =
      blocked_on xs h (λ v. omega (arith, same v)) (b h l (omega (arith, p, same (tail_of net h))) f)

  -- the place of x moves on past a half-arc that doesn't fall, on which nothing remains, or that leads to a dead node
  pub blocked_pass : (rank : ℕ → ℕ) (xs : List ℕ) (x h : ℕ)
      → ((g : ℕ) → g < 2 * length net.arcs → tail_of net g ≢ head_of net g → place g ≡ place h → h ≡ g)
      → IsOn now next x → place h ≡ now x
      → (rank (head_of net h) < rank (tail_of net h) → (residual net xs h ≡ 0) ⊎ IsDead net t place now (head_of net h))
      → IsBlocked net t rank place now xs → IsBlocked net t rank place next xs
  blocked_pass rank xs x h one o p why b g k l f = elim (cases_eq (tail_of net g) x) [
    | inl here ↦
        let at : next (tail_of net g) ≡ next x = ap next here in
        let was : now (tail_of net g) ≡ now x = ap now here in
        elim (cases_eq (place g) (now x)) [
          | inl s ↦
              let same : h ≡ g = one g k (falls_apart net rank g f) (s ∙ sym p) in
              blocked_on xs g (on_up now next x o) (subst (λ z. rank (head_of net z) < rank (tail_of net z)
              → (residual net xs z ≡ 0) ⊎ IsDead net t place now (head_of net z)) same why f)
          | inr n ↦ blocked_on xs g (on_up now next x o) (b g k (omega (arith, o.here)) f)
        ]
    | inr away ↦
        blocked_on xs g (on_up now next x o) (b g k (omega (arith, o.there (tail_of net g) away)) f)
  ]

-- ---- the look-out for an admissible half-arc

-- its node's place is at p, past half-arcs that aren't admissible
pub record IsLooking (net : Net) (first halves rank current xs : List ℕ) (x p before steps : ℕ) : Type 0 where
  pub least : cell_of current x ≤ p
  pub most : p ≤ get_or first x 0
  pub blocked : (t : ℕ → Bool) → IsBlocked net t (cell_of rank) (first_at halves) (cell_of current) xs
      → IsBlocked net t (cell_of rank) (first_at halves) (cell_of (set current (x - 1) p)) xs
  pub paid : steps + left net (cell_of rank) (first_at halves) (cell_of (set current (x - 1) p)) any
      ≤ before + left net (cell_of rank) (first_at halves) (cell_of current) any

pub looking_start : {net : Net} {first halves rank current xs : List ℕ} {x before : ℕ} → IsNode net x
    → IsCurrent net first current
    → IsLooking net first halves rank current xs x (get_or current (x - 1) 0) before before
looking_start {net} {halves} {rank} {current} {xs} {x} i now =
    let at = cell_at current x i.0 in
    record {
      least = omega (arith, at);
      most = omega (arith, at, (now.places x i).1);
      blocked = λ t b.
          blocked_same net t (first_at halves) (cell_of current) (cell_of
          (set current (x - 1) (get_or current (x - 1) 0))) (cell_of rank) xs same b;
      paid =
          omega (
            arith,
            left_on net (cell_of rank) (first_at halves) (cell_of current)
                (cell_of (set current (x - 1) (get_or current (x - 1) 0))) any (λ v. omega (arith, same v)),
          );
    }
  where
    same : (v : ℕ) → cell_of (set current (x - 1) (get_or current (x - 1) 0)) v ≡ cell_of current v
    same v = elim (cases_eq v x) [
      | inl e ↦
          rw e (cell_set current x (get_or current (x - 1) 0) i.0 (omega (arith, i.1, now.size))
          ∙ cell_at current x i.0)
      | inr n ↦ cell_other current x (get_or current (x - 1) 0) v i.0 n
    ]

-- a look-out that has not come to the end of its node's half-arcs
module _ {net : Net} {first halves rank current xs : List ℕ} {x p before steps : ℕ} (n : IsNet net)
    (k : IsPacked net first halves) (i : IsNode net x) (now : IsCurrent net first current)
    (l : IsLooking net first halves rank current xs x p before steps) (m : p < get_or first x 0) where
  -- the half-arc at p
  pub mine_at : IsMine net halves x p (get_or halves p 0)
  mine_at = mine n k x p i (omega (arith, (now.places x i).0, l.least)) m

  looking_blocked : IsMine net halves x p (get_or halves p 0)
      → (cell_of rank (head_of net (get_or halves p 0)) < cell_of rank (tail_of net (get_or halves p 0))
      → residual net xs (get_or halves p 0) ≡ 0) → (t : ℕ → Bool)
      → IsBlocked net t (cell_of rank) (first_at halves) (cell_of (set current (x - 1) p)) xs
      → IsBlocked net t (cell_of rank) (first_at halves) (cell_of (set current (x - 1) (p + 1))) xs
  looking_blocked g why t b =
      blocked_pass net t (first_at halves) (cell_of (set current (x - 1) p)) (cell_of (set current (x - 1) (p + 1)))
      (cell_of rank) xs x (get_or halves p 0) (λ h l o e. one_place n k h (get_or halves p 0) l o
      (ap (λ z. get_or halves z 0) g.place) e) (set_on current x p i.0 (omega (arith, i.1, now.size))) (g.place
      ∙ sym (cell_set current x p i.0 (omega (arith, i.1, now.size)))) (λ f. inl (why f)) b

  -- it doesn't fall
  pub looking_skip : cell_of rank (tail_of net (get_or halves p 0)) ≤ cell_of rank (head_of net (get_or halves p 0))
      → IsLooking net first halves rank current xs x (p + 1) before steps
  looking_skip rises =
      let g = mine_at in
      let o = set_on current x p i.0 (omega (arith, i.1, now.size)) in
      record {
        least = omega (arith, l.least);
        most = omega arith;
        blocked = λ t b. looking_blocked g (λ f. absurd (omega arith)) t (l.blocked t b);
        paid =
            omega (
              arith,
              l.paid,
              left_on net (cell_of rank) (first_at halves) (cell_of (set current (x - 1) p))
                  (cell_of (set current (x - 1) (p + 1))) any
                  (on_up (cell_of (set current (x - 1) p)) (cell_of (set current (x - 1) (p + 1))) x o),
            );
      }

  -- it falls, but nothing remains on it
  pub looking_fail : cell_of rank (head_of net (get_or halves p 0)) < cell_of rank (tail_of net (get_or halves p 0))
      → residual net xs (get_or halves p 0) ≡ 0
      → IsLooking net first halves rank current xs x (p + 1) before (steps + 1)
  looking_fail falls none =
      let g = mine_at in
      let h = get_or halves p 0 in
      let low = cell_set current x p i.0 (omega (arith, i.1, now.size)) in
      let high = cell_set current x (p + 1) i.0 (omega (arith, i.1, now.size)) in
      let o = set_on current x p i.0 (omega (arith, i.1, now.size)) in
      record {
        least = omega (arith, l.least);
        most = omega arith;
        blocked = λ t b. looking_blocked g (λ f. none) t (l.blocked t b);
        paid = omega (
          arith,
          l.paid,
          pass_any net (cell_of rank) (first_at halves) (cell_of (set current (x - 1) p))
              (cell_of (set current (x - 1) (p + 1))) (get_or halves p 0)
              (on_up (cell_of (set current (x - 1) p)) (cell_of (set current (x - 1) (p + 1))) x o) g.half
              (omega (arith, low, g.place, ap (cell_of (set current (x - 1) p)) g.tail))
              (omega (arith, high, g.place, ap (cell_of (set current (x - 1) (p + 1))) g.tail)) falls,
        );
      }

  -- it is admissible
  pub looking_found : cell_of rank (head_of net (get_or halves p 0)) < cell_of rank (tail_of net (get_or halves p 0))
      → 1 ≤ residual net xs (get_or halves p 0)
      → IsAdmissible net (cell_of rank) (first_at halves) (cell_of (set current (x - 1) p)) xs x (get_or halves p 0)
  looking_found falls some =
      let g = mine_at in
      record {
        half = g.half;
        tail = g.tail;
        here = g.place ∙ sym (cell_set current x p i.0 (omega (arith, i.1, now.size)));
        falls = falls;
        remains = some;
      }
