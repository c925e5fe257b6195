-- Half-arcs that lead to a lower rank: how many of them a phase has still to pass.
use Rattle.std.proofs.Common.{◌≡◌, ◌≢◌, ℕ, zero, suc, ◌+◌, ◌-◌, ◌*◌, ◌/◌, ◌≤◌, ◌<◌, Bool, true, false, cond, not, ◌&&◌}
use Rattle.std.proofs.Common.{List, length, refl, ◌∙◌, sym, ap, subst, inl, inr, eq-eqb, arith}
use Rattle.std.proofs.Math.Nat.{mul-le-mul_left, min-le_right}
use Rattle.std.proofs.lemmas.Bool.{cases_eq, ne_eqb, lt-ltb, ltb-true, le-ltb, ltb-false}
use Rattle.flow_net.specs.Nets.{Net}
use Rattle.flow_net.specs.Residual.{tail_of, head_of, residual}
use Rattle.flow_net.proofs.HalfArcs.{ends_of_twin, one_arc_ends}
use Rattle.flow_solve.specs.levels.Phases.{count_below, weight_below, falls, passed, is_left, left, fill_cost, to_fill}
use Rattle.flow_solve.specs.levels.Phases.{any}
use Rattle.flow_solve.specs.levels.Phases.{is_open}

fewer_step : (b c : Bool) (m k : ℕ) → (b ≡ true → c ≡ true) → m ≤ k → m + cond b 1 0 ≤ k + cond c 1 0
fewer_step b c m k h l = grind arith

pub count_below-le : (n : ℕ) (p q : ℕ → Bool) → ((h : ℕ) → p h ≡ true → q h ≡ true) → count_below n p ≤ count_below n q
count_below-le zero p q f = omega arith
count_below-le (suc n) p q f = fewer_step (p n) (q n) _ _ (f n) (count_below-le n p q f)

lost_step : (b c : Bool) (m k : ℕ) → b ≡ false → c ≡ true → m ≤ k → m + cond b 1 0 < k + cond c 1 0
lost_step b c m k h i l = grind arith

kept_step : (b c : Bool) (m k : ℕ) → (b ≡ true → c ≡ true) → m < k → m + cond b 1 0 < k + cond c 1 0
kept_step b c m k h l = grind arith

pub count_below-lt : (n : ℕ) (p q : ℕ → Bool) (h : ℕ) → ((g : ℕ) → p g ≡ true → q g ≡ true) → h < n → p h ≡ false
    → q h ≡ true → count_below n p < count_below n q
count_below-lt zero p q h f l o i = absurd (omega arith)
count_below-lt (suc n) p q h f l o i = elim (cases_eq h n) [
  | inl e ↦ lost_step (p n) (q n) _ _ (sym (ap p e) ∙ o) (sym (ap q e) ∙ i) (count_below-le n p q f)
  | inr d ↦ kept_step (p n) (q n) _ _ (f n) (count_below-lt n p q h f (omega arith) o i)
]

-- the same of sums of weights
weigh_step : (b c : Bool) (m k w : ℕ) → (b ≡ true → c ≡ true) → m ≤ k → m + cond b w 0 ≤ k + cond c w 0
weigh_step true true m k w h l = omega (arith, l)
weigh_step true false m k w h l = let e = h refl in absurd (cc)
weigh_step false true m k w h l = omega (arith, l)
weigh_step false false m k w h l = omega (arith, l)

pub weight_below-le : (n : ℕ) (p q : ℕ → Bool) (w : ℕ → ℕ) → ((h : ℕ) → p h ≡ true → q h ≡ true)
    → weight_below n p w ≤ weight_below n q w
weight_below-le zero p q w f = omega arith
weight_below-le (suc n) p q w f = weigh_step (p n) (q n) _ _ (w n) (f n) (weight_below-le n p q w f)

weigh_lost : (b c : Bool) (m k w : ℕ) → b ≡ false → c ≡ true → m ≤ k → m + cond b w 0 + w ≤ k + cond c w 0
weigh_lost true c m k w h i l = absurd (cc)
weigh_lost false true m k w h i l = omega (arith, l)
weigh_lost false false m k w h i l = absurd (cc)

weigh_kept : (b c : Bool) (m k w v : ℕ) → (b ≡ true → c ≡ true) → m + v ≤ k → m + cond b w 0 + v ≤ k + cond c w 0
weigh_kept true true m k w v h l = omega (arith, l)
weigh_kept true false m k w v h l = let e = h refl in absurd (cc)
weigh_kept false true m k w v h l = omega (arith, l)
weigh_kept false false m k w v h l = omega (arith, l)

pub weight_below-lost : (n : ℕ) (p q : ℕ → Bool) (w : ℕ → ℕ) (h : ℕ) → ((g : ℕ) → p g ≡ true → q g ≡ true) → h < n
    → p h ≡ false → q h ≡ true → weight_below n p w + w h ≤ weight_below n q w
weight_below-lost zero p q w h f l o i = absurd (omega arith)
weight_below-lost (suc n) p q w h f l o i = elim (cases_eq h n) [
  | inl e ↦
      let lost = weigh_lost (p n) (q n) _ _ (w n) (sym (ap p e) ∙ o) (sym (ap q e) ∙ i) (weight_below-le n p q w f) in
      omega (arith, lost, ap w e)
  | inr d ↦ weigh_kept (p n) (q n) _ _ (w n) (w h) (f n) (weight_below-lost n p q w h f (omega arith) o i)
]

weigh_most : (b : Bool) (m k w c : ℕ) → w ≤ c → m ≤ c * k → m + cond b w 0 ≤ c * (k + cond b 1 0)
weigh_most true m k w c l o = omega (arith, l, o)
weigh_most false m k w c l o = omega (arith, l, o)

pub weight_below-most : (n c : ℕ) (p : ℕ → Bool) (w : ℕ → ℕ) → ((h : ℕ) → w h ≤ c)
    → weight_below n p w ≤ c * count_below n p
weight_below-most zero c p w f = omega arith
weight_below-most (suc n) c p w f = weigh_most (p n) _ _ (w n) c (f n) (weight_below-most n c p w f)

-- the other half-arc of an arc runs back
pub opposite : (net : Net) (g h : ℕ) → g / 2 ≡ h / 2 → g ≢ h
    → (tail_of net g ≡ head_of net h) × (head_of net g ≡ tail_of net h)
opposite net g h e n = ends_of_twin net h g e (one_arc_ends net h g e n)

-- so at most one of the two falls
pub one_falls : (net : Net) (rank : ℕ → ℕ) (g h : ℕ) → rank (head_of net g) < rank (tail_of net g)
    → rank (head_of net h) < rank (tail_of net h) → g / 2 ≡ h / 2 → g ≡ h
one_falls net rank g h a b e = elim (cases_eq g h) [
  | inl s ↦ s
  | inr n ↦ let o = opposite net g h e n in absurd (omega (arith, ap rank o.0, ap rank o.1))
]

left_parts : (f p r : Bool) → f && (not p && r) ≡ true → (f ≡ true) × (p ≡ false) × (r ≡ true)
left_parts true false true e = (refl, refl, refl)
left_parts true false false e = absurd (cc)
left_parts true true r e = absurd (cc)
left_parts false p r e = absurd (cc)

left_made : (f p r : Bool) → f ≡ true → p ≡ false → r ≡ true → f && (not p && r) ≡ true
left_made f p r a b c = grind arith

left_gone : (f p r : Bool) → p ≡ true → f && (not p && r) ≡ false
left_gone f p r a = grind arith

left_lost : (f p r : Bool) → r ≡ false → f && (not p && r) ≡ false
left_lost f p r a = grind arith

stays : (net : Net) (rank place now next : ℕ → ℕ) (test : ℕ → Bool) → ((v : ℕ) → now v ≤ next v) → (g : ℕ)
    → is_left net rank place next test g ≡ true → is_left net rank place now test g ≡ true
stays net rank place now next test up g e =
    let p = left_parts (falls net rank g) (passed net place next g) (test g) e in
    let b = ltb-false (place g) (next (tail_of net g)) p.1 in
    left_made (falls net rank g) (passed net place now g) (test g) p.0
    (le-ltb (place g) (now (tail_of net g)) (omega (arith, up (tail_of net g)))) p.2

-- where places only move on, no more are left
pub left_on : (net : Net) (rank place now next : ℕ → ℕ) (test : ℕ → Bool) → ((v : ℕ) → now v ≤ next v)
    → left net rank place next test ≤ left net rank place now test
left_on net rank place now next test up =
    count_below-le (2 * length net.arcs) (is_left net rank place next test) (is_left net rank place now test)
    (stays net rank place now next test up)

-- what it costs to fill what is left: no more where places only move on, and less by what fills a half-arc
pub to_fill_on : (net : Net) (rank place now next : ℕ → ℕ) (xs : List ℕ) → ((v : ℕ) → now v ≤ next v)
    → to_fill net rank place next xs ≤ to_fill net rank place now xs
to_fill_on net rank place now next xs up =
    weight_below-le (2 * length net.arcs) (is_left net rank place next (is_open net xs))
    (is_left net rank place now (is_open net xs)) (fill_cost net rank)
    (stays net rank place now next (is_open net xs) up)

-- a half-arc at its node's current place is filled
module _ (net : Net) (rank place current : ℕ → ℕ) (h : ℕ) (l : h < 2 * length net.arcs)
    (p : place h ≡ current (tail_of net h)) (f : rank (head_of net h) < rank (tail_of net h)) where
  -- a narrower test leaves fewer, where it refuses one that is left
  pub left_filled : (q r : ℕ → Bool) → ((g : ℕ) → rank (head_of net g) < rank (tail_of net g) → q g ≡ true → r g ≡ true)
      → q h ≡ false → r h ≡ true → left net rank place current q < left net rank place current r
  left_filled q r n o i =
      count_below-lt (2 * length net.arcs) (is_left net rank place current q) (is_left net rank place current r) h
      (λ g e. let p = left_parts (falls net rank g) (passed net place current g) (q g) e in
      left_made (falls net rank g) (passed net place current g) (r g) p.0 p.1
      (n g (ltb-true (rank (head_of net g)) (rank (tail_of net g)) p.0) p.2)) l
      (left_lost (falls net rank h) (passed net place current h) (q h) o)
      (left_made (falls net rank h) (passed net place current h) (r h)
      (lt-ltb (rank (head_of net h)) (rank (tail_of net h)) f)
      (le-ltb (place h) (current (tail_of net h)) (omega arith)) i)

  pub to_fill_filled : (xs ys : List ℕ)
      → ((g : ℕ) → rank (head_of net g) < rank (tail_of net g) → is_open net ys g ≡ true → is_open net xs g ≡ true)
      → is_open net ys h ≡ false → is_open net xs h ≡ true
      → to_fill net rank place current ys + fill_cost net rank h ≤ to_fill net rank place current xs
  to_fill_filled xs ys n o i =
      weight_below-lost (2 * length net.arcs) (is_left net rank place current (is_open net ys))
      (is_left net rank place current (is_open net xs)) (fill_cost net rank) h
      (λ g e. let p = left_parts (falls net rank g) (passed net place current g) (is_open net ys g) e in
      left_made (falls net rank g) (passed net place current g) (is_open net xs g) p.0 p.1
      (n g (ltb-true (rank (head_of net g)) (rank (tail_of net g)) p.0) p.2)) l
      (left_lost (falls net rank h) (passed net place current h) (is_open net ys h) o)
      (left_made (falls net rank h) (passed net place current h) (is_open net xs h)
      (lt-ltb (rank (head_of net h)) (rank (tail_of net h)) f)
      (le-ltb (place h) (current (tail_of net h)) (omega arith)) i)

pair_step : (a b : Bool) (c k : ℕ) → (a ≡ true → b ≡ true → ⊥) → c ≤ k → c + cond a 1 0 + cond b 1 0 ≤ suc k
pair_step true true c k n l = absurd (n refl refl)
pair_step true false c k n l = omega arith
pair_step false true c k n l = omega arith
pair_step false false c k n l = omega arith

-- of each pair of numbers at most one passes
count_pairs : (k : ℕ) (p : ℕ → Bool) → ((g h : ℕ) → g / 2 ≡ h / 2 → p g ≡ true → p h ≡ true → g ≡ h)
    → count_below (2 * k) p ≤ k
count_pairs zero p one = omega arith
count_pairs (suc k) p one =
    let two : suc (suc (2 * k)) ≡ 2 * suc k = omega arith in
    subst (λ n. count_below n p ≤ suc k) two
    (pair_step (p (2 * k)) (p (suc (2 * k))) (count_below (2 * k) p) k
    (λ a b. apart (one (2 * k) (suc (2 * k)) (omega arith) a b)) (count_pairs k p one))
  where
    apart : 2 * k ≡ suc (2 * k) → ⊥
    apart e = omega arith

-- no more are left than there are arcs
pub left_most : (net : Net) (rank place current : ℕ → ℕ) (test : ℕ → Bool)
    → left net rank place current test ≤ length net.arcs
left_most net rank place current test =
    count_pairs (length net.arcs) (is_left net rank place current test) (λ g h e a b.
    let p = left_parts (falls net rank g) (passed net place current g) (test g) a in
    let q = left_parts (falls net rank h) (passed net place current h) (test h) b in
    one_falls net rank g h (ltb-true (rank (head_of net g)) (rank (tail_of net g)) p.0)
    (ltb-true (rank (head_of net h)) (rank (tail_of net h)) q.0) e)

-- and no more than three times the half-arcs of a path for each of them
pub to_fill_most : (net : Net) (rank place current : ℕ → ℕ) (xs : List ℕ)
    → to_fill net rank place current xs ≤ 3 * (net.nodes - 1) * length net.arcs
to_fill_most net rank place current xs =
    let all = weight_below-most (2 * length net.arcs) (3 * (net.nodes - 1))
    (is_left net rank place current (is_open net xs)) (fill_cost net rank)
    (λ h. omega (arith, min-le_right (rank (tail_of net h)) (net.nodes - 1))) in
    let few = mul-le-mul_left (3 * (net.nodes - 1)) (left_most net rank place current (is_open net xs)) in
    omega (arith, all, few)

-- the half-arcs that aren't passed
abbrev pub unpassed : Net → (ℕ → ℕ) → (ℕ → ℕ) → ℕ
unpassed net place current = count_below (2 * length net.arcs) (λ h. not (passed net place current h))

not_off : (b : Bool) → not b ≡ true → b ≡ false
not_off b e = grind arith

unpassed_stays : (net : Net) (place now next : ℕ → ℕ) → ((v : ℕ) → now v ≤ next v) → (g : ℕ)
    → not (passed net place next g) ≡ true → not (passed net place now g) ≡ true
unpassed_stays net place now next up g i =
    let b = ltb-false (place g) (next (tail_of net g)) (not_off (passed net place next g) i) in
    ap not (le-ltb (place g) (now (tail_of net g)) (omega (arith, b, up (tail_of net g))))

pub unpassed_on : (net : Net) (place now next : ℕ → ℕ) → ((v : ℕ) → now v ≤ next v)
    → unpassed net place next ≤ unpassed net place now
unpassed_on net place now next up =
    count_below-le (2 * length net.arcs) (λ g. not (passed net place next g)) (λ g. not (passed net place now g))
    (unpassed_stays net place now next up)

pub unpassed_past : (net : Net) (place now next : ℕ → ℕ) (h : ℕ) → ((v : ℕ) → now v ≤ next v) → h < 2 * length net.arcs
    → now (tail_of net h) ≤ place h → place h < next (tail_of net h) → unpassed net place next < unpassed net place now
unpassed_past net place now next h up l a b =
    count_below-lt (2 * length net.arcs) (λ g. not (passed net place next g)) (λ g. not (passed net place now g)) h
    (unpassed_stays net place now next up) l (ap not (lt-ltb (place h) (next (tail_of net h)) b))
    (ap not (le-ltb (place h) (now (tail_of net h)) a))

-- the test of a residual capacity
pub has_room : (net : Net) (xs : List ℕ) (h : ℕ) → 1 ≤ residual net xs h → is_open net xs h ≡ true
has_room net xs h r = ap not (ne_eqb (residual net xs h) 0 (omega arith))

pub no_room : (net : Net) (xs : List ℕ) (h : ℕ) → residual net xs h ≡ 0 → is_open net xs h ≡ false
no_room net xs h r = ap not (eq-eqb (residual net xs h) 0 r)

-- a half-arc that falls is passed
module _ (net : Net) (rank place now next : ℕ → ℕ) (h : ℕ) (up : (v : ℕ) → now v ≤ next v) (l : h < 2 * length net.arcs)
    (a : now (tail_of net h) ≤ place h) (b : place h < next (tail_of net h))
    (f : rank (head_of net h) < rank (tail_of net h)) where
  -- and past a half-arc that falls, fewer
  pub left_past : (test : ℕ → Bool) → test h ≡ true → left net rank place next test < left net rank place now test
  left_past test i =
      count_below-lt (2 * length net.arcs) (is_left net rank place next test) (is_left net rank place now test) h
      (stays net rank place now next test up) l
      (left_gone (falls net rank h) (passed net place next h) (test h) (lt-ltb (place h) (next (tail_of net h)) b))
      (left_made (falls net rank h) (passed net place now h) (test h)
      (lt-ltb (rank (head_of net h)) (rank (tail_of net h)) f) (le-ltb (place h) (now (tail_of net h)) a) i)

  -- a look that fails passes one that falls, and a retreat one with a residual capacity
  pub pass_any : left net rank place next any < left net rank place now any
  pass_any = left_past any refl
