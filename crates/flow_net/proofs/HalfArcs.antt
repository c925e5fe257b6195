-- Half-arcs: the two of an arc, and what a push does to the residual capacities.
use Rattle.std.proofs.Common.{◌≡◌, ◌≢◌, ℕ, ◌+◌, ◌-◌, ◌/◌, ◌%◌, ◌<◌, Bool, true, false, not, cond, eqb, List}
use Rattle.std.proofs.Common.{length, arith, refl, ap, subst, sym, ◌∙◌, inl, inr, get_or-set_same, get_or-set_other}
use Rattle.std.proofs.Common.{eq-eqb}
use Rattle.std.specs.Prelude.{slice_index}
use Rattle.std.proofs.lemmas.Bool.{cases_eq, ne_eqb}
use Rattle.flow_net.specs.declared.networks.Arc.{Arc}
use Rattle.flow_net.specs.Nets.{Net, arc_at}
use Rattle.flow_net.specs.Flows.{HasNoLoops}
use Rattle.flow_net.specs.Residual.{half_room, half_pushed, tail_of, head_of, residual, pushed}

-- ---- the two half-arcs of an arc

-- whether a half-arc runs along its arc
abbrev pub runs_along : ℕ → Bool
runs_along h = eqb (h % 2) 0

turned_ends : (b c : Bool) (a : Arc) → c ≡ not b
    → (cond c a.src a.dst ≡ cond b a.dst a.src) × (cond c a.dst a.src ≡ cond b a.src a.dst)
turned_ends true c a e = rw e (refl, refl)
turned_ends false c a e = rw e (refl, refl)

-- the other half-arc of an arc runs from the head to the tail
pub ends_of_twin : (net : Net) (h g : ℕ) → g / 2 ≡ h / 2 → runs_along g ≡ not (runs_along h)
    → (tail_of net g ≡ head_of net h) × (head_of net g ≡ tail_of net h)
ends_of_twin net h g same turned =
    let e = turned_ends (runs_along h) (runs_along g) (arc_at net (h / 2)) turned in
    let At : ℕ → Type 0 =
    λ i. (cond (runs_along g) (arc_at net i).src (arc_at net i).dst ≡ head_of net h)
    × (cond (runs_along g) (arc_at net i).dst (arc_at net i).src ≡ tail_of net h) in
    subst At (sym same) e

-- two half-arcs of one arc are the same or twins
pub one_arc_ends : (net : Net) (h g : ℕ) → g / 2 ≡ h / 2 → g ≢ h → runs_along g ≡ not (runs_along h)
one_arc_ends net h g same apart = elim (cases_eq (h % 2) 0) [
  | inl e ↦
      (let odd : g % 2 ≢ 0 = λ z. apart (omega arith) in
      let hb : runs_along h ≡ true = eq-eqb (h % 2) 0 e in
      let gb : runs_along g ≡ false = ne_eqb (g % 2) 0 odd in
      rw (hb, gb) refl)
  | inr n ↦
      (let even : g % 2 ≡ 0 = omega (arith, odd_even apart n) in
      let hb : runs_along h ≡ false = ne_eqb (h % 2) 0 n in
      let gb : runs_along g ≡ true = eq-eqb (g % 2) 0 even in
      rw (hb, gb) refl)
]
  where
    odd_even : g ≢ h → h % 2 ≢ 0 → g % 2 ≡ 0
    odd_even a n = elim (cases_eq (g % 2) 0) [ inl e ↦ e | inr m ↦ absurd (a (omega arith)) ]

-- ---- what remains after a push

room-pushed : (b : Bool) (cap x d : ℕ)
    → cond b (cap - cond b (x + d) (x - d)) (cond b (x + d) (x - d)) ≡ cond b (cap - x) x - d
room-pushed true cap x d = omega arith
room-pushed false cap x d = refl

-- the half-arc itself has so much less
pub residual-pushed : (net : Net) (xs : List ℕ) (h d : ℕ) → h / 2 < length xs
    → residual net (pushed xs h d) h ≡ residual net xs h - d
residual-pushed net xs h d lt =
    let cap = (arc_at net (h / 2)).cap in let x = slice_index xs (h / 2) in let b = runs_along h in
    ap (λ y. cond b (cap - y) y) (get_or-set_same xs (h / 2) (cond b (x + d) (x - d)) 0 lt) ∙ room-pushed b cap x d

-- the half-arcs of other arcs keep theirs
pub residual-pushed_other : (net : Net) (xs : List ℕ) (h g d : ℕ) → g / 2 ≢ h / 2
    → residual net (pushed xs h d) g ≡ residual net xs g
residual-pushed_other net xs h g d apart =
    ap (λ x. half_room (arc_at net (g / 2)) x g)
    (get_or-set_other xs (h / 2) (g / 2) (half_pushed (slice_index xs (h / 2)) h d) 0 apart)

-- ---- self-loops

no_loop : (b : Bool) (a : Arc) → cond b a.src a.dst ≢ cond b a.dst a.src → a.src ≡ a.dst → ⊥
no_loop true a n e = n e
no_loop false a n e = n (sym e)

-- a push between two nodes leaves the self-loops empty
pub no_loops_pushed : (net : Net) (xs : List ℕ) (h d : ℕ) → tail_of net h ≢ head_of net h → HasNoLoops net xs
    → HasNoLoops net (pushed xs h d)
no_loops_pushed net xs h d n z i l loop = elim (cases_eq i (h / 2)) [
  | inl e ↦
      absurd (no_loop (runs_along h) (arc_at net (h / 2)) n
      (let P : ℕ → Type 0 = λ j. (arc_at net j).src ≡ (arc_at net j).dst in subst P e loop))
  | inr o ↦ get_or-set_other xs (h / 2) i (half_pushed (slice_index xs (h / 2)) h d) 0 o ∙ z i l loop
]
