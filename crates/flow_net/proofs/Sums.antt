-- Sums of a flow over the arcs.
use Rattle.std.proofs.Common.{◌≡◌, ℕ, zero, suc, ◌+◌, ◌≤◌, ◌<◌, Bool, true, false, cond, not, eqb, ◌&&◌, List, [], ◌∷◌}
use Rattle.std.proofs.Common.{refl, ◌∙◌, arith, eq-eqb, inl, inr}
use Rattle.std.specs.List.{AllByRecursion}
use Rattle.std.proofs.lemmas.Bool.{ne_eqb, cases_eq}
use Rattle.flow_net.specs.declared.networks.Arc.{Arc}
use Rattle.flow_net.specs.NodeSets.{just}
use Rattle.flow_net.specs.Flows.{flow_over, out_of, into}
use Rattle.flow_net.specs.Cuts.{leaves}
use Rattle.flow_net.specs.Arcs.{enters}

exchange_step : (p q : Bool) (x o i l e : ℕ) → o + e ≡ i + l
    → (cond p x 0 + o) + (cond (q && not p) x 0 + e) ≡ (cond q x 0 + i) + (cond (p && not q) x 0 + l)
exchange_step true true x o i l e h = omega arith
exchange_step true false x o i l e h = omega arith
exchange_step false true x o i l e h = omega arith
exchange_step false false x o i l e h = omega arith

-- the flow out of a set's nodes, less that into them, is what leaves the set less what enters it
pub exchange : (X : ℕ → Bool) (arcs : List Arc) (xs : List ℕ)
    → out_of X arcs xs + flow_over (enters X) arcs xs ≡ into X arcs xs + flow_over (leaves X) arcs xs
exchange X [] xs = refl
exchange X (a ∷ arcs) [] = refl
exchange X (a ∷ arcs) (x ∷ xs) = exchange_step (X a.src) (X a.dst) x _ _ _ _ (exchange X arcs xs)

-- the sum over the nodes 1 to n of a set
abbrev pub over : ℕ → (ℕ → Bool) → (ℕ → ℕ) → ℕ
over zero X f = 0
over (suc n) X f = over n X f + cond (X (suc n)) (f (suc n)) 0

over_zero : (n : ℕ) (X : ℕ → Bool) → over n X (λ v. 0) ≡ 0
over_zero zero X = refl
over_zero (suc n) X = grind (arith, over_zero n X)

over_add_step : (b : Bool) (m k x y : ℕ) → cond b (x + y) 0 + (m + k) ≡ (m + cond b x 0) + (k + cond b y 0)
over_add_step true m k x y = omega arith
over_add_step false m k x y = omega arith

over_add : (n : ℕ) (X : ℕ → Bool) (f g : ℕ → ℕ) → over n X (λ v. f v + g v) ≡ over n X f + over n X g
over_add zero X f g = refl
over_add (suc n) X f g =
    omega (arith, over_add n X f g, over_add_step (X (suc n)) (over n X f) (over n X g) (f (suc n)) (g (suc n)))

above_step : (b e : Bool) (m x : ℕ) → m ≡ 0 → e ≡ false → m + cond b (cond e x 0) 0 ≡ 0
above_step b e m x h k = grind arith

point_step : (b e : Bool) (m x : ℕ) → m ≡ 0 → e ≡ true → m + cond b (cond e x 0) 0 ≡ cond b x 0
point_step b e m x h k = grind arith

below_step : (b c e : Bool) (m x : ℕ) → m ≡ cond c x 0 → e ≡ false → m + cond b (cond e x 0) 0 ≡ cond c x 0
below_step b c e m x h k = grind arith

-- a sum of which one node has a part
over_above : (n : ℕ) (X : ℕ → Bool) (w x : ℕ) → n < w → over n X (λ v. cond (just v w) x 0) ≡ 0
over_above zero X w x h = refl
over_above (suc n) X w x h =
    let e : eqb w (suc n) ≡ false = ne_eqb w (suc n) (omega arith) in
    above_step (X (suc n)) (eqb w (suc n)) _ x (over_above n X w x (omega arith)) e

over_point : (n : ℕ) (X : ℕ → Bool) (w x : ℕ) → 1 ≤ w → w ≤ n → over n X (λ v. cond (just v w) x 0) ≡ cond (X w) x 0
over_point zero X w x l h = absurd (omega arith)
over_point (suc n) X w x l h =
    elim (cases_eq w (suc n)) [
      | inl e ↦
          rw e (point_step (X (suc n)) (eqb (suc n) (suc n)) _ x (over_above n X (suc n) x (omega arith))
          (eq-eqb (suc n) (suc n) refl))
      | inr d ↦
          below_step (X (suc n)) (X w) (eqb w (suc n)) _ x (over_point n X w x l (omega arith)) (ne_eqb w (suc n) d)
    ]

-- the sum over the nodes of a set of what lies at each
pub by_node : (n : ℕ) (X : ℕ → Bool) (e : Arc → ℕ) (arcs : List Arc) (xs : List ℕ)
    → AllByRecursion (λ a. (1 ≤ e a) × (e a ≤ n)) arcs
    → over n X (λ v. flow_over (λ a. just v (e a)) arcs xs) ≡ flow_over (λ a. X (e a)) arcs xs
by_node n X e [] xs h = over_zero n X
by_node n X e (a ∷ arcs) [] h = over_zero n X
by_node n X e (a ∷ arcs) (x ∷ xs) h =
    over_add n X (λ v. cond (just v (e a)) x 0) (λ v. flow_over (λ b. just v (e b)) arcs xs)
    ∙ omega (arith, over_point n X (e a) x h.0.0 h.0.1, by_node n X e arcs xs h.1)
