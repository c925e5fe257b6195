-- Flow that is pushed through half-arcs, one at a time.
use Rattle.std.proofs.Common.{◌≡◌, ℕ, zero, suc, ◌+◌, ◌-◌, ◌*◌, ◌%◌, ◌/◌, ◌≤◌, ◌<◌, Bool, true, false, cond, eqb, List}
use Rattle.std.proofs.Common.{[], ◌∷◌, length, get_or, set, refl, ◌∙◌, ap, subst, inl, inr, length-set, get_or-set_same}
use Rattle.std.proofs.Common.{get_or-set_other, arith}
use Rattle.std.specs.Prelude.{slice_index}
use Rattle.std.proofs.lemmas.Bool.{ne_eqb, cases_eq}
use Rattle.flow_net.specs.declared.networks.Arc.{Arc}
use Rattle.flow_net.specs.Nets.{Net, arc_at}
use Rattle.flow_net.specs.Arcs.{no_arc}
use Rattle.flow_net.specs.NodeSets.{just}
use Rattle.flow_net.specs.Flows.{flow_over, out_of, into, Fits, IsFeasible}
use Rattle.flow_net.specs.Residual.{half_pushed, tail_of, head_of, residual, pushed}
use Rattle.flow_net.specs.Paths.{IsMoreBy}

-- d where the set holds the node
abbrev pub held : (ℕ → Bool) → ℕ → ℕ → ℕ
held X v d = cond (X v) d 0

-- `xs` but for d units that were taken at u and wait at w
pub record IsMoved (net : Net) (s t : ℕ → Bool) (xs : List ℕ) (d u w : ℕ) (ys : List ℕ) : Type 0 where
  pub fits : Fits net ys
  pub conserved : (v : ℕ) → 1 ≤ v → v ≤ net.nodes → s v ≡ false → t v ≡ false
      → into (just v) net.arcs ys + held (just v) u d ≡ out_of (just v) net.arcs ys + held (just v) w d
  pub value : out_of s net.arcs ys + into s net.arcs xs + held s w d
      ≡ out_of s net.arcs xs + into s net.arcs ys + held s u d

-- a write to one arc's flow
pub flow_over-set : (p : Arc → Bool) (arcs : List Arc) (xs : List ℕ) (i y : ℕ) → length xs ≡ length arcs
    → i < length arcs
    → flow_over p arcs (set xs i y) + cond (p (get_or arcs i no_arc)) (get_or xs i 0) 0
    ≡ flow_over p arcs xs + cond (p (get_or arcs i no_arc)) y 0
flow_over-set p [] xs i y l k = absurd (omega arith)
flow_over-set p (b ∷ arcs) [] i y l k = absurd (omega arith)
flow_over-set p (b ∷ arcs) (x ∷ xs) zero y l k = omega arith
flow_over-set p (b ∷ arcs) (x ∷ xs) (suc i) y l k =
    omega (arith, flow_over-set p arcs xs i y (omega arith) (omega arith))

module _ (p q : Bool) (x d o o' i i' : ℕ) where
  along_step : o' + cond p x 0 ≡ o + cond p (x + d) 0 → i' + cond q x 0 ≡ i + cond q (x + d) 0
      → o' + i + cond q d 0 ≡ o + i' + cond p d 0
  along_step e f = grind arith

  against_step : d ≤ x → o' + cond p x 0 ≡ o + cond p (x - d) 0 → i' + cond q x 0 ≡ i + cond q (x - d) 0
      → o' + i + cond p d 0 ≡ o + i' + cond q d 0
  against_step l e f = grind arith

-- a push through a half-arc, b telling which way: what it moves at a set of nodes
net_after : (b : Bool) (P : ℕ → Bool) (arcs : List Arc) (xs : List ℕ) (i d : ℕ) → length xs ≡ length arcs
    → i < length arcs → d ≤ cond b ((get_or arcs i no_arc).cap - get_or xs i 0) (get_or xs i 0)
    → out_of P arcs (set xs i (cond b (get_or xs i 0 + d) (get_or xs i 0 - d))) + into P arcs xs
    + held P (cond b (get_or arcs i no_arc).dst (get_or arcs i no_arc).src) d
    ≡ out_of P arcs xs + into P arcs (set xs i (cond b (get_or xs i 0 + d) (get_or xs i 0 - d)))
    + held P (cond b (get_or arcs i no_arc).src (get_or arcs i no_arc).dst) d
net_after true P arcs xs i d l k r =
    along_step (P (get_or arcs i no_arc).src) (P (get_or arcs i no_arc).dst) (get_or xs i 0) d _ _ _ _
    (flow_over-set (λ c. P c.src) arcs xs i (get_or xs i 0 + d) l k)
    (flow_over-set (λ c. P c.dst) arcs xs i (get_or xs i 0 + d) l k)
net_after false P arcs xs i d l k r =
    against_step (P (get_or arcs i no_arc).src) (P (get_or arcs i no_arc).dst) (get_or xs i 0) d _ _ _ _ r
    (flow_over-set (λ c. P c.src) arcs xs i (get_or xs i 0 - d) l k)
    (flow_over-set (λ c. P c.dst) arcs xs i (get_or xs i 0 - d) l k)

-- what a push moves at any set of nodes: the amount leaves at the half-arc's tail and comes in at its head
pub net_pushed : (P : ℕ → Bool) (net : Net) (xs : List ℕ) (h d : ℕ) → length xs ≡ length net.arcs
    → h < 2 * length net.arcs → d ≤ residual net xs h
    → out_of P net.arcs (pushed xs h d) + into P net.arcs xs + held P (head_of net h) d
    ≡ out_of P net.arcs xs + into P net.arcs (pushed xs h d) + held P (tail_of net h) d
net_pushed P net xs h d l k r = net_after (eqb (h % 2) 0) P net.arcs xs (h / 2) d l (omega arith) r

fits_after : (b : Bool) (c x d : ℕ) → x ≤ c → d ≤ cond b (c - x) x → cond b (x + d) (x - d) ≤ c
fits_after b c x d h r = grind arith

-- a push keeps the flow within the capacities
pub fits_pushed : (net : Net) (xs : List ℕ) (h d : ℕ) → h < 2 * length net.arcs → d ≤ residual net xs h → Fits net xs
    → Fits net (pushed xs h d)
fits_pushed net xs h d l r f =
    let y = half_pushed (slice_index xs (h / 2)) h d in
    let n = f.count in
    record {
      count = length-set xs (h / 2) y ∙ f.count;
      within = λ i k. elim (cases_eq i (h / 2)) [
        | inl e ↦ (
            let written : get_or (set xs (h / 2) y) (h / 2) 0 ≡ y = get_or-set_same xs (h / 2) y 0 (omega arith) in
            let small : y ≤ (arc_at net (h / 2)).cap =
            fits_after (eqb (h % 2) 0) (arc_at net (h / 2)).cap (slice_index xs (h / 2)) d
            (f.within (h / 2) (omega arith)) r in
            let there : get_or (set xs (h / 2) y) (h / 2) 0 ≤ (arc_at net (h / 2)).cap = omega arith in
            let P : ℕ → Type 0 = λ j. get_or (set xs (h / 2) y) j 0 ≤ (arc_at net j).cap in
            subst P (cc) there
            )
        | inr n ↦ (
            let kept : get_or (set xs (h / 2) y) i 0 ≡ get_or xs i 0 = get_or-set_other xs (h / 2) i y 0 n in
            let small = f.within i k in
            omega arith
            )
      ];
    }

pub held_none : (X : ℕ → Bool) (v d : ℕ) → X v ≡ false → held X v d ≡ 0
held_none X v d h = rw h refl

pub held_all : (X : ℕ → Bool) (v d : ℕ) → X v ≡ true → held X v d ≡ d
held_all X v d h = rw h refl

pub other_node : (X : ℕ → Bool) (u v : ℕ) → X u ≡ true → X v ≡ false → eqb u v ≡ false
other_node X u v h k = ne_eqb u v (λ e. let same : X u ≡ X v = ap X e in cc)

-- d that is brought from node to node
module _ (net : Net) (s t : ℕ → Bool) (xs : List ℕ) (d : ℕ) where
  -- a flow, with nothing moved
  pub moved_nothing : (u : ℕ) → IsFeasible net s t xs → IsMoved net s t xs d u u xs
  moved_nothing u f = record {
    fits = f.fits;
    conserved = λ w l h i o. omega (arith, f.conserved w l h i o);
    value = omega arith;
  }

  -- a push on: what waited at the half-arc's tail waits at its head
  pub moved_on : (u h : ℕ) (ys : List ℕ) → h < 2 * length net.arcs → d ≤ residual net ys h
      → IsMoved net s t xs d u (tail_of net h) ys → IsMoved net s t xs d u (head_of net h) (pushed ys h d)
  moved_on u h ys k r m = record {
    fits = fits_pushed net ys h d k r m.fits;
    conserved = λ w l' h' i o. omega (arith, m.conserved w l' h' i o, net_pushed (just w) net ys h d m.fits.count k r);
    value = omega (arith, m.value, net_pushed s net ys h d m.fits.count k r);
  }

  -- a push before: what was taken at the half-arc's head is taken at its tail
  pub moved_before : (w h : ℕ) (ys : List ℕ) → h < 2 * length net.arcs → d ≤ residual net ys h
      → IsMoved net s t xs d (head_of net h) w ys → IsMoved net s t xs d (tail_of net h) w (pushed ys h d)
  moved_before w h ys k r m = record {
    fits = fits_pushed net ys h d k r m.fits;
    conserved = λ v l' h' i o. omega (arith, m.conserved v l' h' i o, net_pushed (just v) net ys h d m.fits.count k r);
    value = omega (arith, m.value, net_pushed s net ys h d m.fits.count k r);
  }

  -- moved from a source to a sink: a flow whose value is larger by d
  pub moved_feasible : (u w : ℕ) (ys : List ℕ) → s u ≡ true → t w ≡ true → IsMoved net s t xs d u w ys
      → IsFeasible net s t ys
  moved_feasible u w ys su tw m = record {
    fits = m.fits;
    conserved = λ v l h i o.
        omega (
          arith,
          m.conserved v l h i o,
          held_none (just v) u d (other_node s u v su i),
          held_none (just v) w d (other_node t w v tw o),
        );
  }

  pub moved_value : (u w : ℕ) (ys : List ℕ) → s u ≡ true → s w ≡ false → IsMoved net s t xs d u w ys
      → IsMoreBy net s xs d ys
  moved_value u w ys su sw m = omega (arith, m.value, held_all s u d su, held_none s w d sw)
