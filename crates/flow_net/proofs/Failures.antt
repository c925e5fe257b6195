-- An arc that carries nothing fails.
use Rattle.std.proofs.Common.{◌≡◌, ℕ, zero, suc, ◌+◌, ◌≤◌, ◌<◌, Bool, cond, List, [], ◌∷◌, length, get_or, set, refl}
use Rattle.std.proofs.Common.{◌≢◌, ◌∙◌, ap, sym, subst, inl, inr, length-set, get_or-set_same, get_or-set_other, arith}
use Rattle.std.specs.Prelude.{slice_index}
use Rattle.std.proofs.lemmas.Bool.{cases_eq}
use Rattle.flow_net.specs.declared.networks.Arc.{Arc}
use Rattle.flow_net.specs.Nets.{Net, arc_at}
use Rattle.flow_net.specs.Arcs.{no_arc}
use Rattle.flow_net.specs.NodeSets.{just}
use Rattle.flow_net.specs.Flows.{flow_over, out_of, into, Fits, IsFeasible, HasValue, IsGreatest}
use Rattle.flow_net.specs.Laws.{failed}

-- the arc with no capacity
abbrev drained : Arc → Arc
drained a = record { src = a.src; dst = a.dst; cap = 0 }

-- what is asked of arcs by their ends alone has the same sums
flow_over_drained : (p : Arc → Bool) (arcs : List Arc) (xs : List ℕ) (i : ℕ)
    → p (drained (get_or arcs i no_arc)) ≡ p (get_or arcs i no_arc)
    → flow_over p (set arcs i (drained (get_or arcs i no_arc))) xs ≡ flow_over p arcs xs
flow_over_drained p [] xs i e = refl
flow_over_drained p (a ∷ arcs) [] zero e = refl
flow_over_drained p (a ∷ arcs) [] (suc i) e = refl
flow_over_drained p (a ∷ arcs) (x ∷ xs) zero e =
    ap (λ b. cond b x 0 + flow_over p arcs xs) e
flow_over_drained p (a ∷ arcs) (x ∷ xs) (suc i) e =
    ap (λ rest. cond (p a) x 0 + rest) (flow_over_drained p arcs xs i e)

-- arc i of a network fails
module _ (net : Net) (i : ℕ) where
  abbrev left : ℕ → ℕ
  left j = (get_or (set net.arcs i (drained (arc_at net i))) j no_arc).cap

  none_left : i < length net.arcs → left i ≡ 0
  none_left l = ap (λ a. a.cap) (get_or-set_same net.arcs i (drained (arc_at net i)) no_arc l)

  others_stay : (j : ℕ) → j ≢ i → left j ≡ (arc_at net j).cap
  others_stay j n = ap (λ a. a.cap) (get_or-set_other net.arcs i j (drained (arc_at net i)) no_arc n)

  -- no arc has more left than it had
  at_most : (j : ℕ) → i < length net.arcs → left j ≤ (arc_at net j).cap
  at_most j l = elim (cases_eq j i) [
    | inl e ↦ (let none = none_left l in let there : left j ≡ left i = ap left e in omega (arith, none, there))
    | inr n ↦ (let same = others_stay j n in omega (arith, same))
  ]

  out_same : (X : ℕ → Bool) (xs : List ℕ) → out_of X (failed net i).arcs xs ≡ out_of X net.arcs xs
  out_same X xs = flow_over_drained (λ a. X a.src) net.arcs xs i refl

  into_same : (X : ℕ → Bool) (xs : List ℕ) → into X (failed net i).arcs xs ≡ into X net.arcs xs
  into_same X xs = flow_over_drained (λ a. X a.dst) net.arcs xs i refl

  -- what fits carries nothing on the arc still fits
  fits_failed : (xs : List ℕ) → i < length net.arcs → Fits net xs → slice_index xs i ≡ 0 → Fits (failed net i) xs
  fits_failed xs l f z = record {
    count = f.count ∙ sym (length-set net.arcs i (drained (arc_at net i)));
    within = λ j k. elim (cases_eq j i) [
      | inl e ↦ (let x : slice_index xs j ≡ slice_index xs i = ap (slice_index xs) e in omega (arith, x, z))
      | inr n ↦ (
          let same = others_stay j n in
          let old = f.within j (subst (λ m. j < m) (length-set net.arcs i (drained (arc_at net i))) k) in
          omega (arith, same, old)
          )
    ];
  }

  fits_before : (xs : List ℕ) → i < length net.arcs → Fits (failed net i) xs → Fits net xs
  fits_before xs l f =
      let n = length-set net.arcs i (drained (arc_at net i)) in
      record {
        count = f.count ∙ n;
        within = λ j k.
            let less = at_most j l in
            let here = f.within j (subst (λ m. j < m) (sym n) k) in
            omega (arith, less, here);
      }

  -- a flow of what is left is a flow of the whole
  feasible_before : (s t : ℕ → Bool) (xs : List ℕ) → i < length net.arcs → IsFeasible (failed net i) s t xs
      → IsFeasible net s t xs
  feasible_before s t xs l f = record {
    fits = fits_before xs l f.fits;
    conserved = λ v a b p q. sym (into_same (just v) xs) ∙ (f.conserved v a b p q ∙ out_same (just v) xs);
  }

  pub harmless_failure : (s t : ℕ → Bool) (k : ℕ) (xs : List ℕ) → i < length net.arcs → IsGreatest net s t k
      → IsFeasible net s t xs → HasValue net s xs k → slice_index xs i ≡ 0
      → IsFeasible (failed net i) s t xs × HasValue (failed net i) s xs k × IsGreatest (failed net i) s t k
  harmless_failure s t k xs l g f h z =
      let feasible : IsFeasible (failed net i) s t xs = record {
        fits = fits_failed xs l f.fits z;
        conserved = λ v a b p q. into_same (just v) xs ∙ (f.conserved v a b p q ∙ sym (out_same (just v) xs));
      } in
      let value : HasValue (failed net i) s xs k =
      (let o = out_same s xs in let e = into_same s xs in omega (arith, o, e, h)) in (
        feasible,
        value,
        record {
          reached = (xs, feasible, value);
          most = λ ys y.
              let o = out_same s ys in
              let e = into_same s ys in
              let m = g.most ys (feasible_before s t ys l y) in
              omega (arith, o, e, m);
        },
      )
