-- The flow of zeros, and a bound on every flow's value.
use Rattle.std.proofs.Common.{◌≡◌, ℕ, ◌+◌, ◌≤◌, Bool, true, false, cond, List, [], ◌∷◌, length, replicate, refl, ◌∙◌}
use Rattle.std.proofs.Common.{sym, arith}
use Rattle.std.specs.List.{AllZip}
use Rattle.flow_net.specs.declared.networks.Arc.{Arc}
use Rattle.flow_net.specs.Nets.{Net}
use Rattle.flow_net.specs.Limits.{IsNet}
use Rattle.flow_net.specs.NodeSets.{just}
use Rattle.flow_net.specs.Flows.{flow_over, Fits, IsFeasible, HasValue, HasNoLoops}
use Rattle.flow_net.specs.Cuts.{capacity}
use Rattle.flow_net.proofs.Cuts.{weak_duality, apart}
use Rattle.flow_net.proofs.Zips.{fits_from_zip, AllZip-at}

zero_step : (b : Bool) (m : ℕ) → m ≡ 0 → cond b 0 0 + m ≡ 0
zero_step b m e = grind arith

-- a flow of zeros over any arcs
pub flow_over_zeros : (p : Arc → Bool) (arcs : List Arc) → flow_over p arcs (replicate (length arcs) 0) ≡ 0
flow_over_zeros p [] = refl
flow_over_zeros p (a ∷ arcs) = zero_step (p a) _ (flow_over_zeros p arcs)

zeros_zip : (R : Arc → ℕ → Type 0) → ((a : Arc) → R a 0) → (arcs : List Arc) → AllZip R arcs (replicate (length arcs) 0)
zeros_zip R z [] = tt
zeros_zip R z (a ∷ arcs) = (z a, zeros_zip R z arcs)

pub zeros_fit : (net : Net) → Fits net (replicate (length net.arcs) 0)
zeros_fit net =
    fits_from_zip net (replicate (length net.arcs) 0) (zeros_zip (λ a x. x ≤ a.cap) (λ a. omega arith) net.arcs)

pub zeros_feasible : (net : Net) (s t : ℕ → Bool) → IsFeasible net s t (replicate (length net.arcs) 0)
zeros_feasible net s t = record {
  fits = zeros_fit net;
  conserved = λ v l h i o.
      flow_over_zeros (λ a. just v a.dst) net.arcs ∙ sym (flow_over_zeros (λ a. just v a.src) net.arcs);
}

pub zeros_value : (net : Net) (s : ℕ → Bool) → HasValue net s (replicate (length net.arcs) 0) 0
zeros_value net s = omega (arith, flow_over_zeros (λ a. s a.dst) net.arcs, flow_over_zeros (λ a. s a.src) net.arcs)

pub zeros_no_loops : (net : Net) → HasNoLoops net (replicate (length net.arcs) 0)
zeros_no_loops net i l e =
    AllZip-at (λ a x. x ≡ 0) net.arcs (replicate (length net.arcs) 0) i l
    (zeros_zip (λ a x. x ≡ 0) (λ a. refl) net.arcs)

-- the sources alone are a cut, so no value passes what may leave them: a measure for a loop that raises the value
pub value_bounded : (net : Net) (s t : ℕ → Bool) (xs : List ℕ) (k : ℕ) → IsNet net → IsFeasible net s t xs
    → ((v : ℕ) → s v ≡ true → t v ≡ false) → HasValue net s xs k → k ≤ capacity net s
value_bounded net s t xs k r f a v =
    omega (
      arith,
      weak_duality net s t s xs r f (record { sources = λ w i. i; sinks = λ w i. apart (s w) (t w) (a w) i }),
      v,
    )
