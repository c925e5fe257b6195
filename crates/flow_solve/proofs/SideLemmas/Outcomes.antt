-- What a whole search shows: a greatest flow, a minimum cut, and the least side.
use Rattle.std.proofs.Common.{◌≡◌, ℕ, ◌↔◌, Bool, true, false, not, List, refl, ap}
use Rattle.flow_net.specs.Nets.{Net}
use Rattle.flow_net.specs.Limits.{IsNet}
use Rattle.flow_net.specs.NodeSets.{one_of}
use Rattle.flow_net.specs.Flows.{IsFeasible, HasValue, IsGreatest}
use Rattle.flow_net.specs.Cuts.{IsCut, capacity, IsMinimumCut}
use Rattle.flow_net.specs.LeastSides.{IsInLeastSourceSide, IsInLeastSinkSide}
use Rattle.flow_net.specs.Residual.{tail_of, head_of, IsClosed, IsReaching}
use Rattle.flow_net.proofs.Cuts.{strong_duality, closed_greatest, closed_minimum, contrary}
use Rattle.flow_net.proofs.Sides.{least_source_side, least_sink_side, outside_closed}
use Rattle.flow_solve.specs.declared.residual.half_arcs.Direction.TheVariants.{Forwards, Backwards}
use Rattle.flow_solve.specs.residual.Searches.{IsWhole}

-- a flow whose value is the capacity of a minimum cut
pub record IsTight (net : Net) (s t : ℕ → Bool) (xs : List ℕ) (X : ℕ → Bool) : Type 0 where
  pub value : HasValue net s xs (capacity net X)
  pub greatest : IsGreatest net s t (capacity net X)
  pub minimum : IsMinimumCut net s t X

tight : (net : Net) (s t X : ℕ → Bool) (xs : List ℕ) → IsNet net → IsFeasible net s t xs → IsCut s t X
    → IsClosed net xs X → IsTight net s t xs X
tight net s t X xs n f cut closed = record {
  value = strong_duality net s t X xs n f cut closed;
  greatest = closed_greatest net s t X xs n f cut closed;
  minimum = closed_minimum net s t X xs n f cut closed;
}

-- forwards
pub forward_tight : (net : Net) (s : List ℕ) (t X : ℕ → Bool) (xs : List ℕ) → IsNet net → IsFeasible net (one_of s) t xs
    → IsWhole Forwards net xs s X → ((v : ℕ) → t v ≡ true → X v ≡ false) → IsTight net (one_of s) t xs X
forward_tight net s t X xs n f w out =
    tight net (one_of s) t X xs n f (record { sources = w.contains; sinks = out }) w.closed

pub forward_side : (net : Net) (s : List ℕ) (t X : ℕ → Bool) (xs : List ℕ) → IsNet net → IsFeasible net (one_of s) t xs
    → IsWhole Forwards net xs s X → ((v : ℕ) → t v ≡ true → X v ≡ false) → (v : ℕ)
    → (X v ≡ true) ↔ IsInLeastSourceSide net (one_of s) t v
forward_side net s t X xs n f w out =
    least_source_side net (one_of s) t X xs n f
    (record { sources = w.contains; closed = w.closed; least = w.least }) out

-- backwards
reaching : (net : Net) (t : List ℕ) (X : ℕ → Bool) (xs : List ℕ) → IsWhole Backwards net xs t X
    → IsReaching net (one_of t) xs X
reaching net t X xs w = record {
  sinks = w.contains;
  closed = w.closed;
  least = λ Y out closed v i.
      not_true (Y v) (w.least (λ u. not (Y u)) (λ u k. ap not (out u k))
      (λ h l far r. contrary (Y (tail_of net h)) (Y (head_of net h)) (λ k. closed h l k r) far) v i);
}
  where
    not_true : (b : Bool) → not b ≡ true → b ≡ false
    not_true true e = cc
    not_true false e = refl

pub backward_tight : (net : Net) (s : ℕ → Bool) (t : List ℕ) (X : ℕ → Bool) (xs : List ℕ) → IsNet net
    → IsFeasible net s (one_of t) xs → IsWhole Backwards net xs t X → ((v : ℕ) → s v ≡ true → X v ≡ false)
    → IsTight net s (one_of t) xs (λ v. not (X v))
backward_tight net s t X xs n f w out =
    tight net s (one_of t) (λ v. not (X v)) xs n f
    (record { sources = λ v i. ap not (out v i); sinks = λ v i. ap not (w.contains v i) })
    (outside_closed net (one_of t) xs X (reaching net t X xs w))

pub backward_side : (net : Net) (s : ℕ → Bool) (t : List ℕ) (X : ℕ → Bool) (xs : List ℕ) → IsNet net
    → IsFeasible net s (one_of t) xs → IsWhole Backwards net xs t X → ((v : ℕ) → s v ≡ true → X v ≡ false) → (v : ℕ)
    → (X v ≡ true) ↔ IsInLeastSinkSide net s (one_of t) v
backward_side net s t X xs n f w out = least_sink_side net s (one_of t) X xs n f (reaching net t X xs w) out

-- a test that is false exactly where the flow's value is the greatest
pub answers : (G : Type 0) (b : Bool) → (b ≡ false → G) → (b ≡ true → G → ⊥) → (b ≡ false) ↔ G
answers G true f g = (λ e. cc, λ x. absurd (g refl x))
answers G false f g = (f, λ x. refl)
