-- The least source side and the least sink side of the minimum cuts.
use Rattle.std.proofs.Common.{◌≡◌, ℕ, ◌↔◌, Bool, true, false, not, List, arith}
use Rattle.flow_net.specs.Nets.{Net}
use Rattle.flow_net.specs.Limits.{IsNet}
use Rattle.flow_net.specs.Flows.{IsFeasible}
use Rattle.flow_net.specs.Cuts.{IsCut, IsMinimumCut}
use Rattle.flow_net.specs.LeastSides.{IsInLeastSourceSide, IsInLeastSinkSide}
use Rattle.flow_net.specs.Residual.{IsClosed, IsReachable, IsReaching, tail_of, head_of}
use Rattle.flow_net.proofs.Cuts.{weak_duality, strong_duality, closed_minimum, value_closed}

-- where a flow has a closed cut, each minimum cut is closed
pub minimum_closed : {net : Net} {s t X Y : ℕ → Bool} {xs : List ℕ} → IsNet net → IsFeasible net s t xs → IsCut s t X
    → IsClosed net xs X → IsMinimumCut net s t Y → IsClosed net xs Y
minimum_closed {net} {s} {t} {X} {Y} {xs} r f c h m =
    let v = strong_duality net s t X xs r f c h in
    let w = weak_duality net s t Y xs r f m.cut in
    let l = m.least X c in
    value_closed net s t Y xs r f m.cut (omega arith)

-- what the residual network reaches from the sources, where that is no sink, is the least source side
pub least_source_side : (net : Net) (s t X : ℕ → Bool) (xs : List ℕ) → IsNet net → IsFeasible net s t xs
    → IsReachable net s xs X → ((v : ℕ) → t v ≡ true → X v ≡ false) → (v : ℕ)
    → (X v ≡ true) ↔ IsInLeastSourceSide net s t v
least_source_side net s t X xs r f l o v =
    let c : IsCut s t X = record { sources = l.sources; sinks = o } in (
      (λ i Y m. l.least Y m.cut.sources (minimum_closed r f c l.closed m) v i),
      λ e. e X (closed_minimum net s t X xs r f c l.closed),
    )

out_stays : (p q : Bool) → (q ≡ true → p ≡ true) → not p ≡ true → not q ≡ true
out_stays p q h k = grind arith

-- what doesn't reach a sink is closed
pub outside_closed : (net : Net) (t : ℕ → Bool) (xs : List ℕ) (W : ℕ → Bool) → IsReaching net t xs W
    → IsClosed net xs (λ w. not (W w))
outside_closed net t xs W l h k i r = out_stays (W (tail_of net h)) (W (head_of net h)) (λ j. l.closed h k j r) i

not_true : (b : Bool) → b ≡ true → not b ≡ false
not_true b h = grind arith

not_false : (b : Bool) → not b ≡ false → b ≡ true
not_false b h = grind arith

not_of_false : (b : Bool) → b ≡ false → not b ≡ true
not_of_false b h = grind arith

-- the mirror
pub least_sink_side : (net : Net) (s t W : ℕ → Bool) (xs : List ℕ) → IsNet net → IsFeasible net s t xs
    → IsReaching net t xs W → ((v : ℕ) → s v ≡ true → W v ≡ false) → (v : ℕ)
    → (W v ≡ true) ↔ IsInLeastSinkSide net s t v
least_sink_side net s t W xs r f l o v =
    let c : IsCut s t (λ w. not (W w)) = record {
      sources = λ w i. not_of_false (W w) (o w i);
      sinks = λ w i. not_true (W w) (l.sinks w i);
    } in
    let closed = outside_closed net t xs W l in (
      (λ i Y m. l.least Y m.cut.sinks (minimum_closed r f c closed m) v i),
      λ e. not_false (W v) (e (λ w. not (W w)) (closed_minimum net s t (λ w. not (W w)) xs r f c closed)),
    )
