-- What a search from one kind of terminals shows when it is over: whether the flow is greatest, and the least side.
use Rattle.std.proofs.Common.{◌≡◌, ℕ, ◌↔◌, Bool, true, false, not, List, take, sym, subst}
use Rattle.std.proofs.Math.Path.{fun_ext}
use Rattle.flow_net.specs.Nets.{Net}
use Rattle.flow_net.specs.Limits.{IsNet, AreTerminals}
use Rattle.flow_net.specs.NodeSets.{one_of}
use Rattle.flow_net.specs.MarkedNodes.{marked}
use Rattle.flow_net.specs.Flows.{IsFeasible}
use Rattle.flow_net.specs.GreatestFlows.{HasGreatestValue}
use Rattle.flow_net.specs.Cuts.{capacity}
use Rattle.flow_net.proofs.NodeLists.{terminals_apart}
use Rattle.flow_solve.specs.declared.residual.half_arcs.Direction.{Direction}
use Rattle.flow_solve.specs.declared.residual.half_arcs.Direction.TheVariants.{Forwards, Backwards}
use Rattle.flow_solve.specs.residual.Searches.{seen, Misses, HasRoute}
use Rattle.flow_solve.specs.Sides.{starts_of, until_of, IsLeastSide}
use Rattle.flow_solve.proofs.SideLemmas.Outcomes.{forward_tight, forward_side, backward_tight, backward_side, answers}
use Rattle.flow_solve.proofs.ResidualLemmas.Routes.{route_raises}

-- what a search has seen that comes to none of the other terminals
pub least_side : (dir : Direction) (net : Net) (s t xs dist : List ℕ) → IsNet net
    → IsFeasible net (one_of s) (one_of t) xs
    → Misses dir net xs (starts_of dir s t) (until_of dir s t) dist → IsLeastSide dir net s t xs (seen dist)
least_side Forwards net s t xs dist n f m =
    let tight = forward_tight net s (one_of t) (seen dist) xs n f m.whole m.outside in
    record {
      nodes = λ v node. forward_side net s (one_of t) (seen dist) xs n f m.whole m.outside v;
      minimum = tight.minimum;
      value = tight.value;
    }
least_side Backwards net s t xs dist n f m =
    let tight = backward_tight net (one_of s) t (seen dist) xs n f m.whole m.outside in
    record {
      nodes = λ v node. backward_side net (one_of s) t (seen dist) xs n f m.whole m.outside v;
      minimum = tight.minimum;
      value = tight.value;
    }

-- a test of whether it comes to one of them is false just where the flow's value is the greatest
pub greatest_unless : (dir : Direction) {net : Net} {s t xs : List ℕ} (dist : List ℕ) (b : Bool) → IsNet net
    → AreTerminals net s t → IsFeasible net (one_of s) (one_of t) xs
    → (b ≡ true → HasRoute dir net xs (starts_of dir s t) (until_of dir s t))
    → (b ≡ false → Misses dir net xs (starts_of dir s t) (until_of dir s t) dist)
    → (b ≡ false) ↔ HasGreatestValue net (one_of s) (one_of t) xs
greatest_unless Forwards {net} {s} {t} {xs} dist b n a f route missed =
    answers (HasGreatestValue net (one_of s) (one_of t) xs) b
    (λ e.
    let m = missed e in let tight = forward_tight net s (one_of t) (seen dist) xs n f m.whole m.outside in
    (capacity net (seen dist), tight.value, tight.greatest))
    (λ e. route_raises net (one_of s) (one_of t) xs (terminals_apart net s t a) f (route e))
greatest_unless Backwards {net} {s} {t} {xs} dist b n a f route missed =
    answers (HasGreatestValue net (one_of s) (one_of t) xs) b
    (λ e.
    let m = missed e in let tight = backward_tight net (one_of s) t (seen dist) xs n f m.whole m.outside in
    (capacity net (λ v. not (seen dist v)), tight.value, tight.greatest))
    (λ e. route_raises net (one_of s) (one_of t) xs (terminals_apart net s t a) f (route e))

-- marks where the first cells have distances
pub side_marked : (dir : Direction) (net : Net) (s t xs cells : List ℕ) (marks : List Bool) {n : ℕ} → n ≡ net.nodes
    → ((v : ℕ) → marked marks v ≡ seen (take n cells) v) → IsLeastSide dir net s t xs (seen (take net.nodes cells))
    → IsLeastSide dir net s t xs (marked marks)
side_marked dir net s t xs cells marks e same sees =
    let all : marked marks ≡ seen (take net.nodes cells) =
    subst (λ (k : ℕ). marked marks ≡ seen (take k cells)) e (fun_ext same) in
    subst (IsLeastSide dir net s t xs) (sym all) sees
