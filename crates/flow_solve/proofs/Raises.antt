-- What one augmentation does to a flow, and how many steps all of them take.
use Rattle.std.proofs.Common.{◌≡◌, ℕ, suc, ◌+◌, ◌-◌, ◌*◌, ◌^◌, ◌≤◌, ◌<◌, Bool, not, IsTrue, IsFalse, cond, List, []}
use Rattle.std.proofs.Common.{◌∷◌, length, get_or, replicate, sum_by, refl, ◌∙◌, sym, ap, subst, inl, inr, arith}
use Rattle.std.specs.List.{All}
use Rattle.std.proofs.Math.Nat.{mul-le-mul_right}
use Rattle.std.proofs.lemmas.Nat.{mul-le}
use Rattle.std.proofs.lemmas.Bool.{cases_eq}
use Rattle.std.proofs.lemmas.List.Sums.{sum_by-cons}
use Rattle.flow_net.specs.declared.networks.Arc.{Arc}
use Rattle.flow_net.specs.Nets.{Net, IsNode}
use Rattle.flow_net.specs.Limits.{IsNet, IsArcWithin, AreTerminals}
use Rattle.flow_net.specs.NodeSets.{one_of}
use Rattle.flow_net.specs.Flows.{IsFeasible, HasValue, IsGreatest}
use Rattle.flow_net.specs.Cuts.{leaves, cap_over, capacity}
use Rattle.flow_net.specs.LeastCuts.{IsLeastCapacity}
use Rattle.flow_net.specs.Paths.{HasRoom, push_all}
use Rattle.flow_net.specs.Laws.{AreApart}
use Rattle.flow_net.proofs.AugmentingPaths.{climbs_apart, augmented, no_loops_climbed}
use Rattle.flow_net.proofs.ZeroFlows.{value_bounded, zeros_feasible, zeros_value, zeros_no_loops}
use Rattle.flow_net.proofs.NodeLists.{terminals_apart}
use Rattle.flow_solve.specs.declared.residual.half_arcs.Direction.TheVariants.{Backwards}
use Rattle.flow_solve.specs.residual.Searches.{IsMarked, IsSearched, IsWhole}
use Rattle.flow_solve.specs.Bounds.{capacities}
use Rattle.flow_solve.specs.Solving.{IsFlow}
use Rattle.flow_solve.specs.residual.Trails.{trail_from}
use Rattle.flow_solve.proofs.ResidualLemmas.Routes.{nearness, searched_trails, trail_is, sink_at, sink_no_source}
use Rattle.flow_solve.proofs.SideLemmas.Outcomes.{backward_tight}

-- a cut's capacity is at most the sum of all, and that is below 2^94
some_of : (b : Bool) (x m k : ℕ) → m ≤ k → cond b x 0 + m ≤ x + k
some_of b x m k l = grind arith

cap_over-le : (p : Arc → Bool) (arcs : List Arc) → cap_over p arcs ≤ sum_by (λ a. a.cap) arcs
cap_over-le p [] = omega arith
cap_over-le p (a ∷ arcs) =
    let e = sum_by-cons (λ (b : Arc). b.cap) a arcs in
    let l = some_of (p a) a.cap (cap_over p arcs) (sum_by (λ b. b.cap) arcs) (cap_over-le p arcs) in
    omega arith

caps_within : (n : ℕ) (arcs : List Arc) → All (IsArcWithin n) arcs → sum_by (λ a. a.cap) arcs ≤ length arcs * 2 ^ 64
caps_within n [] w = omega arith
caps_within n (a ∷ arcs) w =
    let e = sum_by-cons (λ (b : Arc). b.cap) a arcs in let here = (w 0 a (omega arith)).cap_fits in
    let rest = caps_within n arcs (λ i d l. w (suc i) d (omega arith)) in omega arith

pub value_most : (net : Net) (s t : ℕ → Bool) (xs : List ℕ) (k : ℕ) → IsNet net → AreApart s t → IsFeasible net s t xs
    → HasValue net s xs k → k ≤ capacities net
value_most net s t xs k n a f v =
    let b = value_bounded net s t xs k n f a v in
    let c = cap_over-le (leaves s) net.arcs in
    omega arith

pub capacities_fit : (net : Net) → IsNet net → capacities net + 2 ^ 64 < 2 ^ 128
capacities_fit net n =
    let c = caps_within net.nodes net.arcs n.arcs_within in
    let m = mul-le-mul_right (2 ^ 64) n.arcs_most in
    omega arith

no_capacities : (arcs : List Arc) → length arcs ≡ 0 → sum_by (λ a. a.cap) arcs ≡ 0
no_capacities [] e = refl
no_capacities (a ∷ arcs) e = absurd (omega arith)

-- the flow that carries nothing
pub zero_flow : (net : Net) (s t : List ℕ) → IsFlow net s t (replicate (length net.arcs) 0) 0
zero_flow net s t = record {
  feasible = zeros_feasible net (one_of s) (one_of t);
  value = zeros_value net (one_of s);
  no_loops = zeros_no_loops net;
}

-- the steps of one more augmentation
pub paid_more : (before now value d n m : ℕ) → now ≤ before + value * (2 * m + 2 * n) + 2 * m + 2 * n → 1 ≤ d
    → now ≤ before + (value + d) * (2 * m + 2 * n)
paid_more before now value d n m l o = let e = mul-le-mul_right (2 * m + 2 * n) o in omega arith

two_sums : (n m : ℕ) → 1 ≤ n → 1 ≤ m → 2 * m + 2 * n ≤ 4 * (n * m)
two_sums n m a b = let x = mul-le n 1 n m (omega arith) b in let y = mul-le 1 m n m a (omega arith) in omega arith

-- the steps of all, and of the search that finds no trail
paid : (c value n m : ℕ) → value ≤ c → (m ≡ 0 → c ≡ 0) → 1 ≤ n → value * (2 * m + 2 * n) + 2 * m ≤ 4 * (c + 1) * n * m
paid c value n m l none o = elim (cases_eq m 0) [
  | inl e ↦ let c0 = none e in let v0 : value ≡ 0 = omega arith in rw (v0, e) (omega arith)
  | inr some ↦
      let two = two_sums n m o (omega arith) in
      let all = mul-le value (2 * m + 2 * n) c (4 * (n * m)) l two in omega arith
]

pub paid_all : (net : Net) (before now value : ℕ) → IsNet net → value ≤ capacities net
    → now ≤ before + value * (2 * length net.arcs + 2 * net.nodes) + 2 * length net.arcs
    → now ≤ before + 4 * (capacities net + 1) * net.nodes * length net.arcs
paid_all net before now value n l p =
    let all = paid (capacities net) value net.nodes (length net.arcs) l (no_capacities net.arcs)
    (let two = n.nodes_least in omega arith) in
    omega arith

-- a search backwards has seen a source, and the trail from it is filled
module _ {net : Net} {s t xs dist via : List ℕ} {value : ℕ} (d v : ℕ) (flow : IsFlow net s t xs value)
    (size : length via ≡ net.nodes) (f : IsSearched net xs Backwards t dist via) (i : IsTrue (one_of s v))
    (node : IsNode net v) (m : IsMarked dist (v - 1)) where
  -- a flow after an augmentation
  pub raised : AreApart (one_of s) (one_of t) → HasRoom net xs d (trail_from net dist via v)
      → IsFlow net s t (push_all xs (trail_from net dist via v) d) (value + d)
  raised a room =
      let trails = searched_trails size f in
      let r = trail_is trails (get_or dist (v - 1) 0) v node.0 node.1 m refl in
      let sink = sink_at r.last f r.node.0 r.node.1 r.marked r.over in
      let apart = climbs_apart net (nearness net dist) v r.last (trail_from net dist via v) r.leads r.climbs in
      let more = augmented net (one_of s) (one_of t) xs d v r.last (trail_from net dist via v) flow.feasible i sink
      (sink_no_source (one_of s) (one_of t) a r.last sink) r.leads apart room in
      record {
        feasible = more.0;
        value = omega (arith, flow.value, more.1);
        no_loops = no_loops_climbed net (nearness net dist) xs d (trail_from net dist via v) r.climbs flow.no_loops;
      }

  -- the same of a table's flows before the search, after it and after the pushes
  pub raised_by : {zs ys : List ℕ} → AreTerminals net s t → zs ≡ xs → HasRoom net zs d (trail_from net dist via v)
      → ys ≡ push_all zs (trail_from net dist via v) d → IsFlow net s t ys (value + d)
  raised_by {ys} a kept room pushed =
      let r = raised (terminals_apart net s t a) (subst (λ (us : List ℕ). HasRoom net us d (trail_from net dist via v))
      kept room) in
      let same : ys ≡ push_all xs (trail_from net dist via v) d =
      pushed ∙ ap (λ (us : List ℕ). push_all us (trail_from net dist via v) d) kept in
      subst (λ (us : List ℕ). IsFlow net s t us (value + d)) (sym same) r

-- no trail: the flow's value is the greatest, and the least capacity
pub settled : (net : Net) (s t xs : List ℕ) (X : ℕ → Bool) (value : ℕ) → IsNet net → IsFlow net s t xs value
    → IsWhole Backwards net xs t X → ((v : ℕ) → IsTrue (one_of s v) → IsFalse (X v))
    → IsGreatest net (one_of s) (one_of t) value × IsLeastCapacity net (one_of s) (one_of t) value
settled net s t xs X value n f w out =
    let r = backward_tight net (one_of s) t X xs n f.feasible w out in
    let same : capacity net (λ v. not (X v)) ≡ value = let v = r.value in let k = f.value in omega arith in (
      subst (IsGreatest net (one_of s) (one_of t)) same r.greatest,
      record {
        reached = ((λ v. not (X v)), r.minimum.cut, same);
        least = λ Y c. let l = r.minimum.least Y c in omega (arith, same);
      },
    )
