-- More capacity on one arc.
use Rattle.std.proofs.Common.{◌≡◌, ℕ, zero, suc, ◌+◌, ◌≤◌, ◌<◌, ◌↔◌, Bool, true, false, cond, not, ◌&&◌, List, [], ◌∷◌}
use Rattle.std.proofs.Common.{length, get_or, set, refl, arith}
use Rattle.flow_net.specs.declared.networks.Arc.{Arc}
use Rattle.flow_net.specs.Nets.{Net, arc_at}
use Rattle.flow_net.specs.Arcs.{no_arc}
use Rattle.flow_net.specs.Limits.{IsNet}
use Rattle.flow_net.specs.Flows.{IsGreatest}
use Rattle.flow_net.specs.Cuts.{cap_over, leaves, capacity, IsMinimumCut}
use Rattle.flow_net.specs.LeastSides.{IsInLeastSourceSide, IsInLeastSinkSide}
use Rattle.flow_net.specs.LeastCuts.{IsLeastCapacity}
use Rattle.flow_net.specs.Laws.{AreApart, widened, upgraded}
use Rattle.flow_net.proofs.MaxFlows.{greatest_is_least}

-- a cut's capacity grows by what the arc gains where the arc leaves the cut, and else stays
cap_over_widened : (X : ℕ → Bool) (arcs : List Arc) (i d : ℕ) → i < length arcs
    → cap_over (leaves X) (set arcs i (widened (get_or arcs i no_arc) d))
    ≡ cap_over (leaves X) arcs + cond (leaves X (get_or arcs i no_arc)) d 0
cap_over_widened X [] i d l = absurd (omega arith)
cap_over_widened X (a ∷ arcs) zero d l = widened_step (leaves X a) a.cap d _
  where
    widened_step : (b : Bool) (c d m : ℕ) → cond b (c + d) 0 + m ≡ (cond b c 0 + m) + cond b d 0
    widened_step true c d m = omega arith
    widened_step false c d m = omega arith
cap_over_widened X (a ∷ arcs) (suc i) d l = omega (arith, cap_over_widened X arcs i d (omega arith))

capacity_upgraded : (net : Net) (X : ℕ → Bool) (i d : ℕ) → i < length net.arcs
    → capacity (upgraded net i d) X ≡ capacity net X + cond (leaves X (arc_at net i)) d 0
capacity_upgraded net X i d l = cap_over_widened X net.arcs i d l

gains : (b : Bool) (k d j : ℕ) → j ≤ k + cond b d 0 → k < j → b ≡ true
gains true k d j h l = refl
gains false k d j h l = absurd (omega arith)

begins_inside : (p q : Bool) → p && not q ≡ true → p ≡ true
begins_inside p q h = grind arith

ends_outside : (p q : Bool) → p && not q ≡ true → q ≡ false
ends_outside p q h = grind arith

both : (p q : Bool) → p ≡ true → q ≡ false → p && not q ≡ true
both p q h k = grind arith

-- a cut that is minimum with the upgrade: it had a greater capacity than the least, or it was minimum and the arc
-- leaves it
rises_there : (b : Bool) (c d k j : ℕ) → 1 ≤ d → j ≡ c + cond b d 0 → k ≤ c → (c ≡ k → b ≡ true) → k < j
rises_there b c d k j l e h f = grind arith

-- the capacity of arc i is raised by d
module _ (net : Net) (s t : ℕ → Bool) (i d k j : ℕ) where
  -- where the value rises the arc leaves each minimum cut
  leaves_each : (X : ℕ → Bool) → i < length net.arcs → IsLeastCapacity net s t k
      → IsLeastCapacity (upgraded net i d) s t j → k < j → IsMinimumCut net s t X → leaves X (arc_at net i) ≡ true
  leaves_each X l here there rises m =
      let grown = capacity_upgraded net X i d l in
      gains (leaves X (arc_at net i)) k d j
      (omega (arith, grown, m.least here.reached.0 here.reached.1, here.reached.2, there.least X m.cut)) rises

  pub single_upgrade : IsNet net → IsNet (upgraded net i d) → AreApart s t → i < length net.arcs → 1 ≤ d
      → IsGreatest net s t k → IsGreatest (upgraded net i d) s t j
      → (k < j) ↔ (IsInLeastSourceSide net s t (arc_at net i).src × IsInLeastSinkSide net s t (arc_at net i).dst)
  single_upgrade is_net is_upgraded apart l more g g' =
      let here = greatest_is_least net s t k is_net apart g in
      let there = greatest_is_least (upgraded net i d) s t j is_upgraded apart g' in
      let a = arc_at net i in (
        (λ rises. (
          (λ X m. begins_inside (X a.src) (X a.dst) (leaves_each X l here there rises m)),
          (λ X m. ends_outside (X a.src) (X a.dst) (leaves_each X l here there rises m)),
        )),
        (λ ends.
            let X = there.reached.0 in
            let cut = there.reached.1 in
            let grown = capacity_upgraded net X i d l in
            let minimum : capacity net X ≡ k → IsMinimumCut net s t X =
            λ e. record { cut = cut; least = λ Y c. omega (arith, e, here.least Y c) } in
            rises_there (leaves X a) (capacity net X) d k j more (omega (arith, grown, there.reached.2))
            (here.least X cut)
            (λ e. both (X a.src) (X a.dst) (ends.0 X (minimum e)) (ends.1 X (minimum e)))),
      )
