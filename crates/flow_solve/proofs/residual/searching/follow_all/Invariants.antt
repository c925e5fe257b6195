-- `follow_all`: of the half-arcs passed each that remains leads to a seen node, and each node that was entered is one
-- farther.
use Rattle.std.proofs.Common.{◌⊎◌, ◌≡◌, ℕ, ◌+◌, ◌-◌, ◌<◌, ◌≤◌, Bool, IsTrue, length}
use Rattle.std.specs.Prelude.{slice_index}
use Rattle.flow_net.specs.Flows.{Fits}
use Rattle.flow_net.specs.Residual.{head_of, residual}
use Rattle.flow_solve.specs.residual.HalfArcs.{crossed, IsClosedFor}
use Rattle.flow_solve.specs.residual.Searches.{IsMarked, ContainsMarked, IsNear, IsSearch, GoesOn}
use Rattle.flow_solve.specs.residual.Searches.{IsCome}
use Rattle.flow_solve.proofs.residual.searching.follow_all.Given as goal

abbrev pub invariant-loop-spot : goal.invariant-loop-spot
invariant-loop-spot l = record {
  fits : Fits l.plan.packed.net.now l.flow.flows;
  flows : l.flow.flows ≡ l.fn.flow.flows;
  cells : length l.dist ≡ l.plan.packed.net.now.nodes;
  begun : slice_index l.plan.packed.first.now l.place ≤ l.spot;
  here : l.place ≡ slice_index l.fn.queue l.fn.progress.followed;
  level : l.level ≡ slice_index l.fn.dist l.place + 1;
  near : IsNear l.dist l.level;
  search : IsSearch l.dist l.via l.queue l.progress;
  grown : GoesOn l.fn.dist l.fn.via l.fn.queue l.fn.progress l.dist l.via l.queue l.progress;
  followed : l.progress.followed ≡ l.fn.progress.followed;
  done : (p : ℕ) → p < l.spot → slice_index l.plan.packed.first.now l.place ≤ p
      → 1
      ≤ residual l.plan.packed.net.now l.fn.flow.flows
      (crossed l.plan.direction (slice_index l.plan.packed.halves.now p))
      → IsMarked l.dist (head_of l.plan.packed.net.now (slice_index l.plan.packed.halves.now p) - 1);
  come : (p : ℕ) → IsMarked l.dist p
      → IsMarked l.fn.dist p ⊎ IsCome l.plan.packed.net.now l.fn.flow.flows l.plan.direction l.dist l.via p;
  next_level : (p : ℕ) → IsMarked l.dist p → IsMarked l.fn.dist p ⊎ (slice_index l.dist p ≡ l.level);
  only : (side : ℕ → Bool) → IsClosedFor l.plan.direction l.plan.packed.net.now l.fn.flow.flows side
      → IsTrue (side (l.place + 1)) → ContainsMarked l.plan.packed.net.now.nodes l.fn.dist side
      → ContainsMarked l.plan.packed.net.now.nodes l.dist side;
  never_lowered : l.fn.flow.steps ≤ l.flow.steps;
  steps : l.flow.steps ≤ l.fn.flow.steps + (l.spot - slice_index l.plan.packed.first.now l.place);
}
