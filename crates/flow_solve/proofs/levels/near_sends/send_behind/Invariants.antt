-- `send_behind`: the flow still fits, its steps are paid, a look at each of the half-arcs ahead beforehand, and as much
-- remains on the first half-arc as is still to be sent.
use Rattle.std.proofs.Common.{◌+◌, ◌-◌, ◌≤◌}
use Rattle.flow_net.specs.Residual.{residual}
use Rattle.flow_solve.specs.Steps.{PaysSteps}
use Rattle.flow_solve.specs.levels.NearSends.{IsSending, StaysAt}
use Rattle.flow_solve.proofs.levels.near_sends.send_behind.Given as goal

abbrev pub invariant-loop-spot : goal.invariant-loop-spot
invariant-loop-spot l = record {
  sending : IsSending l.flow l.sending;
  stays : StaysAt l.fn.sending l.sending;
  paid : PaysSteps l.fn.flow l.fn.sending.left l.flow (l.sending.left + (l.end - l.spot));
  left : l.sending.left ≤ l.fn.sending.left;
  room : l.room ≤ residual l.fn.sending.packed.net.now l.flow.flows l.first;
}
