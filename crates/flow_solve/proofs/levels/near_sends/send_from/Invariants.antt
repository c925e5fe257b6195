-- `send_from`: the flow still fits, and its steps are paid, a look at each of the half-arcs ahead beforehand.
use Rattle.std.proofs.Common.{◌+◌, ◌-◌}
use Rattle.flow_solve.specs.Steps.{PaysSteps}
use Rattle.flow_solve.specs.levels.NearSends.{IsSending, StaysAt}
use Rattle.flow_solve.proofs.levels.near_sends.send_from.Given as goal

abbrev pub invariant-loop-spot : goal.invariant-loop-spot
invariant-loop-spot l = record {
  sending : IsSending l.flow l.sending;
  stays : StaysAt l.fn.sending l.sending;
  paid : PaysSteps l.fn.flow l.fn.sending.left l.flow (l.sending.left + (l.end - l.spot));
}
