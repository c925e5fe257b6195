-- `send_near`: the flow still fits, and its steps are paid.
use Rattle.flow_solve.specs.Steps.{PaysSteps}
use Rattle.flow_solve.specs.levels.NearSends.{IsSending, StaysAt}
use Rattle.flow_solve.proofs.levels.near_sends.send_near.Given as goal

abbrev pub invariant-loop-source : goal.invariant-loop-source
invariant-loop-source l = record {
  sending : IsSending l.flow l.sending;
  stays : StaysAt l.initial.sending l.sending;
  paid : PaysSteps l.fn.flow l.fn.allowance l.flow l.sending.left;
}
