-- `push_over`: one more half-arc; a path names no arc twice, so the others keep their room.
use Rattle.std.proofs.Common.{arith}
use Rattle.flow_solve.proofs.LevelLemmas.PushesAhead.{ahead_more}
use Rattle.flow_solve.proofs.levels.walking.push_over.Goals as goal

pub loop-half-preserved : goal.loop-half-preserved
loop-half-preserved c = record {
  ahead =
      rw c.push.ensures.flows
      (ahead_more c.loop-half.flow.flows c.loop-half.half-index (omega arith) c.loop-half.invariant.ahead);
  steps = omega (arith, c.loop-half.invariant.steps, c.push.ensures.steps);
}
