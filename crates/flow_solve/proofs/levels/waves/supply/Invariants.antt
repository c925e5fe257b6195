-- `supply`: what the sources before have sent is paid.
use Rattle.flow_solve.specs.levels.Waves.{HasSent, IsWaving}
use Rattle.flow_solve.proofs.levels.waves.supply.Given as goal

abbrev pub invariant-loop-node : goal.invariant-loop-node
invariant-loop-node l = record {
  waving : IsWaving l.task.packed l.flow l.wave;
  sent : HasSent l.task.packed l.fn.flow l.fn.wave l.flow l.wave;
}
