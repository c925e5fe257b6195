-- `sweep`: what the nodes before have sent on is paid, and each turn takes something off what may still be done.
use Rattle.flow_solve.specs.levels.Waves.{HasSent, IsWaving}
use Rattle.flow_solve.proofs.levels.waves.sweep.Given as goal

abbrev pub invariant-turns : goal.invariant-turns
invariant-turns l = record {
  waving : IsWaving l.packed l.flow l.wave;
  sent : HasSent l.packed l.fn.flow l.fn.wave l.flow l.wave;
}

abbrev pub decreases-turns : goal.decreases-turns
decreases-turns l = l.wave.left
