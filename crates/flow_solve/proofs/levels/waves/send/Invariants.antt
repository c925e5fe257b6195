-- `send`: what the waves before have taken is paid, and each takes something off what may still be done.
use Rattle.std.proofs.Common.{◌≡◌}
use Rattle.flow_solve.specs.levels.Waves.{HasSent, IsWaving}
use Rattle.flow_solve.proofs.levels.waves.send.Given as goal

abbrev pub invariant-waves : goal.invariant-waves
invariant-waves l = record {
  waving : IsWaving l.task.packed l.flow l.wave;
  before : l.before ≡ l.wave.left;
  sent : HasSent l.task.packed l.fn.flow l.fn.wave l.flow l.wave;
}

abbrev pub decreases-waves : goal.decreases-waves
decreases-waves l = l.wave.left
