-- `send_on`: what was sent and looked at is paid, and each turn takes something off what may still be done.
use Rattle.flow_solve.specs.levels.Waves.{HasSent, IsRow, IsWaving}
use Rattle.flow_solve.proofs.levels.waves.discharging.send_on.Given as goal

abbrev pub invariant-turns : goal.invariant-turns
invariant-turns l = record {
  waving : IsWaving l.packed l.flow l.wave;
  row : IsRow l.packed.net.now l.sender.row;
  sent : HasSent l.packed l.fn.flow l.fn.wave l.flow l.wave;
}

abbrev pub decreases-turns : goal.decreases-turns
decreases-turns l = l.wave.left
