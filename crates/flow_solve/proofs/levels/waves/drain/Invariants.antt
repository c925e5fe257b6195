-- `drain`: a look and a push at each half-arc are paid.
use Rattle.std.proofs.Common.{length, ◌+◌, ◌-◌, ◌*◌}
use Rattle.flow_solve.specs.levels.Waves.{IsWaving, StaysIn}
use Rattle.flow_solve.specs.Steps.{PaysSteps}
use Rattle.flow_solve.proofs.levels.waves.drain.Given as goal

abbrev pub invariant-loop-step : goal.invariant-loop-step
invariant-loop-step l = record {
  waving : IsWaving l.packed l.flow l.wave;
  stays : StaysIn l.fn.wave l.wave;
  paid : PaysSteps l.fn.flow l.fn.wave.left l.flow (l.wave.left + 2 * (length l.row.halves.now - l.step));
}
