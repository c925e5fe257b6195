-- `pass`: a look and a push at each half-arc that was passed are paid.
use Rattle.std.proofs.Common.{length, ◌+◌, ◌-◌, ◌*◌, ◌≤◌}
use Rattle.flow_solve.specs.levels.Waves.{IsWaving, StaysIn}
use Rattle.flow_solve.specs.Steps.{PaysSteps}
use Rattle.flow_solve.proofs.levels.waves.discharging.pass.Given as goal

abbrev pub invariant-loop-half : goal.invariant-loop-half
invariant-loop-half l = record {
  waving : IsWaving l.packed l.flow l.wave;
  stays : StaysIn l.fn.wave l.wave;
  within : l.step ≤ length l.row.halves.now;
  paid : PaysSteps l.fn.flow l.fn.wave.left l.flow (l.wave.left + 2 * (length l.row.halves.now - l.step));
}

abbrev pub decreases-loop-half : goal.decreases-loop-half
decreases-loop-half l = length l.row.halves.now - l.step
