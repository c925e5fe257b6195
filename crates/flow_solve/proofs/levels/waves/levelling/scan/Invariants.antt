-- `scan`: at most one look at each half-arc that was passed, and all of them are paid.
use Rattle.std.proofs.Common.{length, ◌+◌, ◌-◌}
use Rattle.flow_solve.specs.levels.Waves.{IsWaving, StaysIn}
use Rattle.flow_solve.specs.Steps.{PaysLooks}
use Rattle.flow_solve.proofs.levels.waves.levelling.scan.Given as goal

abbrev pub invariant-loop-step : goal.invariant-loop-step
invariant-loop-step l = record {
  waving : IsWaving l.packed l.flow l.wave;
  stays : StaysIn l.fn.wave l.wave;
  paid : PaysLooks l.fn.flow l.fn.wave.left l.flow (l.wave.left + (length l.row.halves.now - l.step));
}
