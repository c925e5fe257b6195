-- `list_all`: nothing was spent.
use Rattle.flow_solve.specs.levels.Waves.{OnlyMarks}
use Rattle.flow_solve.proofs.levels.waves.levelling.list_all.Given as goal

abbrev pub invariant-loop-place : goal.invariant-loop-place
invariant-loop-place l = record {
  marks : OnlyMarks l.fn.wave l.wave;
}
