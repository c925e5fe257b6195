-- `enter_all`: nothing is spent.
use Rattle.flow_solve.specs.levels.Waves.{OnlyMarks}
use Rattle.flow_solve.proofs.levels.waves.levelling.enter_all.Given as goal

abbrev pub invariant-loop-node : goal.invariant-loop-node
invariant-loop-node l = OnlyMarks l.fn.wave l.wave
