-- `set_levels`: nothing was spent.
use Rattle.flow_solve.specs.levels.Waves.{OnlyMarks}
use Rattle.flow_solve.proofs.levels.waves.excess.Wave.set_levels.Given as goal

abbrev pub invariant-loop-node : goal.invariant-loop-node
invariant-loop-node l = record {
  marks : OnlyMarks l.fn.self l.self;
}
