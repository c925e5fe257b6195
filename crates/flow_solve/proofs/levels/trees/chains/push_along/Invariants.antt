-- `push_along`: the flow still fits, and each half-arc passed took a look and a push.
use Rattle.std.proofs.Common.{◌*◌}
use Rattle.flow_net.specs.Flows.{Fits}
use Rattle.flow_solve.specs.Steps.{TakesSteps}
use Rattle.flow_solve.specs.levels.Trees.{HaveCells, HaveMarked}
use Rattle.flow_solve.proofs.levels.trees.chains.push_along.Given as goal

abbrev pub invariant-chain : goal.invariant-chain
invariant-chain l = record {
  node : HaveCells l.trees l.node;
  fits : Fits l.packed.net.now l.flow.flows;
  steps : TakesSteps l.fn.flow l.flow (2 * l.counter);
  marks : HaveMarked l.fn.trees l.trees;
}
