-- `mark_walk`: each node of the walk has cells, and nothing was spent.
use Rattle.flow_solve.specs.levels.Trees.{HaveCells, HaveMarked}
use Rattle.flow_solve.proofs.levels.trees.orphans.mark_walk.Given as goal

abbrev pub invariant-walk : goal.invariant-walk
invariant-walk l = record {
  node : HaveCells l.trees l.node;
  marks : HaveMarked l.fn.trees l.trees;
}
