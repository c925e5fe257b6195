-- `walk_to_root`: each node of the walk has cells, and takes one off what the trees may still do.
use Rattle.flow_solve.specs.levels.Trees.{HaveCells, HaveSpent}
use Rattle.flow_solve.proofs.levels.trees.orphans.walk_to_root.Given as goal

abbrev pub invariant-chain : goal.invariant-chain
invariant-chain l = record {
  node : HaveCells l.trees l.node;
  spends : HaveSpent l.fn.trees l.trees;
}

abbrev pub decreases-chain : goal.decreases-chain
decreases-chain l = l.trees.left
