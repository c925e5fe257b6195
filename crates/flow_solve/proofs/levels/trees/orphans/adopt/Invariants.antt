-- `adopt`: each look was taken off what the trees may still do, as is each orphan, and the flows stay.
use Rattle.flow_net.specs.Flows.{Fits}
use Rattle.flow_solve.specs.levels.Trees.{HaveLooked}
use Rattle.flow_solve.proofs.levels.trees.orphans.adopt.Given as goal

abbrev pub invariant-orphans : goal.invariant-orphans
invariant-orphans l = record {
  fits : Fits l.packed.net.now l.flow.flows;
  looked : HaveLooked l.fn.flow l.fn.trees l.flow l.trees;
}

abbrev pub decreases-orphans : goal.decreases-orphans
decreases-orphans l = l.trees.left
