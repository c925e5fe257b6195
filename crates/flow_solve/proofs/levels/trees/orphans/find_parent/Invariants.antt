-- `find_parent`: the half-arcs ahead are paid, and at most one look at each; the flows stay.
use Rattle.std.proofs.Common.{◌+◌, ◌-◌}
use Rattle.flow_net.specs.Flows.{Fits}
use Rattle.flow_solve.specs.Steps.{PaysLooks}
use Rattle.flow_solve.specs.levels.Trees.{AreSameTrees}
use Rattle.flow_solve.proofs.levels.trees.orphans.find_parent.Given as goal

abbrev pub invariant-loop-spot : goal.invariant-loop-spot
invariant-loop-spot l = record {
  fits : Fits l.packed.net.now l.flow.flows;
  stays : AreSameTrees l.fn.trees l.trees;
  paid : PaysLooks l.fn.flow l.fn.trees.left l.flow (l.trees.left + (l.end - l.spot));
}
