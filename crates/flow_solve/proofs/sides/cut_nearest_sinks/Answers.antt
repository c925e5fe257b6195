-- `cut_nearest_sinks`: the nodes that are marked are those that the search has seen.
use Rattle.std.proofs.Common.{arith}
use Rattle.flow_solve.specs.declared.residual.half_arcs.Direction.TheVariants.{Backwards}
use Rattle.flow_solve.proofs.SideLemmas.LeastSides.{side_marked}
use Rattle.flow_solve.proofs.sides.cut_nearest_sinks.Goals as goal

pub returns-clause-side : goal.returns-clause-side
returns-clause-side g c =
    let after = c.least_side-value.new in
    side_marked Backwards c.args.net.now c.args.s.now c.args.t.now after.flow.flows after.work c.mark.new.side
    (omega arith) c.mark.ensures c.least_side-value.ensures.side
