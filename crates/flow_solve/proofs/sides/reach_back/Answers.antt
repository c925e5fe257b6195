-- `reach_back`: the nodes that are marked are those that the search has seen, which leaves the flow as it is.
use Rattle.std.proofs.Common.{arith}
use Rattle.flow_solve.specs.declared.residual.half_arcs.Direction.TheVariants.{Backwards}
use Rattle.flow_solve.proofs.SideLemmas.LeastSides.{side_marked}
use Rattle.flow_solve.proofs.sides.reach_back.Goals as goal

pub returns-then-not-rises-clause-flows : goal.returns-then-not-rises-clause-flows
returns-then-not-rises-clause-flows c = c.leads_on_packed-rises.ensures.looks.flows

pub returns-else-not-rises-clause-flows : goal.returns-else-not-rises-clause-flows
returns-else-not-rises-clause-flows c = c.leads_on_packed-rises.ensures.looks.flows

pub returns-then-not-rises-clause-side : goal.returns-then-not-rises-clause-side
returns-then-not-rises-clause-side c = λ e.
    let after = c.leads_on_packed-rises.new in
    side_marked Backwards c.args.net.now c.args.s.now c.args.t.now c.args.flow.now.flows after.work c.mark.new.side
    (omega arith) c.mark.ensures (c.leads_on_packed-rises.ensures.side e)
