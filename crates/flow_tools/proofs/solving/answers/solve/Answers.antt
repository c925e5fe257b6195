-- What `solve` finds: a solution of what is solved, read as one of the network.
use Rattle.std.proofs.Common.{◌∙◌, length, ap, subst}
use Rattle.flow_net.specs.Nets.{Instance}
use Rattle.flow_tools.specs.solving.Solutions.{IsSolution}
use Rattle.flow_tools.proofs.solving.ArrangedLemmas.{spots_of, solution_of}
use Rattle.flow_tools.proofs.solving.answers.solve.Goals as goal

pub read_flows-requires : goal.read_flows-requires
read_flows-requires c =
    spots_of c.args.network c.in_ok-table.field-0.arranged (length c.into_flows.result.items) c.in_ok-table.ensures.same
    (ap length c.into_flows.ensures ∙ c.find_flow-value.ensures.solution.feasible.fits.count
    ∙ ap (λ (o : Instance). length o.net.arcs) c.lend_solved-solved.ensures)

pub returns-clause-solution : goal.returns-clause-solution
returns-clause-solution c =
    let value = c.find_flow-value.result in
    let flows = c.find_flow-value.new.table.flows in
    rw (c.in_ok-flows.ensures, c.into_flows.ensures)
    (solution_of c.args.network c.in_ok-table.field-0.arranged value flows c.in_ok-table.ensures.same
    (subst (λ o. IsSolution o value flows) c.lend_solved-solved.ensures c.find_flow-value.ensures.solution))
