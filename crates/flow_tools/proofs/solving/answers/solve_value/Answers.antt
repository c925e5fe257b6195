-- What `solve_value` finds: the value of what is solved, whose flow is read as one of the network.
use Rattle.std.proofs.Common.{subst}
use Rattle.flow_tools.specs.solving.Solutions.{IsSolution}
use Rattle.flow_tools.specs.solving.ArrangedProblems.{flows_of}
use Rattle.flow_tools.proofs.solving.ArrangedLemmas.{solution_of}
use Rattle.flow_tools.proofs.solving.answers.solve_value.Goals as goal

pub returns : goal.returns
returns c =
    let value = c.find_flow.result in
    let flows = c.find_flow.new.table.flows in
    let arranged = c.in_ok-table.field-0.arranged in (
      flows_of arranged flows,
      solution_of c.args.network arranged value flows c.in_ok-table.ensures.same
          (subst (λ o. IsSolution o value flows) c.lend_solved-solved.ensures c.find_flow.ensures.solution),
    )
