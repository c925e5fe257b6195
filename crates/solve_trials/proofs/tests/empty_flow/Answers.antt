-- `empty_flow`: a table of zeros is a flow of value 0.
use Rattle.std.proofs.Common.{subst, sym}
use Rattle.flow_net.specs.Residual.{Table}
use Rattle.flow_solve.specs.Solving.{IsFlow}
use Rattle.flow_solve.proofs.Raises.{zero_flow}
use Rattle.solve_trials.proofs.tests.empty_flow.Goals as goal

pub returns-clause-flow : goal.returns-clause-flow
returns-clause-flow g c =
    let e = rw c.expect.ensures at c.new.ensures.empty in
    λ s t. subst (λ (table : Table). IsFlow c.args.net.now s t table.flows 0) (sym e) (zero_flow c.args.net.now s t)
