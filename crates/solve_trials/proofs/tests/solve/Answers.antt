-- `solve`: the solvers begin with the empty flow.
use Rattle.solve_trials.proofs.tests.solve.Goals as goal

pub run_solvers-requires-clause-flow : goal.run_solvers-requires-clause-flow
run_solvers-requires-clause-flow g c =
    c.empty_flow-flow.ensures.flow c.split_at.result.0.now c.split_at.result.1.now
