-- `stages`: a stage begins with the empty flow.
use Rattle.solve_trials.proofs.tests.stages.Goals as goal

pub run_stages-reached-requires-clause-flow : goal.run_stages-reached-requires-clause-flow
run_stages-reached-requires-clause-flow g c =
    c.empty_flow-flow.ensures.flow c.split_at.result.0.now c.split_at.result.1.now
