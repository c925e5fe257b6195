-- What `solve_problem` answers: the value and the flow that are found, or a value that some flow has.
use Rattle.flow_tools.proofs.solving.AnswerLemmas.{solves, solves_value}
use Rattle.flow_tools.proofs.running.answers.solve_problem.Goals as goal

pub returns : goal.returns
returns c =
    rw (c.if-value_only.false, ← c.of_problem-network.ensures.same)
    (solves c.of_problem-network.result c.in_ok-solved.solved c.in_ok-solved.ensures.network
    c.in_ok-solved.ensures.solution)

pub returns-then-value_only : goal.returns-then-value_only
returns-then-value_only c =
    rw (c.if-value_only.true, ← c.of_problem-network.ensures.same)
    (solves_value c.of_problem-network.result c.in_ok-value.value c.in_ok-value.ensures.0 c.in_ok-value.ensures.1)
