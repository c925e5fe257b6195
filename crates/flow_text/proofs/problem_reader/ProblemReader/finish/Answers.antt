-- `finish`: no fault, and the problem that the lines say; or the machine's fault.
use Rattle.std.proofs.Common.{ap, ◌∙◌}
use Rattle.flow_text.specs.Problem.{Known, known_of, instance_of, problem}
use Rattle.flow_text.proofs.EndLemmas.{accepted-fine, accepted-fault}
use Rattle.flow_text.proofs.ProblemLemmas.{Adds-problem}
use Rattle.flow_text.proofs.problem_reader.ProblemReader.finish.Goals as goal

-- the text is accepted
pub returns-in-Ok-clause-whole : goal.returns-in-Ok-clause-whole
unfolding problem
returns-in-Ok-clause-whole c = λ b r.
    let closed = c.in-Ok.ensures.whole known_of Adds-problem b (rw (← c.self.view_is) at r) in
    accepted-fine _ _ _ closed.0 (c.into_problem.ensures ∙ ap (λ (k : Known). instance_of k) closed.1)

-- the text has a fault, or memory was refused
pub returns-in-Err-clause-whole : goal.returns-in-Err-clause-whole
unfolding problem
returns-in-Err-clause-whole c = λ b r.
    accepted-fault _ _ c.in-Err.fault (c.in-Err.ensures.whole known_of Adds-problem b (rw (← c.self.view_is) at r))
