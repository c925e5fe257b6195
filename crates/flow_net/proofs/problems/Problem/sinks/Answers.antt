-- `sinks`: the slice has those of the problem.
use Rattle.std.proofs.Common.{◌∙◌, ap}
use Rattle.flow_net.proofs.problems.Problem.sinks.Goals as goal

pub returns-clause-sinks : goal.returns-clause-sinks
returns-clause-sinks c = c.as_slice.ensures.value ∙ ap (λ p. p.sinks) c.self.view_is
