-- `sources`: the slice has those of the problem.
use Rattle.std.proofs.Common.{◌∙◌, ap}
use Rattle.flow_net.proofs.problems.Problem.sources.Goals as goal

pub returns-clause-sources : goal.returns-clause-sources
returns-clause-sources c = c.as_slice.ensures.value ∙ ap (λ p. p.sources) c.self.view_is
