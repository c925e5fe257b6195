-- `into_parts`: the fields are those of the problem.
use Rattle.std.proofs.Common.{ap}
use Rattle.flow_net.proofs.problems.Problem.into_parts.Goals as goal

pub returns-clause-sources : goal.returns-clause-sources
returns-clause-sources c = ap (λ p. p.sources) c.self.view_is

pub returns-clause-sinks : goal.returns-clause-sinks
returns-clause-sinks c = ap (λ p. p.sinks) c.self.view_is
