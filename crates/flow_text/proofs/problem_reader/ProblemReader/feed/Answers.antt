-- `feed`: what the machine says of its rules is said of those of a problem.
use Rattle.flow_text.specs.Problem.{known_of}
use Rattle.flow_text.proofs.ProblemLemmas.{Adds-problem}
use Rattle.flow_text.proofs.problem_reader.ProblemReader.feed.Goals as goal

pub returns-clause-fed : goal.returns-clause-fed
returns-clause-fed c = λ b r. c.feed.ensures.fed known_of Adds-problem b (rw (← c.self.view_is) at r)

pub returns-clause-refused : goal.returns-clause-refused
returns-clause-refused c = λ fault r. c.feed.ensures.refused fault (rw (← c.self.view_is) at r)
