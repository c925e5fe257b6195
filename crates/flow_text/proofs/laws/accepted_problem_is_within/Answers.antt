-- The law: a text without a fault has passed the tests of each line, which say the limits.
use Rattle.flow_text.proofs.AcceptedLemmas.{accepted_problem}
use Rattle.flow_text.proofs.laws.accepted_problem_is_within.Goals as goal

pub returns : goal.returns
returns c = accepted_problem
