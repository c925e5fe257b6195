-- The law is a lemma.
use Rattle.flow_tools.proofs.laws.OptimalTexts.{solved_optimal}
use Rattle.flow_tools.proofs.laws.solved_is_optimal.Goals as goal

pub returns : goal.returns
returns c = solved_optimal
