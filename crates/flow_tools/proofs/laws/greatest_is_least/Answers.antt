-- The law is a lemma.
use Rattle.flow_tools.proofs.laws.CutTextLemmas.{greatest_least}
use Rattle.flow_tools.proofs.laws.greatest_is_least.Goals as goal

pub returns : goal.returns
returns c = greatest_least
