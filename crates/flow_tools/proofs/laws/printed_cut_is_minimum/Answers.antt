-- The law is a lemma.
use Rattle.flow_tools.proofs.laws.CutTextLemmas.{printed_minimum}
use Rattle.flow_tools.proofs.laws.printed_cut_is_minimum.Goals as goal

pub returns : goal.returns
returns c = printed_minimum
