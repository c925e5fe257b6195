-- The law: the ended lines with their byte 10 and the rest are the text, and no line has a byte 10.
use Rattle.flow_text.proofs.LineLemmas.{rest_is}
use Rattle.flow_text.proofs.CutLemmas.{joined-ended, ended_are}
use Rattle.flow_text.proofs.laws.lines_are_cut.Goals as goal

pub returns : goal.returns
returns c = λ b. (joined-ended b, ended_are b, rest_is b)
