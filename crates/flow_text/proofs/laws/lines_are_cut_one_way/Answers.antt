-- The law: lines without byte 10, each followed by one, and a rest without it, are cut at the same places again.
use Rattle.flow_text.proofs.CutLemmas.{ended-joined}
use Rattle.flow_text.proofs.laws.lines_are_cut_one_way.Goals as goal

pub returns : goal.returns
returns c = ended-joined
