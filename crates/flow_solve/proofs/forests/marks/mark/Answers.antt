-- `mark`: one bit of a cell is set.
use Rattle.flow_solve.proofs.ForestLemmas.Marks.{marked}
use Rattle.flow_solve.proofs.forests.marks.mark.Goals as goal

pub returns : goal.returns
returns c = marked c.args.marks.now c.args.node c.requires.0 c.requires.1
