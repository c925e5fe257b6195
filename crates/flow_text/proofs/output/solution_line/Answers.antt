use Rattle.std.proofs.Common.{◌∙◌}
use Rattle.flow_text.proofs.OutputLemmas.{one_number}
use Rattle.flow_text.proofs.output.solution_line.Goals as goal

pub returns : goal.returns
returns c = c.number_line.ensures ∙ one_number "s" c.args.value
