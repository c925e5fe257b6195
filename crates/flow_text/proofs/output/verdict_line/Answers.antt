use Rattle.std.proofs.Common.{ap, sym, ◌∙◌}
use Rattle.flow_text.specs.Output.{verdict_line}
use Rattle.flow_text.proofs.OutputLemmas.{one_number}
use Rattle.flow_text.proofs.output.verdict_line.Goals as goal

pub returns-in-NotMaximal : goal.returns-in-NotMaximal
unfolding verdict_line
returns-in-NotMaximal c =
    c.number_line-in-NotMaximal.ensures
    ∙ one_number "not-maximal" c.in-NotMaximal.value
    ∙ ap verdict_line (sym c.in-NotMaximal.is)
