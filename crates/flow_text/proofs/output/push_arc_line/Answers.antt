use Rattle.std.proofs.Common.{ap, ◌∙◌, ◌++◌}
use Rattle.flow_text.proofs.OutputLemmas.{three_numbers}
use Rattle.flow_text.proofs.output.push_arc_line.Goals as goal

pub returns : goal.returns
returns g c =
    c.push_pair.ensures
    ∙ ap (λ xs. c.args.lines.now.items ++ xs) (three_numbers "a" c.args.arc.src c.args.arc.dst c.args.arc.cap)
