use Rattle.flow_text.proofs.OutputLemmas.{three_numbers}
use Rattle.flow_text.proofs.output.arc_line.Goals as goal

pub returns : goal.returns
returns c =
    rw (c.push_pair.ensures, c.new-line.ensures) (three_numbers "a" c.args.arc.src c.args.arc.dst c.args.arc.cap)
