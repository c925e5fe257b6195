use Rattle.flow_text.proofs.OutputLemmas.{three_numbers}
use Rattle.flow_text.proofs.output.flow_line.Goals as goal

pub returns : goal.returns
returns c = rw (c.push_pair.ensures, c.new-line.ensures) (three_numbers "f" c.args.src c.args.dst c.args.flow)
