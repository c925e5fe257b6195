-- `new`: of the empty text nothing is known, and nothing is buffered.
use Rattle.std.proofs.Common.{refl}
use Rattle.flow_text.specs.Lines.{ended, rest}
use Rattle.flow_text.specs.Rules.{early_fault, first_fault}
use Rattle.flow_text.proofs.machine.Machine.new.Goals as goal

pub returns : goal.returns
unfolding ended rest early_fault first_fault
returns g c = λ known_of is.
    record { going = refl; counts = refl; knows = is; in_comment = refl; buffered = c.new.ensures; fine = refl }
