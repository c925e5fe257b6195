-- The law: what is left carries the flow as well, and never lets more through than before.
use Rattle.flow_net.proofs.Failures.{harmless_failure}
use Rattle.flow_net.proofs.laws.harmless_failure.Goals as goal

pub returns : goal.returns
returns c = λ net s t i k xs. harmless_failure net i s t k xs
