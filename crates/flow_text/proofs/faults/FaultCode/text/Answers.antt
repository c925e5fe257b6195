use Rattle.std.proofs.Common.{ap, sym}
use Rattle.flow_text.specs.FaultTexts.{fault_text}
use Rattle.flow_text.proofs.faults.FaultCode.text.Goals as goal

pub returns-in-TooFewArcs : goal.returns-in-TooFewArcs
returns-in-TooFewArcs c = ap fault_text (sym c.in-TooFewArcs.is)
