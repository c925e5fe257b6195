-- `status_of_stop`: but for a fault, each way to stop without an answer has the status 4.
use Rattle.std.proofs.Common.{◌≡◌, Err, ℕ, Bool, refl}
use Rattle.flow_text.specs.declared.faults.FaultCode.{FaultCode}
use Rattle.flow_tools.specs.declared.running.jobs.Stop.{Stop}
use Rattle.flow_tools.specs.declared.running.jobs.Stop.TheVariants.{Fault, ReadFailed, WriteFailed, OutOfMemory}
use Rattle.flow_tools.specs.running.Exits.{ending}
use Rattle.flow_tools.proofs.running.status_of_stop.Goals as goal

other : (stop : Stop) → ((solution : Bool) (line : ℕ) (code : FaultCode) → stop ≡ Fault solution line code → ⊥)
    → 4 ≡ (ending (Err stop)).1
other (Fault solution line code) no_fault = absurd (no_fault solution line code refl)
other ReadFailed no_fault = refl
other WriteFailed no_fault = refl
other OutOfMemory no_fault = refl

pub returns-in_default : goal.returns-in_default
returns-in_default c = other c.args.stop c.in_default.not-Fault
