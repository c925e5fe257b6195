-- How an input is read, in one pass.
use Rattle.std.specs.Prelude.{◌≡◌, ◌⊎◌, ℕ, Bool, true, false, List, Result, Ok, Err, Option, None, Some, ⊤}
use Rattle.std.specs.Io.KnownBytes.{Consumes}
use Rattle.flow_text.specs.declared.faults.FaultCode.{FaultCode}
use Rattle.flow_text.specs.declared.faults.ReadFault.{ReadFault}
use Rattle.flow_text.specs.declared.faults.ReadFault.TheVariants.{Fault, OutOfMemory}
use Rattle.flow_tools.specs.streams.Streams.{Stream, IsKept, HasFailed, HasEnded}
use Rattle.flow_tools.specs.running.OnePass.{IsOnePass}
use Rattle.flow_tools.specs.declared.running.reading.Role.{Role}
use Rattle.flow_tools.specs.declared.running.reading.Role.TheVariants.{Problem, Solution}
use Rattle.flow_tools.specs.declared.running.jobs.Stop.{Stop}
use Rattle.flow_tools.specs.declared.running.jobs.Stop.TheVariants.{Fault as StopFault, ReadFailed, WriteFailed}
use Rattle.flow_tools.specs.declared.running.jobs.Stop.TheVariants.{OutOfMemory as StopOutOfMemory}

-- what a reader answers to the next piece: the text goes on without a fault, or has that one however it goes on
abbrev pub FeedsOn : Option (ℕ × FaultCode) → Type 0 → Result (Unit {0}) ReadFault → Type 0
FeedsOn early goes_on (Ok done) = goes_on
FeedsOn early goes_on (Err (Fault line code)) = early ≡ Some (line, code)
FeedsOn early goes_on (Err OutOfMemory) = ⊤

-- what a reader answers to the end: the text is accepted, or has that fault
abbrev pub FinishesAs : {T : Type 0} → (ℕ × FaultCode → Type 0) → (T → Type 0) → Result T ReadFault → Type 0
FinishesAs has_fault accepts (Ok value) = accepts value
FinishesAs has_fault accepts (Err (Fault line code)) = has_fault (line, code)
FinishesAs has_fault accepts (Err OutOfMemory) = ⊤

-- whether a text is the solution's; else it is the problem's
abbrev pub is_solution : Role → Bool
is_solution Problem = false
is_solution Solution = true

-- what a run stops with where a reader refuses
abbrev pub stop_for : Bool → ReadFault → Stop
stop_for solution (Fault line code) = StopFault solution line code
stop_for solution OutOfMemory = StopOutOfMemory

-- what the bytes that an input delivered are judged to be, and how that leaves the input
abbrev pub IsJudged : {T : Type 0} → (List ℕ → Option (ℕ × FaultCode)) → (List ℕ → ℕ × FaultCode → Type 0)
    → (List ℕ → T → Type 0) → Stream → List ℕ → Bool → Result T Stop → Type 0
IsJudged early has_fault accepts s text solution (Ok value) = HasEnded s × accepts text value
IsJudged early has_fault accepts s text solution (Err (StopFault told line code)) = IsKept s × (told ≡ solution)
    × ((early text ≡ Some (line, code)) ⊎ (HasEnded s × has_fault text (line, code)))
IsJudged early has_fault accepts s text solution (Err ReadFailed) = HasFailed s × (early text ≡ None)
IsJudged early has_fault accepts s text solution (Err WriteFailed) = ⊥
IsJudged early has_fault accepts s text solution (Err StopOutOfMemory) = IsKept s

-- An input over a call that reads it: what it delivered, in one pass, and what that is judged to be.
pub record IsRead {T : Type 0} (early : List ℕ → Option (ℕ × FaultCode))
    (has_fault : List ℕ → ℕ × FaultCode → Type 0) (accepts : List ℕ → T → Type 0)
    (s : Stream) (solution : Bool) (result : Result T Stop) : Type 0 where
  pub text : List ℕ
  pub delivered : Consumes s.before.bytes s.after.bytes text
  pub one_pass : IsOnePass early text
  pub judged : IsJudged early has_fault accepts s text solution result
