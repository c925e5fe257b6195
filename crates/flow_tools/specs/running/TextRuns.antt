-- A run over texts that lie in memory: what `run` promises, where nothing but memory can fail.
use Rattle.std.specs.Prelude.{◌≡◌, ◌⊎◌, ℕ, false, true, List, [], Result, Ok, Err}
use Rattle.flow_net.specs.Nets.{Instance}
use Rattle.flow_net.specs.declared.networks.OutOfMemory.{OutOfMemory}
use Rattle.flow_text.specs.Problem.{problem}
use Rattle.flow_text.specs.Solution.{solution}
use Rattle.flow_text.specs.Output.{fault_line}
use Rattle.flow_text.specs.declared.faults.FaultCode.{FaultCode}
use Rattle.flow_tools.specs.streams.Streams.{IsBeginning}
use Rattle.flow_tools.specs.running.Answers.{IsAnswer}
use Rattle.flow_tools.specs.running.Exits.{IsCheck}
use Rattle.flow_tools.specs.declared.running.jobs.Job.{Job}

-- the answer to the problem that the text b says, where it says one
abbrev pub Answers : Job → List ℕ → List ℕ → List ℕ → ℕ → Type 0
Answers job b q text status = (instance : Instance) × (problem b ≡ Ok instance) × IsAnswer job instance q text status

-- the line about the first fault of the problem's text b; or, where a solution is checked, of the solution's text q
abbrev pub TellsFirstFault : Job → List ℕ → List ℕ → List ℕ → Type 0
TellsFirstFault job b q message =
    ((line : ℕ) × (code : FaultCode) × (problem b ≡ Err (line, code)) × (message ≡ fault_line false line code))
    ⊎ (IsCheck job × ((instance : Instance) × (line : ℕ) × (code : FaultCode) × (problem b ≡ Ok instance)
    × (solution q instance.net.nodes ≡ Err (line, code)) × (message ≡ fault_line true line code)))

-- what was put into the output (o) and the errors (e): an answer, or the line about a fault; where memory was refused,
-- no line, and nothing or a beginning of an answer
abbrev pub RunsOn : Job → List ℕ → List ℕ → List ℕ → List ℕ → Result ℕ OutOfMemory → Type 0
RunsOn job b q o e (Ok status) =
    (Answers job b q o status × (e ≡ [])) ⊎ (TellsFirstFault job b q e × (o ≡ []) × (status ≡ 3))
RunsOn job b q o e (Err refused) =
    (e ≡ []) × ((o ≡ []) ⊎ ((text : List ℕ) × (status : ℕ) × Answers job b q text status × IsBeginning o text))
