-- How a run ends.
use Rattle.std.specs.Prelude.{◌≡◌, ◌⊎◌, ℕ, Bool, true, false, List, [], codes, Result, Ok, Err, Option, Some, None}
use Rattle.std.specs.Io.KnownBytes.{Appends, Consumes}
use Rattle.flow_net.specs.Nets.{Instance}
use Rattle.flow_text.specs.Problem.{early, problem}
use Rattle.flow_text.specs.Solution.{early_solution, solution}
use Rattle.flow_text.specs.Output.{fault_line}
use Rattle.flow_text.specs.declared.faults.FaultCode.{FaultCode}
use Rattle.flow_tools.specs.streams.Streams.{Stream, IsKept, HasFailed, HasEnded, IsBeginning}
use Rattle.flow_tools.specs.running.OnePass.{IsOnePass}
use Rattle.flow_tools.specs.running.Answers.{IsAnswer}
use Rattle.flow_tools.specs.declared.running.jobs.Job.{Job}
use Rattle.flow_tools.specs.declared.running.jobs.Job.TheVariants.{Check}
use Rattle.flow_tools.specs.declared.running.jobs.Stop.{Stop}
use Rattle.flow_tools.specs.declared.running.jobs.Stop.TheVariants.{Fault, ReadFailed, WriteFailed, OutOfMemory}

-- a text has this fault: early, however it goes on, or as a whole, and the input has ended
abbrev pub HasFault : {A : Type 0} → Option (ℕ × FaultCode) → Result A (ℕ × FaultCode) → Stream → ℕ × FaultCode → Type 0
HasFault early whole input fault = (early ≡ Some fault) ⊎ (HasEnded input × (whole ≡ Err fault))

-- the job checks a solution
abbrev pub IsCheck : Job → Type 0
IsCheck job = (feasible_only : Bool) × (job ≡ Check feasible_only)

-- a job that checks a solution has come to it: the problem has ended and is accepted; and this holds for its number
-- of nodes
abbrev pub HasComeToSolution : Job → Stream → List ℕ → (ℕ → Type 0) → Type 0
HasComeToSolution job source p holds =
    IsCheck job × HasEnded source × ((instance : Instance) × (problem p ≡ Ok instance) × holds instance.net.nodes)

-- a text and a status that the job allows: the problem has ended, and the solution too where the job checks it
abbrev pub IsAllowed : Job → Stream → Stream → List ℕ → List ℕ → List ℕ → ℕ → Type 0
IsAllowed job source given p q text status = HasEnded source × IsKept given × (IsCheck job → HasEnded given)
    × ((instance : Instance) × (problem p ≡ Ok instance) × IsAnswer job instance q text status)

-- The exits, where the problem delivered p, the solution q, and the output took o:
-- done, where all of an allowed text was put;
-- a fault of an input, a failed pull, or a refused growth of memory, where nothing was put;
-- a failed put, where a beginning of an allowed text was put.
abbrev pub EndsAt : Job → Stream → Stream → Stream → List ℕ → List ℕ → List ℕ → Result ℕ Stop → Type 0
EndsAt job source given out p q o (Ok status) = IsKept out × IsAllowed job source given p q o status
EndsAt job source given out p q o (Err (Fault false line code)) =
    IsKept source × IsKept given × IsKept out × (o ≡ []) × (q ≡ []) × HasFault (early p) (problem p) source (line, code)
EndsAt job source given out p q o (Err (Fault true line code)) = IsKept given × IsKept out × (o ≡ [])
    × HasComeToSolution job source p (λ nodes. HasFault (early_solution q nodes) (solution q nodes) given (line, code))
EndsAt job source given out p q o (Err ReadFailed) = IsKept out × (o ≡ [])
    × ((HasFailed source × IsKept given × (q ≡ []) × (early p ≡ None))
    ⊎ (HasFailed given × HasComeToSolution job source p (λ nodes. early_solution q nodes ≡ None)))
EndsAt job source given out p q o (Err WriteFailed) = HasFailed out
    × ((text : List ℕ) × (status : ℕ) × IsAllowed job source given p q text status × IsBeginning o text)
EndsAt job source given out p q o (Err OutOfMemory) = IsKept source × IsKept given × IsKept out × (o ≡ [])

-- the message of an exit, and its status
abbrev pub ending : Result ℕ Stop → List ℕ × ℕ
ending (Ok status) = ([], status)
ending (Err (Fault solution line code)) = (fault_line solution line code, 3)
ending (Err ReadFailed) = (codes "flow: read failed\n", 4)
ending (Err WriteFailed) = (codes "flow: write failed\n", 4)
ending (Err OutOfMemory) = (codes "flow: out of memory\n", 4)

-- A whole run: what the inputs delivered and what was put, in one pass, the exit, and its status and message. All of
-- the message was put, or a beginning of it by a stream that failed.
pub record EndsWith (job : Job) (source given out err : Stream) (status : ℕ) : Type 0 where
  pub end : Result ℕ Stop
  pub p : List ℕ
  pub q : List ℕ
  pub o : List ℕ
  pub e : List ℕ
  pub delivered_p : Consumes source.before.bytes source.after.bytes p
  pub delivered_q : Consumes given.before.bytes given.after.bytes q
  pub put_o : Appends out.before.bytes out.after.bytes o
  pub put_e : Appends err.before.bytes err.after.bytes e
  pub one_pass : IsOnePass early p
  pub solution_read : ((q ≡ []) × IsKept given)
      ⊎ HasComeToSolution job source p (λ nodes. IsOnePass (λ b. early_solution b nodes) q)
  pub exit : EndsAt job source given out p q o end
  pub told : (IsKept err × (e ≡ (ending end).0)) ⊎ (HasFailed err × IsBeginning e (ending end).0)
  pub answered : status ≡ (ending end).1
