-- The answer of a job as a value, how it is found, and how a run ends apart from its message.
use Rattle.std.specs.Prelude.{◌≡◌, ◌⊎◌, ⊤, ℕ, true, false, List, [], ◌∷◌, length, Result, Ok, Err, None}
use Rattle.std.specs.Io.KnownBytes.{Appends, Consumes}
use Rattle.flow_net.specs.Nets.{Instance}
use Rattle.flow_net.specs.MarkedNodes.{marked}
use Rattle.flow_text.specs.Output.{line_of, solve_text, cut_text, verdict_line}
use Rattle.flow_text.specs.Solution.{early_solution, solution}
use Rattle.flow_tools.specs.streams.Streams.{Stream, IsKept, HasFailed, HasEnded, IsBeginning}
use Rattle.flow_tools.specs.running.OnePass.{IsOnePass}
use Rattle.flow_tools.specs.running.Answers.{IsAnswer, verdict_status}
use Rattle.flow_tools.specs.running.Exits.{HasFault, IsCheck, ending, EndsWith}
use Rattle.flow_tools.specs.declared.running.answers.Answer.{Answer}
use Rattle.flow_tools.specs.declared.running.answers.Answer.TheVariants.{Value, Flow, Cut, Links, Verdict}
use Rattle.flow_tools.specs.declared.running.jobs.Job.{Job}
use Rattle.flow_tools.specs.declared.running.jobs.Stop.{Stop}
use Rattle.flow_tools.specs.declared.running.jobs.Stop.TheVariants.{Fault, ReadFailed, WriteFailed, OutOfMemory}

-- the text of an answer
abbrev pub text_of : Answer → List ℕ
text_of (Value value) = line_of "s" (value ∷ [])
text_of (Flow solved) = solve_text false solved.network.net solved.value solved.flows.items
text_of (Cut cut arcs) = cut_text arcs cut.solved.network.net cut.solved.value (marked cut.side.items)
text_of (Links links) = line_of "k" (links ∷ [])
text_of (Verdict verdict) = verdict_line verdict

-- the status of a run that puts it
abbrev pub status_of : Answer → ℕ
status_of (Verdict verdict) = verdict_status verdict
status_of _ = 0

-- it has a number for each arc, or a mark for each node
abbrev pub IsComplete : Answer → Type 0
IsComplete (Flow solved) = length solved.flows.items ≡ length solved.network.net.arcs
IsComplete (Cut cut arcs) = length cut.side.items ≡ cut.solved.network.net.nodes
IsComplete _ = ⊤

-- its text and its status are what the job answers to a problem, and to a solution's text q
abbrev pub IsAnswerTo : Job → Instance → List ℕ → Answer → Type 0
IsAnswerTo job instance q answer = IsAnswer job instance q (text_of answer) (status_of answer) × IsComplete answer

-- what is found where the solution, if the job checks one, delivered q
abbrev pub FindsAt : Job → Instance → Stream → List ℕ → Result Answer Stop → Type 0
FindsAt job instance given q (Ok answer) =
    IsKept given × (IsCheck job → HasEnded given) × IsAnswerTo job instance q answer
FindsAt job instance given q (Err (Fault false line code)) = ⊥
FindsAt job instance given q (Err (Fault true line code)) = IsKept given × IsCheck job
    × HasFault (early_solution q instance.net.nodes) (solution q instance.net.nodes) given (line, code)
FindsAt job instance given q (Err ReadFailed) = HasFailed given × IsCheck job
    × (early_solution q instance.net.nodes ≡ None)
FindsAt job instance given q (Err WriteFailed) = ⊥
FindsAt job instance given q (Err OutOfMemory) = IsKept given

-- How the answer of a job to a problem is found: what a solution delivered, in one pass, and the answer, or why there
-- is none.
pub record Finds (job : Job) (instance : Instance) (given : Stream) (end : Result Answer Stop) : Type 0 where
  pub q : List ℕ
  pub delivered : Consumes given.before.bytes given.after.bytes q
  pub solution_read : ((q ≡ []) × IsKept given) ⊎ (IsCheck job × IsOnePass (λ b. early_solution b instance.net.nodes) q)
  pub exit : FindsAt job instance given q end

-- all of the message was taken, or a beginning of it by a stream that failed
abbrev pub IsTold : Stream → List ℕ → Type 0
IsTold err message = (e : List ℕ) × Appends err.before.bytes err.after.bytes e
    × ((IsKept err × (e ≡ message)) ⊎ (HasFailed err × IsBeginning e message))

-- A run apart from its message: with any stream that took the message it is a whole run.
abbrev pub Runs : Job → Stream → Stream → Stream → Result ℕ Stop → Type 0
Runs job source given out end = (err : Stream) (status : ℕ) → IsTold err (ending end).0 → status ≡ (ending end).1
    → EndsWith job source given out err status
