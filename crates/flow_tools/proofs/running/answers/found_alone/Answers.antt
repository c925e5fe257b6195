-- `found_alone`: what was found, or that memory was refused.
use Rattle.std.proofs.Common.{IfOk, subst, []}
use Rattle.flow_tools.specs.running.AnswerExits.{IsAnswerTo}
use Rattle.flow_tools.proofs.running.EndLemmas.{found, no_memory}
use Rattle.flow_tools.proofs.running.answers.found_alone.Goals as goal

pub returns-in-Ok : goal.returns-in-Ok
returns-in-Ok c = λ job p given no_check a.
    found job p given c.in-Ok.answer no_check (subst (λ r. IfOk r (IsAnswerTo job p [])) c.in-Ok.is a)

pub returns-in-Err : goal.returns-in-Err
returns-in-Err c = λ job p given no_check a. no_memory job p given
