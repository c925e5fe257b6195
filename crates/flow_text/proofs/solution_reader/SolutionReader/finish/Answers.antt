-- `finish`: no fault, and the solution that the lines say; or the machine's fault.
use Rattle.std.proofs.Common.{ap, sym, subst, ◌∙◌, ◌≡◌, ℕ}
use Rattle.flow_text.specs.Solution.{solution}
use Rattle.flow_text.specs.SolutionReading.{Written, written_of, SolutionSoFar, so_far_of, stated_in, IsWithinLimits}
use Rattle.flow_text.specs.SolutionReading.{written_in}
use Rattle.flow_text.proofs.EndLemmas.{accepted-fine, accepted-fault}
use Rattle.flow_text.proofs.SolutionLemmas.{Adds-solution, whole-same}
use Rattle.flow_text.proofs.solution_reader.SolutionReader.finish.Goals as goal

-- the text is accepted
pub returns-in-Ok-clause-whole : goal.returns-in-Ok-clause-whole
unfolding solution
returns-in-Ok-clause-whole c = λ nodes b r.
    let closed = c.in-Ok.ensures.whole (so_far_of nodes) (Adds-solution nodes) b (rw (← c.self.view_is) at r.0) in
    accepted-fine _ _ _ (sym (whole-same nodes b) ∙ closed.0)
    (ap (λ (w : Written). (w.value, w.lines))
    (c.into_solution.ensures.written ∙ ap (λ (k : SolutionSoFar). written_of (stated_in k)) closed.1))

-- its lines are within the limits
pub returns-in-Ok-clause-limits : goal.returns-in-Ok-clause-limits
returns-in-Ok-clause-limits c = λ nodes b r.
    let closed = c.in-Ok.ensures.whole (so_far_of nodes) (Adds-solution nodes) b (rw (← c.self.view_is) at r.0) in
    let is : c.in-Ok.lines.nodes ≡ nodes = ap (λ (k : SolutionSoFar). k.nodes) closed.1 in
    subst (λ (n : ℕ). IsWithinLimits n (written_in c.into_solution.result)) is c.into_solution.ensures.limits

-- the text has a fault, or memory was refused
pub returns-in-Err-clause-whole : goal.returns-in-Err-clause-whole
unfolding solution
returns-in-Err-clause-whole c = λ nodes b r.
    accepted-fault _ _ c.in-Err.fault (rw (whole-same nodes b) at
    (c.in-Err.ensures.whole (so_far_of nodes) (Adds-solution nodes) b (rw (← c.self.view_is) at r.0)))
