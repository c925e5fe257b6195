-- `judge_usual`: a flow line of the usual form has passed the tests of one, and is kept.
use Rattle.std.proofs.Common.{◌∙◌}
use Rattle.flow_text.proofs.SolutionLemmas.{of_usual}
use Rattle.flow_text.proofs.solution_lines.SolutionLinesJudge.judge_usual.Goals as goal

pub returns-in-Ok-true : goal.returns-in-Ok-true
returns-in-Ok-true c =
    let kept = rw c.in-Ok-true.field-0-test at c.in-Ok-true.ensures in
    let u = c.in-Some.ensures in
    let of = of_usual c.args.self.now c.args.text.now
    (record { src = c.in-Some.src; dst = c.in-Some.dst; flow = c.in-Some.flow }) c.in-Some.at u kept.0 kept.1
    kept.2 in
    (u.first, of.0, kept.3 ∙ of.1)

-- one that is not kept changes nothing
pub returns-in-Ok-false : goal.returns-in-Ok-false
returns-in-Ok-false c = rw c.in-Ok-false.field-0-test at c.in-Ok-false.ensures
