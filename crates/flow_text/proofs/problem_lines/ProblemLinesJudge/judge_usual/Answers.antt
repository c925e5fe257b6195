-- `judge_usual`: an arc line of the usual form is kept, is left to the general way, or finds no memory.
use Rattle.std.proofs.Common.{sym, ap, ◌∙◌, ◌≡◌}
use Rattle.flow_text.specs.ProblemReading.{known_with, known_from}
use Rattle.flow_text.proofs.ProblemLemmas.{of_usual}
use Rattle.flow_text.proofs.problem_lines.ProblemLinesJudge.judge_usual.Goals as goal
use Rattle.flow_text.proofs.problem_lines.ProblemLinesJudge.judge_usual.Goals.{in-Ok-true, in-Ok-false, in-Err}

pub returns : goal.returns
returns c =
    let now : c.args.self.now ≡ known_with c.in-Some.declared = sym c.self.view_is ∙ ap known_from c.in-Some.is in
    let u = c.in-Some-usual_line.ensures in
    rw now (elim c.match-keep_arc.branch [
      | in-Ok-true w ↦
          let kept = rw w.in-Ok-true.field-0-test at w.in-Ok-true.ensures in
          let of = of_usual c.in-Some.declared c.args.text.now
          (record { src = c.in-Some-usual_line.src; dst = c.in-Some-usual_line.dst; cap = c.in-Some-usual_line.cap })
          c.in-Some-usual_line.at u kept.0 kept.1 kept.2 in
          rw w.result-is (u.first, of.0, ap known_with kept.3 ∙ of.1)
      | in-Ok-false w ↦
          let kept = rw w.in-Ok-false.field-0-test at w.in-Ok-false.ensures in
          rw w.result-is (ap known_with kept)
      | in-Err w ↦ rw (w.result-is, w.in-Err.ensures) (c.in-Some-usual_line.at, u.first, tt)
    ])
