-- `node_line`: after the problem line the tests are those of what is declared.
use Rattle.std.proofs.Common.{sym, ap, ◌∙◌, ◌≡◌}
use Rattle.flow_text.specs.ProblemReading.{known_with, known_from}
use Rattle.flow_text.proofs.ProblemLemmas.{Judges-with}
use Rattle.flow_text.proofs.problem_lines.ProblemLines.node_line.Goals as goal

pub returns : goal.returns
returns c = λ kind.
    let now : c.args.self.now ≡ known_with c.in-Some.declared = sym c.self.view_is ∙ ap known_from c.in-Some.is in
    rw now (Judges-with _ _ _ c.node_line.result (c.node_line.ensures kind))
