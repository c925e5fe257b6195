-- `lines`: the lines that the machine's judge has kept, which are those of the text.
use Rattle.std.proofs.Common.{ap, ◌∙◌}
use Rattle.flow_text.specs.Reading.{State}
use Rattle.flow_text.specs.SolutionReading.{SolutionSoFar}
use Rattle.flow_text.proofs.solution_reader.SolutionReader.lines.Goals as goal

pub returns-in-Some-clause-lent : goal.returns-in-Some-clause-lent
returns-in-Some-clause-lent c =
    rw (← c.self.view_is, c.in-Some.ensures.0)
    (c.lines.ensures.lines ∙ ap (λ (known : SolutionSoFar). known.lines) c.in-Some.ensures.1)

pub returns-in-Some-clause-ended : goal.returns-in-Some-clause-ended
returns-in-Some-clause-ended c = λ nodes b r.
    c.lines.ensures.lines ∙ ap (λ (known : SolutionSoFar). known.lines)
    (c.in-Some.ensures.1 ∙ ap (λ (s : State SolutionSoFar). s.known) c.self.view_is ∙ r.0.knows)
