-- `solution_line`: the first solution line says the value, and the flow lines stay.
use Rattle.std.proofs.Common.{sym, ◌∙◌, ap, ℕ, Some}
use Rattle.flow_text.specs.SolutionReading.{SolutionSoFar}
use Rattle.flow_text.proofs.solution_lines.SolutionLines.solution_line.Goals as goal

pub returns-in-Ok : goal.returns-in-Ok
returns-in-Ok c = λ kind.
    let ok = c.in-Ok.ensures.tests kind in
    rw (← c.self.view_is) (
      rw (sym c.is_some.ensures ∙ c.if-is_some.false) ok.0,
      ap (λ (value : ℕ).
          let known : SolutionSoFar = record {
            nodes = c.self.inside.nodes;
            value = Some value;
            lines = c.self.inside.lines.items;
          } in
          known) ok.1,
    )
