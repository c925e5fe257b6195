-- `problem_line`: the first problem line says the size, and nothing else is known yet.
use Rattle.std.proofs.Common.{sym, ◌∙◌, ◌≡◌, ap, ℕ, Some, None}
use Rattle.flow_text.specs.Problem.{Known}
use Rattle.flow_text.specs.ProblemReading.{known_from}
use Rattle.flow_text.proofs.KindLemmas.{none_from}
use Rattle.flow_text.proofs.problem_lines.ProblemLines.problem_line.Goals as goal

pub returns-in-Ok : goal.returns-in-Ok
returns-in-Ok c = λ kind.
    let ok = c.in-Ok.ensures.tests kind in
    let none : c.self.inside.declared ≡ None =
    none_from c.self.inside.declared (sym c.is_some.ensures ∙ c.if-is_some.false) in
    let now : c.args.self.now ≡ known_from None = sym c.self.view_is ∙ ap known_from none in
    rw (now, c.new.ensures) (
      ok.0,
      ap (λ (size : ℕ × ℕ).
          let k : Known = record {
            size = Some size;
            sources = (known_from None).sources;
            sinks = (known_from None).sinks;
            arcs = (known_from None).arcs;
          } in
          k) ok.1,
    )
