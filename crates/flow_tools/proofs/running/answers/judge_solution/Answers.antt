-- What `judge_solution` finds: why the solution can't be read, that memory was refused, or the verdict of `check`.
use Rattle.std.proofs.Common.{ℕ, [], ap, subst, ◌∙◌, refl}
use Rattle.flow_net.specs.Nets.{Net}
use Rattle.flow_text.specs.SolutionReading.{ReadsSolution}
use Rattle.flow_tools.specs.declared.running.answers.Answer.TheVariants.{Verdict}
use Rattle.flow_tools.specs.declared.running.jobs.Job.TheVariants.{Check}
use Rattle.flow_tools.proofs.running.EndLemmas.{solution_stops, solution_judged, not_judged}
use Rattle.flow_tools.proofs.running.answers.judge_solution.Goals as goal

pub returns-in-Err : goal.returns-in-Err
returns-in-Err g c =
    let n = c.args.problem.now.net.nodes in
    let Reading : ℕ → Type 0 = λ k. ReadsSolution k c.new-reader.result [] in
    let reads = subst Reading (c.nodes.ensures.nodes ∙ ap (λ (m : Net). m.nodes) c.net.ensures.net)
    c.new-reader.ensures in
    solution_stops (Check c.args.feasible_only) (_, refl) c.args.problem.now _ _ c.in-Err.stop
    (c.in-Err.ensures n reads)

pub returns-in-Ok-check : goal.returns-in-Ok-check
returns-in-Ok-check g c =
    let n = c.args.problem.now.net.nodes in
    let Reading : ℕ → Type 0 = λ k. ReadsSolution k c.new-reader.result [] in
    let reads = subst Reading (c.nodes.ensures.nodes ∙ ap (λ (m : Net). m.nodes) c.net.ensures.net)
    c.new-reader.ensures in
    let r = c.in-Ok.ensures n reads in
    solution_judged (Check c.args.feasible_only) (_, refl) c.args.problem.now _ _ c.in-Ok.written r
    (Verdict c.in-Ok-check.verdict)
    ((_, _, c.in-Ok-check.verdict, r.judged.1.0, c.in-Ok-check.ensures.verdict, refl, refl), tt)

pub returns : goal.returns
returns g c =
    let n = c.args.problem.now.net.nodes in
    let Reading : ℕ → Type 0 = λ k. ReadsSolution k c.new-reader.result [] in
    let reads = subst Reading (c.nodes.ensures.nodes ∙ ap (λ (m : Net). m.nodes) c.net.ensures.net)
    c.new-reader.ensures in
    not_judged (Check c.args.feasible_only) (_, refl) c.args.problem.now _ _ c.in-Ok.written (c.in-Ok.ensures n reads)
