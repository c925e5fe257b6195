-- The exits of the run, over inputs that can't fail.
use Rattle.std.proofs.Common.{◌≡◌, ◌++◌, sym, ap, ◌∙◌, length, take, [], rules}
use Rattle.flow_tools.proofs.running.TextRunLemmas.{ran_refused, ran_done}
use Rattle.flow_tools.proofs.running.texts.run_on_texts.Goals as goal

pub returns-then-status-eq4 : goal.returns-then-status-eq4
returns-then-status-eq4 c =
    let ran = c.run-status.new in
    let out = c.new-answer.result in
    let err = c.new-message.result in
    let had_out : out.inner.items ≡ c.args.out.now.items =
    ap (λ v. v.items) (c.new-answer.ensures.inner ∙ c.replace.ensures.value) in
    let had_err : err.inner.items ≡ c.args.err.now.items =
    ap (λ v. v.items) (c.new-message.ensures.inner ∙ c.replace-2.ensures.value) in
    let length_had : c.len-had.result ≡ length c.args.err.now.items = search rules in
    let had = length_had ∙ ap length (sym had_err) in
    let kept : c.truncate.new.self.items ≡ take c.len-had.result ran.err.inner.items =
    c.truncate.ensures.items ∙ ap (λ v. take c.len-had.result v.items) c.into_inner-2.ensures in
    let h = ran_refused c.args.job c.args.problem.now ran.problem.rest.now c.args.solution.now ran.solution.rest.now
    out.inner.items ran.out.inner.items err.inner.items ran.err.inner.items out.failed ran.out.failed err.failed
    ran.err.failed c.run-status.result (record {}) c.len-had.result c.run-status.ensures had in (
      h.0,
      [],
      ap (λ v. v.items) c.into_inner.ensures ∙ h.1 ∙ ap (λ l. l ++ h.0) had_out,
      kept ∙ h.2 ∙ ap (λ l. l ++ []) had_err,
      h.3,
    )

pub returns : goal.returns
returns c =
    let ran = c.run-status.new in
    let out = c.new-answer.result in
    let err = c.new-message.result in
    let had_out : out.inner.items ≡ c.args.out.now.items =
    ap (λ v. v.items) (c.new-answer.ensures.inner ∙ c.replace.ensures.value) in
    let had_err : err.inner.items ≡ c.args.err.now.items =
    ap (λ v. v.items) (c.new-message.ensures.inner ∙ c.replace-2.ensures.value) in
    let h = ran_done c.args.job c.args.problem.now ran.problem.rest.now c.args.solution.now ran.solution.rest.now
    out.inner.items ran.out.inner.items err.inner.items ran.err.inner.items out.failed ran.out.failed err.failed
    ran.err.failed c.run-status.result c.early_fault_stays.ensures c.early_solution_fault_stays.ensures
    c.run-status.ensures c.if-status-eq4.false (sym c.failed-cut_short.ensures.flag ∙ c.if-cut_short.false) in (
      h.0,
      h.1,
      ap (λ v. v.items) c.into_inner.ensures ∙ h.2 ∙ ap (λ l. l ++ h.0) had_out,
      ap (λ v. v.items) c.into_inner-2.ensures ∙ h.3 ∙ ap (λ l. l ++ h.1) had_err,
      h.4,
    )
