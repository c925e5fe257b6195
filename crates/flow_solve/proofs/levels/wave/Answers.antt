-- `wave`: a table that was cleared carries the flow of value 0.
use Rattle.std.proofs.Common.{◌≡◌, ℕ, List, length, replicate, sym, subst, ap, ◌∙◌}
use Rattle.flow_solve.specs.Task.{HasFlow}
use Rattle.flow_solve.proofs.Raises.{zero_flow}
use Rattle.flow_solve.proofs.levels.wave.Goals as goal

pub returns-clause-flow : goal.returns-clause-flow
returns-clause-flow c =
    let task = c.args.task in let net = task.packed.net.now in
    let count : length c.test_flow.new.flow.flows ≡ length net.arcs =
    ap length c.test_flow.ensures.looks.flows ∙ c.send_waves.ensures.fits.count in
    let zeros : c.clear.new.self.flows ≡ replicate (length net.arcs) 0 =
    c.clear.ensures.flows ∙ ap (λ n. replicate n 0) count in
    subst (λ (xs : List ℕ). HasFlow task xs 0) (sym zeros) (zero_flow net task.s.now task.t.now)
