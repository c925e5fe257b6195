-- `test_or_clear`: a table that was cleared carries the flow of value 0.
use Rattle.std.proofs.Common.{◌≡◌, ℕ, List, length, replicate, sym, subst, ap, ◌∙◌}
use Rattle.flow_solve.specs.Solving.{IsFlow}
use Rattle.flow_solve.proofs.Raises.{zero_flow}
use Rattle.solve_trials.proofs.tests.test_or_clear.Goals as goal

pub returns : goal.returns
returns c =
    let given = c.args.given in let net = given.net.now in
    let count : length c.test_flow.new.flow.flows ≡ length net.arcs =
    ap length c.test_flow.ensures.looks.flows ∙ c.requires.fits.count in
    let zeros : c.clear.new.self.flows ≡ replicate (length net.arcs) 0 =
    c.clear.ensures.flows ∙ ap (λ n. replicate n 0) count in
    subst (λ (xs : List ℕ). IsFlow net given.s.now given.t.now xs 0) (sym zeros) (zero_flow net given.s.now given.t.now)
