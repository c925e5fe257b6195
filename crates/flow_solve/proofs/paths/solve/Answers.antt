-- `solve`: it begins with the flow of zeros, and the cells past those of a solver stay.
use Rattle.std.proofs.Common.{◌≡◌, ◌*◌, ◌≤◌, List, ℕ, ◌++◌, replicate, length, drop, subst, sym, ap, ◌∙◌, arith}
use Rattle.flow_solve.specs.Bounds.{work_cells}
use Rattle.flow_solve.specs.Solving.{IsFlow}
use Rattle.flow_solve.proofs.ResidualLemmas.Behind.{drop_farther, drop_front}
use Rattle.flow_solve.proofs.Raises.{zero_flow}
use Rattle.flow_solve.proofs.paths.solve.Goals as goal

pub raise-requires-clause-flow : goal.raise-requires-clause-flow
raise-requires-clause-flow c =
    let net = c.args.given.net.now in
    let zeros : c.clear.new.self.flows ≡ replicate (length net.arcs) 0 =
    c.clear.ensures.flows ∙ ap (λ n. replicate n 0) c.requires.fits.count in
    subst (λ (xs : List ℕ). IsFlow net c.args.given.s.now c.args.given.t.now xs 0) (sym zeros)
    (zero_flow net c.args.given.s.now c.args.given.t.now)

pub returns-clause-rest : goal.returns-clause-rest
returns-clause-rest c =
    let net = c.args.given.net.now in let past : 5 * net.nodes ≤ work_cells net = omega arith in
    let cells = c.raise.new.cells in let behind = c.split_at_mut-cells.result.1.now in
    let packed = c.pack_behind.new.work in
    let same : drop (5 * net.nodes) (cells ++ behind) ≡ drop (5 * net.nodes) packed =
    drop_front (5 * net.nodes) cells behind (omega arith) ∙ c.split_at_mut-cells.ensures.back
    ∙ ap (λ (k : ℕ). drop (5 * k) packed) c.nodes.ensures.nodes in
    drop_farther (5 * net.nodes) (work_cells net) (cells ++ behind) packed past same ∙ c.pack_behind.ensures.rest
