-- `leads_on_packed`: the first cells of all are the first of those in which the search works.
use Rattle.std.proofs.Common.{◌≡◌, ℕ, List, ◌++◌, ◌*◌, ◌≤◌, length, drop, take, subst, sym, ap, ◌∙◌, arith}
use Rattle.std.proofs.lemmas.List.{take-append-le}
use Rattle.flow_solve.specs.Bounds.{work_cells}
use Rattle.flow_solve.specs.residual.Searches.{seen}
use Rattle.flow_solve.specs.Sides.{IsLeastSide}
use Rattle.flow_solve.proofs.ResidualLemmas.Behind.{drop_farther, drop_front}
use Rattle.flow_solve.proofs.sides.leads_on_packed.Goals as goal

pub returns-clause-side : goal.returns-clause-side
returns-clause-side c = λ e.
    let given = c.args.given in let net = given.net.now in
    let cells = c.leads_on.new.cells in let behind = c.split_at_mut-cells.result.1.now in
    let front : take net.nodes (cells ++ behind) ≡ take net.nodes cells =
    take-append-le net.nodes cells behind (omega arith) in
    subst (λ (zs : List ℕ). IsLeastSide c.args.direction net given.s.now given.t.now c.args.flow.now.flows (seen zs))
    (sym front) (c.leads_on.ensures.side e)

-- the cells past those of a solver stay, as all do behind the first 5·n
pub returns-clause-rest : goal.returns-clause-rest
returns-clause-rest c =
    let net = c.args.given.net.now in let past : 5 * net.nodes ≤ work_cells net = omega arith in
    let cells = c.leads_on.new.cells in let behind = c.split_at_mut-cells.result.1.now in
    let size : length cells ≡ 5 * net.nodes = omega arith in
    let same : drop (5 * net.nodes) (cells ++ behind) ≡ drop (5 * net.nodes) c.args.work.now =
    drop_front (5 * net.nodes) cells behind size ∙ c.split_at_mut-cells.ensures.back
    ∙ ap (λ (k : ℕ). drop (5 * k) c.args.work.now) c.nodes-n.ensures.nodes in
    drop_farther (5 * net.nodes) (work_cells net) (cells ++ behind) c.args.work.now past same
