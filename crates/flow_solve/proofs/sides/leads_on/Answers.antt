-- `leads_on`: what the search has seen; its distances stand in front of the other cells.
use Rattle.std.proofs.Common.{ℕ, List, ◌++◌, nat_lt, subst, sym, arith}
use Rattle.std.proofs.lemmas.Bool.{ltb-true, ltb-false}
use Rattle.flow_solve.specs.residual.Searches.{seen}
use Rattle.flow_solve.specs.Sides.{IsLeastSide}
use Rattle.flow_solve.proofs.ResidualLemmas.Behind.{take_front}
use Rattle.flow_solve.proofs.ResidualLemmas.Searched.{some_seen}
use Rattle.flow_solve.proofs.SideLemmas.LeastSides.{least_side, greatest_unless}
use Rattle.flow_solve.proofs.ResidualLemmas.Routes.{has_route}
use Rattle.flow_solve.proofs.sides.leads_on.Goals as goal

pub returns-clause-answer : goal.returns-clause-answer
returns-clause-answer c =
    let net = c.args.task.packed.net.now in let xs = c.args.flow.now.flows in let order = c.in_order.ensures in
    let found = c.search-progress.ensures in
    let dist = c.search-progress.new.dist in
    let wanted = c.search-progress.result.wanted in
    greatest_unless c.args.direction dist (nat_lt 0 wanted) c.nodes-n.ensures.is_net c.requires.task.terminals
    c.requires.feasible (λ e.
    let p = some_seen c.in_order.result.1.now dist wanted found.count (ltb-true 0 wanted e) in
    let route = has_route c.args.direction c.in_order.result.1.now p.0 (omega arith) found.searched
    (omega (arith, p.1, found.searched.size)) p.2 p.3 in
    rw (order.starts, order.until) at route) (λ e.
    let none = ltb-false 0 wanted e in
    rw (order.starts, order.until) at (found.missed (omega (arith, none)) (omega arith)))

pub returns-clause-side : goal.returns-clause-side
returns-clause-side c = λ e.
    let net = c.args.task.packed.net.now in let xs = c.args.flow.now.flows in let order = c.in_order.ensures in
    let found = c.search-progress.ensures in let dist = c.search-progress.new.dist in
    let none = ltb-false 0 c.search-progress.result.wanted e in
    let missed = rw (order.starts, order.until) at (found.missed (omega (arith, none)) (omega arith)) in
    let front = take_front net.nodes dist
    (c.search-progress.new.via ++ (c.search-progress.new.queue ++ c.split_at_mut-queue.result.1.now))
    found.searched.size in
    subst (λ (ds : List ℕ). IsLeastSide c.args.direction net c.args.task.s.now c.args.task.t.now xs (seen ds))
    (sym front) (least_side c.args.direction net c.args.task.s.now c.args.task.t.now xs dist c.nodes-n.ensures.is_net
    c.requires.feasible missed)
