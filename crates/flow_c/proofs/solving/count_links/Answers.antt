-- `count_links`: there are no more arcs than have room with their reverses.
use Rattle.std.proofs.Common.{◌≡◌, length, arith}
use Rattle.std.proofs.lemmas.List.{length-replicate}
use Rattle.flow_c.specs.Lists.{ones}
use Rattle.flow_c.proofs.ListLemmas.{arcs_of, passed_on}
use Rattle.flow_c.proofs.FaultLemmas.{reason_more}
use Rattle.flow_c.proofs.solving.count_links.Goals as goal

pub edge_connectivity-requires : goal.edge_connectivity-requires
edge_connectivity-requires c =
    let src = c.args.lent.src.now in
    let count = arcs_of c.in_ok-network.network c.args.lent (ones src) c.in_ok-network.ensures.network in
    let few = c.if-lent.false in omega (arith, count, few)

pub returns-in_err-network-clause-refused : goal.returns-in_err-network-clause-refused
returns-in_err-network-clause-refused c =
    let src = c.args.lent.src.now in
    let count : length (ones src) ≡ length src = length-replicate (length src) 1 in
    passed_on _ _ _ _ c.from_residual.ensures.1
    (reason_more _ _ _ _ _ _ _ _ (λ l. let few = l.0 in (omega (arith, few), l.1, count))
    (c.if-lent.false, c.if-lent-2.false) c.in_err-network.ensures.refused)

pub returns-clause-ok : goal.returns-clause-ok
returns-clause-ok c = rw (c.in_ok-network.ensures.network) at c.in_ok-links.ensures
