-- `first_seen`: the nodes of the list in turn.
use Rattle.std.proofs.Common.{◌≡◌, false, get_or, subst, arith}
use Rattle.flow_solve.specs.residual.Searches.{seen}
use Rattle.flow_net.proofs.NodeLists.{place_in}
use Rattle.flow_solve.proofs.ResidualLemmas.Searched.{unmarked_unseen}
use Rattle.flow_solve.proofs.paths.first_seen.Goals as goal

-- none is
pub returns-clause-none : goal.returns-clause-none
returns-clause-none c = λ v i.
    let p = place_in c.args.nodes.now v i in let node = c.requires p.0 0 p.1 in
    subst (λ w. seen c.args.dist.now w ≡ false) p.2 (unmarked_unseen c.args.dist.now (get_or c.args.nodes.now p.0 0)
    node.0 (c.loop-node.invariant p.0 (omega (arith, p.1))))
