-- `raise`: searches and pushes in turn, until the flow is worth what is wanted, or the nodes seen are a closed set.
use Rattle.std.proofs.Common.{◌≡◌, ◌∙◌, ℕ, List, ap, subst, true}
use Rattle.std.proofs.lemmas.Bool.{eqb-true}
use Rattle.flow_net.specs.NodeSets.{just}
use Rattle.flow_net.specs.Cuts.{IsCut}
use Rattle.flow_solve.specs.residual.HalfArcs.{IsClosedFor}
use Rattle.flow_solve.specs.Forests.{marked_in, seen_in}
use Rattle.flow_solve.proofs.ForestLemmas.Joined.{raised_parted, parted_reached}
use Rattle.flow_solve.proofs.ForestLemmas.Marks.{seen_apart}
use Rattle.flow_solve.proofs.forests.joining.raise.Goals as goal

-- the seen nodes are a closed cut, so the value is the number of its arcs
pub returns-then-joining-clause-least : goal.returns-then-joining-clause-least
returns-then-joining-clause-least c =
    let net = c.args.forest.ground.net.now in
    let dir = c.args.forest.ground.direction in
    let seen = c.search.new.joining.seen.now in
    let j = c.loop-value.invariant in
    let done = marked_in c.args.forest.done.now in
    let X = seen_in c.args.forest.done.now seen in
    let closed : IsClosedFor dir net c.loop-value.flow.flows X =
    subst (λ (z : List ℕ). IsClosedFor dir net z X) c.search.ensures.looks.flows
    c.in_ok-left.ensures.closed in
    let here : X c.args.node ≡ true = c.in_ok-left.ensures.seen in
    let cut : IsCut (just c.args.node) done X =
    record {
      sources = λ v h. ap X (eqb-true v c.args.node h) ∙ here;
      sinks = λ v d. seen_apart c.args.forest.done.now seen v d;
    } in
    record {
      reached =
          parted_reached dir net c.args.node c.args.forest.ground.root c.loop-value.value done X j.raised.node c.requires.root
          c.requires.done cut
          (raised_parted dir net c.args.node done c.loop-value.flow.flows c.loop-value.value X c.requires.limits
          c.requires.unit j.raised cut closed);
      fewer = j.below;
    }
