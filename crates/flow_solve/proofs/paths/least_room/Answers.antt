-- `least_room`: along the trail, from its end to where the search began.
use Rattle.std.proofs.Common.{◌≡◌, ◌-◌, get_or, subst, sym, ap, ◌∙◌, arith}
use Rattle.flow_net.specs.Paths.{HasRoom}
use Rattle.flow_net.specs.Residual.{head_of, residual}
use Rattle.flow_solve.specs.residual.Searches.{IsMarked}
use Rattle.flow_solve.specs.residual.Trails.{trail_from}
use Rattle.flow_solve.proofs.ResidualLemmas.Routes.{next_on}
use Rattle.flow_solve.proofs.paths.least_room.Goals as goal

-- one more half-arc
pub loop-node-preserved : goal.loop-node-preserved
loop-node-preserved c =
    let old = c.loop-node.invariant in
    let net = c.args.trail.net.now in
    let dist = c.args.trail.dist.now in
    let via = c.args.trail.via.now in
    let xs = c.args.flow.now.flows in
    let half = get_or via (c.loop-node.node - 1) 0 in
    let n = next_on c.requires.trail.trails c.loop-node.node old.node.0 old.node.1 old.marked
    (omega (arith, c.loop-node-test.true)) in
    let to = c.look-next.ensures.head in
    let here : residual net c.loop-node.flow.flows half ≡ residual net xs half =
    ap (λ ys. residual net ys half) old.flows in
    let level : get_or dist (c.look-next.result.0 - 1) 0 ≡ get_or dist (head_of net half - 1) 0 =
    ap (λ v. get_or dist (v - 1) 0) to in
    record {
      fits = c.look-next.ensures.still_fits;
      flows = c.look-next.ensures.flows ∙ old.flows;
      node = c.look-next.ensures.is_node;
      marked = subst (λ v. IsMarked dist (v - 1)) (sym to) n.marked;
      ahead = λ k l r.
          old.ahead k (omega (arith, l, c.min-least.ensures))
          (subst (HasRoom net xs k) (sym n.parts) (
            omega (arith, l, c.min-least.ensures, c.look-next.ensures.residual, here),
            subst (λ v. HasRoom net xs k (trail_from net dist via v)) to r,
          ));
      most = λ k f r.
          let now = old.most k f r in let parts = subst (HasRoom net xs k) n.parts now.1 in (
            omega (arith, now.0, parts.0, c.min-least.ensures, c.look-next.ensures.residual, here),
            subst (λ v. HasRoom net xs k (trail_from net dist via v)) (sym to) parts.1,
          );
      positive = omega (arith, old.positive, n.remains, here, c.look-next.ensures.residual, c.min-least.ensures);
      steps = omega (arith, old.steps, c.look-next.ensures.steps, n.level, level);
    }

-- at the beginning of the search the trail is empty, so no greater amount has room
pub returns-clause-most : goal.returns-clause-most
returns-clause-most c = λ d f r. (c.loop-node.invariant.most d f r).0
