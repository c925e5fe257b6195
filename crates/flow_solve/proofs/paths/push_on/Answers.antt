-- `push_on`: along the trail, from its end to where the search began.
use Rattle.std.proofs.Common.{◌≡◌, ℕ, ◌-◌, List, get_or, subst, sym, ap, ◌∙◌, arith}
use Rattle.flow_net.specs.Paths.{HasRoom, push_all}
use Rattle.flow_net.specs.Residual.{head_of, pushed}
use Rattle.flow_net.proofs.AugmentingPaths.{room_after}
use Rattle.flow_solve.specs.residual.Searches.{IsMarked}
use Rattle.flow_solve.specs.residual.Trails.{trail_from}
use Rattle.flow_solve.proofs.ResidualLemmas.Routes.{next_on, trail_apart}
use Rattle.flow_solve.proofs.paths.push_on.Goals as goal

-- there is room for the push
pub push-requires-clause-room : goal.push-requires-clause-room
push-requires-clause-room c =
    let old = c.loop-node.invariant in
    let n = next_on c.requires.trail.trails c.loop-node.node old.node.0 old.node.1 old.marked
    (omega (arith, c.loop-node-test.true)) in
    (subst (HasRoom c.args.trail.net.now c.loop-node.flow.flows c.args.amount) n.parts old.room).0

-- one more half-arc
pub loop-node-preserved : goal.loop-node-preserved
loop-node-preserved c =
    let old = c.loop-node.invariant in
    let net = c.args.trail.net.now in
    let dist = c.args.trail.dist.now in
    let via = c.args.trail.via.now in
    let d = c.args.amount in
    let half = get_or via (c.loop-node.node - 1) 0 in
    let n = next_on c.requires.trail.trails c.loop-node.node old.node.0 old.node.1 old.marked
    (omega (arith, c.loop-node-test.true)) in
    let to = c.head-node.ensures.head in let rest = trail_from net dist via (head_of net half) in
    let room = subst (HasRoom net c.loop-node.flow.flows d) n.parts old.room in
    let apart = trail_apart c.requires.trail.trails c.loop-node.node half rest old.node.0 old.node.1 old.marked n.parts
    in
    let level : get_or dist (c.head-node.result - 1) 0 ≡ get_or dist (head_of net half - 1) 0 =
    ap (λ v. get_or dist (v - 1) 0) to in
    record {
      fits = c.push.ensures.still_fits;
      node = c.head-node.ensures.node;
      marked = subst (λ v. IsMarked dist (v - 1)) (sym to) n.marked;
      ahead =
          let same : push_all c.loop-node.flow.flows (trail_from net dist via c.loop-node.node) d
          ≡ push_all (pushed c.loop-node.flow.flows half d) rest d =
          ap (λ (hs : List ℕ). push_all c.loop-node.flow.flows hs d) n.parts in
          ap (λ (v : ℕ). push_all c.push.new.self.flows (trail_from net dist via v) d) to
          ∙ ap (λ (ys : List ℕ). push_all ys rest d) c.push.ensures.flows ∙ sym same ∙ old.ahead;
      room =
          subst (λ (ys : List ℕ). HasRoom net ys d (trail_from net dist via c.head-node.result))
          (sym c.push.ensures.flows)
          (subst (λ (v : ℕ). HasRoom net (pushed c.loop-node.flow.flows half d) d (trail_from net dist via v))
          (sym to) (room_after net c.loop-node.flow.flows half d d rest apart room.1));
      steps = omega (arith, old.steps, c.push.ensures.steps, n.level, level);
    }
