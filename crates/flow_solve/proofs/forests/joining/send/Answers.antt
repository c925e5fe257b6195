-- `send`: a unit has gone the whole way once the push has come back to the node.
use Rattle.std.proofs.Common.{◌≡◌, ◌≤◌, ◌<◌, ◌*◌, ◌∙◌, length, sym, ap, subst, ℕ, List, arith}
use Rattle.flow_net.specs.NodeSets.{just}
use Rattle.flow_net.specs.Residual.{pushed, residual}
use Rattle.flow_solve.specs.residual.HalfArcs.{near_end}
use Rattle.flow_solve.specs.Forests.{marked_in}
use Rattle.flow_solve.proofs.ForestLemmas.Joined.{IsUnderWay, way_begins, way_back, way_ends}
use Rattle.flow_solve.proofs.forests.joining.send.Goals as goal

pub loop-at-init : goal.loop-at-init
loop-at-init c = record {
  fits = c.requires.fits;
  at_node = c.far-at.ensures.node;
  under_way = λ f. way_begins _ _ _ _ _ c.args.forest.ground.direction f;
  paid = record { never_lowered = omega arith; left = omega arith; steps = omega arith };
}

pub loop-at-preserved : goal.loop-at-preserved
loop-at-preserved c =
    let net = c.args.forest.ground.net.now in
    let dir = c.args.forest.ground.direction in
    let s = just c.args.node in
    let t = marked_in c.args.forest.done.now in
    let xs = c.args.flow.now.flows in
    let x = c.far-at.result in
    let half = c.loop-at.half in
    let j = c.loop-at.invariant in
    let room : 1 ≤ residual net c.loop-at.flow.flows half =
    omega (arith, c.look-room.ensures.residual, c.if-room-eq0.false) in
    let within : half < 2 * length net.arcs = omega (arith, c.if-half-len.false, c.len-else-left-lt2.ensures.len) in
    let same : c.push.new.self.flows ≡ pushed c.loop-at.flow.flows half 1 =
    c.push.ensures.flows ∙ ap (λ (z : List ℕ). pushed z half 1) c.look-room.ensures.flows in
    record {
      fits = c.push.ensures.still_fits;
      at_node = c.near-at.ensures.node;
      under_way = λ f.
          subst (λ z. IsUnderWay dir net s t xs z x c.push.new.self.flows) (sym c.near-at.ensures.near)
          (subst (λ (z : List ℕ). IsUnderWay dir net s t xs (near_end dir net half) x z) (sym same)
          (way_back net s t xs x dir c.loop-at.at half c.loop-at.flow.flows within room
          (sym c.far.ensures.far ∙ c.if-far-at.false) (j.under_way f)));
      paid = record {
        never_lowered = omega (arith, j.paid.never_lowered, c.look-room.ensures.steps, c.push.ensures.steps);
        left = omega (arith, j.paid.left);
        steps = omega (arith, j.paid.steps, c.look-room.ensures.steps, c.push.ensures.steps, c.if-left-lt2.false);
      };
    }

pub returns-clause-raised : goal.returns-clause-raised
returns-clause-raised c = λ value r.
    let net = c.args.forest.ground.net.now in
    let dir = c.args.forest.ground.direction in
    let t = marked_in c.args.forest.done.now in
    let xs = c.args.flow.now.flows in
    let x = c.far-at.result in
    way_ends dir net c.args.node x t xs c.loop-at.flow.flows value c.requires.apart
    (sym c.is_marked.ensures ∙ c.if-not-is_marked.false) r
    (subst (λ z. IsUnderWay dir net (just c.args.node) t xs z x c.loop-at.flow.flows) c.loop-at-test.false
    (c.loop-at.invariant.under_way r.feasible))
