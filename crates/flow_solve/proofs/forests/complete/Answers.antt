-- `complete`: a node that as many arcs part from the forest is joined to it, and the forest grows on.
use Rattle.std.proofs.Common.{◌≡◌, ◌∙◌, ℕ, List, length, replicate, sym, ap, subst, true, arith}
use Rattle.std.proofs.lemmas.Bool.{eqb-true}
use Rattle.flow_net.specs.NodeSets.{just}
use Rattle.flow_net.specs.Flows.{IsFeasible}
use Rattle.flow_net.proofs.ZeroFlows.{zeros_feasible}
use Rattle.flow_solve.specs.Forests.{at_stage, marked_in}
use Rattle.flow_solve.proofs.ForestLemmas.Joined.{raised_below, balanced_more}
use Rattle.flow_solve.proofs.ForestLemmas.Marks.{mark_kept}
use Rattle.flow_solve.proofs.ForestLemmas.Taken.{facing_limits, facing_nodes, forest_joined, grove_more}
use Rattle.flow_solve.proofs.Payments.{paid_then}
use Rattle.flow_solve.proofs.forests.complete.Goals as goal

pub loop-front-init : goal.loop-front-init
loop-front-init c =
    let net = c.args.ground.net.now in
    let t = marked_in c.args.growth.done.now in
    let zeros : c.clear.new.self.flows ≡ replicate (length net.arcs) 0 =
    c.clear.ensures.flows ∙ ap (λ k. replicate k 0) c.requires.fits.count in
    record {
      fits = c.clear.ensures.still_fits net c.requires.fits;
      stand = record {
        limits = c.requires.stand.limits;
        root = c.requires.stand.root;
        firsts = c.requires.stand.firsts;
        size = c.requires.stand.size;
      };
      root = c.requires.done;
      balanced = subst (λ (z : List ℕ). IsFeasible net t t z) (sym zeros) (zeros_feasible net t t);
      least = record { reached = c.requires.reached; fewer = omega arith };
      forest =
          c.make_ready.ensures c.if-not-make_ready.false c.args.round.least.value c.args.round.count c.args.growth.done.now
          c.requires.forest;
      paid = record {
        never_lowered = omega (arith, c.clear.ensures.steps);
        left = omega arith;
        steps = omega (arith, c.clear.ensures.steps);
      };
    }

pub loop-front-preserved : goal.loop-front-preserved
loop-front-preserved c =
    let ground = at_stage c.args.ground true in
    let net = ground.net.now in
    let j = c.loop-front.invariant in
    let r = c.in_ok-least.ensures in
    let w = c.next_node-front.result.node in
    let old = c.loop-front.done in
    let new = c.grow_from-front.new.done in
    let reached = c.grow_from-front.ensures.grown.0 in
    let joined = c.grow_from-front.ensures.grown.1 in
    let g = c.grow_from-front.ensures.grown.2 in
    let here : (v : ℕ) → marked_in old v ≡ true → marked_in new v ≡ true =
    λ v h. g.more v (mark_kept w old reached v joined h) in
    let node : marked_in new w ≡ true = g.more w joined.here in
    record {
      fits = r.fits;
      stand = g.stand;
      root = here ground.root j.root;
      balanced = balanced_more net (just w) (marked_in old) (marked_in new) c.raise.new.flow.flows r.raised.feasible
          (λ v h. ap (marked_in new) (eqb-true v w h) ∙ node) here;
      least = record { reached = r.least.reached; fewer = omega (arith, j.least.fewer, r.least.fewer) };
      forest =
          g.forest c.in_ok-least.least.value c.args.round.count
          (forest_joined ground c.in_ok-least.least.value c.loop-front.least.value c.args.round.count w c.loop-front.rows old
          reached j.stand.limits joined
          (raised_below ground.direction net w (marked_in old) c.raise.new.flow.flows c.in_ok-least.least.value
          j.stand.limits c.requires.unit r.raised) r.least.fewer j.forest);
      paid = paid_then _ _ _ _ _ _ j.paid r.paid;
    }

pub returns-clause-grove : goal.returns-clause-grove
returns-clause-grove c =
    grove_more _ _ _ _ c.loop-front.least.value c.args.round.count c.loop-front.rows
    (facing_limits c.args.ground.direction c.args.ground.net.now c.loop-front.invariant.stand.limits) c.loop-front.done
    (λ more v l m. c.is_done.ensures c.if-not-is_done.false more v l
    (omega (arith, m, facing_nodes c.args.ground.direction c.args.ground.net.now)))
    c.loop-front.invariant.forest
