-- The circle of nodes: each turn takes the pair of a node and the next, and after the last every set has been met,
-- since a set that is neither empty nor all has a node inside whose next is outside.
use Rattle.std.proofs.Common.{◌≤◌, inr, refl, arith}
use Rattle.std.proofs.Math.Nat.{min-le_left, min-le_right}
use Rattle.flow_net.proofs.Complements.{lesser_proper}
use Rattle.flow_tools.proofs.connecting.CircleLemmas.{pair_is_proper, round_on, connected_around, around_steps}
use Rattle.flow_tools.proofs.connecting.least_around.Goals as goal

pub loop-v-preserved : goal.loop-v-preserved
loop-v-preserved g c =
    let j = c.loop-v.invariant in
    let net = c.args.net.now in
    let v = c.loop-v.v in
    let before = c.loop-v.before in
    let old = c.loop-v.least in
    let value = c.pair_value-value.result in
    let new = c.min-least.result in
    let e = c.min-least.ensures in
    let low : new ≤ old = omega (arith, e, min-le_left old value) in
    let lower : new ≤ value = omega (arith, e, min-le_right old value) in
    let p = c.pair_value-value.ensures.pair in
    record {
      end = j.end;
      place = inr refl;
      cells = omega arith;
      fits = c.pair_value-value.ensures.still_fits;
      reached =
          lesser_proper net old value new e j.reached
          (pair_is_proper net before v value j.node (omega arith, omega arith) p);
      node = (omega arith, omega arith);
      round = round_on net new old before v value low lower j.round p;
      rises = omega arith;
      steps =
          around_steps c.args.flow.now.steps c.loop-v.flow.steps c.pair_value-value.new.flow.steps v _ (omega arith)
          j.steps c.pair_value-value.ensures.steps;
    }

pub returns-clause-connectivity : goal.returns-clause-connectivity
returns-clause-connectivity g c =
    let j = c.loop-v.invariant in
    connected_around c.args.net.now c.loop-v.least c.loop-v.before c.loop-v.v (omega (arith, j.place))
    (omega arith) j.reached j.round
