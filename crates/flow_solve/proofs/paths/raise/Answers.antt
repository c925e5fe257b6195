-- `raise`: the sources in turn; each augmentation raises the value, and a source from which none goes out any more
-- stays so.
use Rattle.std.proofs.Common.{◌<◌, ◌-◌, ◌+◌, length, arith, rules}
use Rattle.flow_net.specs.NodeSets.{one_of}
use Rattle.flow_net.proofs.NodeLists.{terminals_apart}
use Rattle.flow_solve.specs.residual.Searches.{seen}
use Rattle.flow_solve.specs.Bounds.{capacities}
use Rattle.flow_solve.proofs.ResidualLemmas.Routes.{searched_trails}
use Rattle.flow_solve.proofs.Raises.{raised_by, settled, value_most, capacities_fit, paid_more, paid_all}
use Rattle.flow_solve.proofs.paths.raise.Goals as goal

-- the search leaves the trail on which to augment
pub augment_along-requires-clause-trail : goal.augment_along-requires-clause-trail
augment_along-requires-clause-trail c =
    let found = c.in-Some.ensures in record {
      trails = rw found.looks.flows (searched_trails (omega arith) found.searched);
      node = search rules;
      marked = found.some.3;
    }

-- a value is at most the sum of the capacities, which fits
pub overflow_add-raised : goal.overflow_add-raised
overflow_add-raised c =
    let old = c.loop-source.invariant in
    let found = c.in-Some.ensures in
    let node = found.some in
    let net = c.args.task.packed.net.now in
    let now = raised_by c.augment_along.result c.in-Some.source old.flow (omega arith) found.searched node.0
    (node.1, omega (arith, node.2)) node.3 c.requires.task.terminals found.looks.flows c.augment_along.ensures.room
    c.augment_along.ensures.flows in
    let most = value_most net (one_of c.args.task.s.now) (one_of c.args.task.t.now) c.augment_along.new.flow.flows
    (c.loop-source.raised + c.augment_along.result) c.nodes-n.ensures.is_net
    (terminals_apart net c.args.task.s.now c.args.task.t.now c.requires.task.terminals) now.feasible now.value in
    let fit = capacities_fit net c.nodes-n.ensures.is_net in
    omega (arith, most, fit, c.from-raised.ensures)

-- the value rises
pub loop-source-smaller : goal.loop-source-smaller
loop-source-smaller c =
    let old = c.loop-source.invariant in
    let found = c.in-Some.ensures in
    let node = found.some in
    let net = c.args.task.packed.net.now in
    let now = raised_by c.augment_along.result c.in-Some.source old.flow (omega arith) found.searched node.0
    (node.1, omega (arith, node.2)) node.3 c.requires.task.terminals found.looks.flows c.augment_along.ensures.room
    c.augment_along.ensures.flows in
    let most = value_most net (one_of c.args.task.s.now) (one_of c.args.task.t.now) c.augment_along.new.flow.flows
    (c.loop-source.raised + c.augment_along.result) c.nodes-n.ensures.is_net
    (terminals_apart net c.args.task.s.now c.args.task.t.now c.requires.task.terminals) now.feasible now.value in
    let less : capacities net - (c.loop-source.raised + c.from-raised.result) < capacities net - c.loop-source.raised =
    omega (arith, most, c.augment_along.ensures.positive, c.from-raised.ensures) in
    less

-- after an augmentation
pub loop-source-preserved : goal.loop-source-preserved
loop-source-preserved c =
    let old = c.loop-source.invariant in
    let found = c.in-Some.ensures in
    let node = found.some in
    let net = c.args.task.packed.net.now in
    let now = raised_by c.augment_along.result c.in-Some.source old.flow (omega arith) found.searched node.0
    (node.1, omega (arith, node.2)) node.3 c.requires.task.terminals found.looks.flows c.augment_along.ensures.room
    c.augment_along.ensures.flows in
    record {
      flow = rw c.from-raised.ensures now;
      never_lowered =
          omega (arith, old.never_lowered, found.looks.never_lowered, c.augment_along.ensures.steps.never_lowered);
      steps =
          rw c.from-raised.ensures
          (paid_more c.args.flow.now.steps c.augment_along.new.flow.steps c.loop-source.raised c.augment_along.result
          net.nodes (length net.arcs) (omega (arith, old.steps, found.looks.steps, c.augment_along.ensures.steps.steps))
          c.augment_along.ensures.positive);
    }

-- a search that finds no way leaves a closed cut: the value is the greatest, and the cut's capacity the least
pub returns-clause-greatest : goal.returns-clause-greatest
returns-clause-greatest c =
    let old = c.loop-source.invariant in let found = c.in_default.ensures in
    let task = c.args.task in
    (settled task.packed.net.now task.s.now task.t.now c.loop-source.flow.flows (seen c.find_trail.new.dist)
    c.loop-source.raised c.nodes-n.ensures.is_net old.flow found.missed.whole found.missed.outside).0

pub returns-clause-least : goal.returns-clause-least
returns-clause-least c =
    let old = c.loop-source.invariant in let found = c.in_default.ensures in
    let task = c.args.task in
    (settled task.packed.net.now task.s.now task.t.now c.loop-source.flow.flows (seen c.find_trail.new.dist)
    c.loop-source.raised c.nodes-n.ensures.is_net old.flow found.missed.whole found.missed.outside).1

-- as many augmentations as the value, each with its looks and pushes
pub returns-clause-steps : goal.returns-clause-steps
returns-clause-steps c =
    let old = c.loop-source.invariant in let found = c.in_default.ensures in let net = c.args.task.packed.net.now in
    let s = c.args.task.s.now in let t = c.args.task.t.now in
    record {
      never_lowered = omega (arith, old.never_lowered, found.looks.never_lowered);
      steps =
          let paid = paid_all net c.args.flow.now.steps c.find_trail.new.flow.steps c.loop-source.raised
          c.nodes-n.ensures.is_net
          (value_most net (one_of s) (one_of t) c.loop-source.flow.flows c.loop-source.raised c.nodes-n.ensures.is_net
          (terminals_apart net s t c.requires.task.terminals) old.flow.feasible old.flow.value)
          (omega (arith, old.steps, found.looks.steps)) in
          omega (arith, paid);
    }
