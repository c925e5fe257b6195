-- `least_degree`: the least degree is reached by the set of one node, or of all the others, and is at most the degrees
-- of each node.
use Rattle.std.proofs.Common.{◌-◌, arith}
use Rattle.std.proofs.Math.Nat.{min-le_left, min-le_right}
use Rattle.flow_solve.proofs.ForestLemmas.Degrees.{degree_at, degree_into, out_proper, into_proper}
use Rattle.flow_net.proofs.Complements.{lesser_proper}
use Rattle.flow_solve.proofs.forests.degrees.least_degree.Goals as goal

pub returns-clause-reached : goal.returns-clause-reached
returns-clause-reached c =
    let net = c.args.net.now in
    let counted = c.count_degrees in
    let o = c.least_of-leaving.ensures.found in
    let i = c.least_of-entering.ensures.found in
    let n = c.nodes-n.ensures.is_net in
    lesser_proper net c.least_of-leaving.result c.least_of-entering.result c.min.result c.min.ensures
    (out_proper net counted.new.out counted.new.into o.0 c.least_of-leaving.result n (omega (arith, o.1))
    counted.ensures o.2)
    (into_proper net counted.new.out counted.new.into i.0 c.least_of-entering.result n (omega (arith, i.1))
    counted.ensures i.2)

pub returns-clause-least : goal.returns-clause-least
returns-clause-least c = λ v at.
    let low = at.0 in
    let high = at.1 in
    let counted = c.count_degrees in
    let here = c.least_of-leaving.ensures.least (v - 1) (omega arith) in
    omega (
      arith,
      here,
      degree_at c.args.net.now v counted.new.out counted.new.into at counted.ensures,
      c.min.ensures,
      min-le_left c.least_of-leaving.result c.least_of-entering.result,
    )

pub returns-clause-least_entering : goal.returns-clause-least_entering
returns-clause-least_entering c = λ v at.
    let low = at.0 in
    let high = at.1 in
    let counted = c.count_degrees in
    let here = c.least_of-entering.ensures.least (v - 1) (omega arith) in
    omega (
      arith,
      here,
      degree_into c.args.net.now v counted.new.out counted.new.into at counted.ensures,
      c.min.ensures,
      min-le_right c.least_of-leaving.result c.least_of-entering.result,
    )
