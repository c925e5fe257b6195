-- `connectivity_by_forests`: forests one way where that is enough, and else both ways.
use Rattle.std.proofs.Common.{arith}
use Rattle.flow_solve.proofs.ForestLemmas.Taken.{connected_once, connected_twice}
use Rattle.flow_solve.proofs.forests.connectivity_by_forests.Goals as goal

pub returns-then-is_balanced-clause-connectivity : goal.returns-then-is_balanced-clause-connectivity
returns-then-is_balanced-clause-connectivity c =
    let r = c.in_ok-forth.ensures in
    connected_once c.args.net.now 1 c.in_ok-forth.forth.value r.least.reached
    (c.are_balanced-is_balanced.ensures.balanced c.if-is_balanced.true) r.above

-- what was shown one way holds of a lesser number too
pub returns-clause-connectivity : goal.returns-clause-connectivity
returns-clause-connectivity c =
    let r = c.in_ok-forth.ensures in
    let s = c.in_ok-back.ensures in
    connected_twice c.args.net.now 1 c.in_ok-back.back.value s.least.reached
    (λ Y v n i o. omega (arith, r.above Y v n i o, s.least.fewer)) s.above
