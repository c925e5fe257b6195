-- `least_cut`: where the forests aren't done, their steps and those round the circle are within the bound of both.
use Rattle.std.proofs.Common.{inl, inr, arith}
use Rattle.flow_tools.proofs.connecting.CircleLemmas.{both_steps}
use Rattle.flow_tools.proofs.connecting.least_cut.Goals.{then-nodes-gt2, else-nodes-gt2}
use Rattle.flow_tools.proofs.connecting.least_cut.Goals as goal

pub returns-clause-steps : goal.returns-clause-steps
returns-clause-steps g c =
    let net = c.args.net.now in
    let few = both_steps net.nodes (g.M.Method.steps_bound net) c.if-nodes-gt2.spare c.nodes.ensures.is_net.nodes_least
    (elim c.if-nodes-gt2.branch [
      | then-nodes-gt2 w ↦ inr (omega arith, omega (arith, w.spare-is, w.spare_steps-spare.ensures))
      | else-nodes-gt2 w ↦ inl w.spare-is
    ]) in
    omega (arith, few, c.connectivity_by_forests.ensures.steps, c.least_around.ensures.steps)
