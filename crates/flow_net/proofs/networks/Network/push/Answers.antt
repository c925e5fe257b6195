-- `push`: the arc stands behind the others.
use Rattle.std.proofs.Common.{[], ◌∷◌, ◌++◌, ◌∙◌, ap}
use Rattle.flow_net.proofs.networks.Network.push.Goals as goal

pub returns-clause-ok : goal.returns-clause-ok
returns-clause-ok c =
    let more = c.push_reserved.ensures.items ∙ ap (λ xs. xs ++ c.args.arc ∷ []) c.reserve.ensures.items in
    ap (λ xs. record { nodes = c.self.inside.nodes; arcs = xs }) more
    ∙ ap (λ n. record { nodes = n.nodes; arcs = n.arcs ++ c.args.arc ∷ [] }) c.self.view_is
