-- `len`: a `Vec` is as long as its list.
use Rattle.std.proofs.Common.{length, ◌∙◌, ap}
use Rattle.flow_net.proofs.networks.Network.len.Goals as goal

pub returns-clause-len : goal.returns-clause-len
returns-clause-len c = c.len.ensures ∙ c.self.inside.arcs.ok.0 ∙ ap (λ n. length n.arcs) c.self.view_is
