-- `is_empty`: a list is empty just where its length is 0.
use Rattle.std.proofs.Common.{length, sym, ◌∙◌, ap}
use Rattle.std.proofs.lemmas.Bool.{eqb-true, eq-eqb}
use Rattle.std.proofs.lemmas.List.{nil_from_length}
use Rattle.flow_net.proofs.networks.Network.is_empty.Goals as goal

pub returns : goal.returns
returns c =
    let arcs = ap (λ n. n.arcs) c.self.view_is in
    let len = c.self.inside.arcs.ok.0 in (
      λ t. sym arcs ∙ nil_from_length _ (sym len ∙ eqb-true _ 0 (sym c.is_empty.ensures ∙ t)),
      λ e. c.is_empty.ensures ∙ eq-eqb _ 0 (len ∙ ap length (arcs ∙ e)),
    )
