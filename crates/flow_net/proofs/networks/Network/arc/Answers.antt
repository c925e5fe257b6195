-- `arc`: what is read there.
use Rattle.std.proofs.Common.{◌<◌, length, Some, sym, ◌∙◌, ap, subst}
use Rattle.std.proofs.lemmas.List.{get_or_read}
use Rattle.std.proofs.lemmas.Option.{slice_get-get_or}
use Rattle.flow_net.specs.Arcs.{no_arc}
use Rattle.flow_net.specs.Nets.{Net, arc_at}
use Rattle.flow_net.proofs.networks.Network.arc.Goals as goal

pub returns-clause-arc : goal.returns-clause-arc
returns-clause-arc c =
    let HasPlace : Net → Type 0 = λ n. c.args.i < length n.arcs in
    let within = subst HasPlace (sym c.self.view_is) c.requires in
    get_or_read c.self.inside.arcs.items c.args.i _ within c.index.ensures no_arc
    ∙ ap (λ n. arc_at n c.args.i) c.self.view_is

pub returns-clause-found : goal.returns-clause-found
returns-clause-found c =
    slice_get-get_or c.args.self.now.arcs c.args.i no_arc c.requires ∙ ap Some (sym (returns-clause-arc c))
