-- `set_units`: the next arc gets its capacity.
use Rattle.std.proofs.Common.{◌<◌, length, rules}
use Rattle.std.proofs.lemmas.List.{get_or_default}
use Rattle.std.proofs.lemmas.List.Edits.{map_over_more}
use Rattle.flow_net.specs.Arcs.{no_arc}
use Rattle.flow_net.specs.DerivedNets.{unit_arc}
use Rattle.flow_net.proofs.networks.set_units.Goals as goal

pub loop-arc-preserved : goal.loop-arc-preserved
loop-arc-preserved c =
    let ys = c.loop-arc.arc-items in let i = c.loop-arc.arc-index in
    let here : i < length ys = search rules in
    let within : i < length c.args.arcs.now.items = search rules in
    map_over_more unit_arc c.args.arcs.now.items ys i _ within c.loop-arc.invariant
    (get_or_default ys i no_arc _ here)
