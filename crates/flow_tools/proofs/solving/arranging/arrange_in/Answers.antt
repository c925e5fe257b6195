-- `arrange_in`: the names were tested, and the network is an arrangement of the copy by them.
use Rattle.std.proofs.Common.{◌∙◌, refl}
use Rattle.std.proofs.lemmas.List.{with_items_is}
use Rattle.flow_tools.proofs.solving.ArrangedLemmas.{copy_terminals, arranged_in}
use Rattle.flow_tools.proofs.solving.arranging.arrange_in.Goals as goal

pub new-requires : goal.new-requires
new-requires c =
    let p = c.args.network.now in
    let is = c.net-net.ensures.net in
    let names = c.name_nodes.new.names in
    let nodes = c.name_nodes.new.nodes in
    let held = with_items_is c.args.room.names names (c.name_nodes.auto.names ∙ c.as_mut_slice.ensures.len) in
    let inverse = c.if-not-name_nodes.ensures refl in
    let first = c.as_slice.ensures.value ∙ held in
    let second = c.as_slice-2.ensures.value ∙ held in
    let third = c.as_slice-3.ensures.value ∙ held in
    copy_terminals p c.in_ok-copy.copy names nodes c.arrange.new.spots c.rename_all.new.vs.items
    c.rename_all-2.new.vs.items c.net-net.ensures.terminals (rw (← is) inverse)
    (rw (← is) (c.in_ok-copy.ensures nodes (rw first inverse)))
    (c.rename_all.ensures ∙ rw (second, c.requires.room.sources) refl)
    (c.rename_all-2.ensures ∙ rw (third, c.requires.room.sinks) refl)

pub returns : goal.returns
returns c =
    let p = c.args.network.now in
    let is = c.net-net.ensures.net in
    let names = c.name_nodes.new.names in
    let nodes = c.name_nodes.new.nodes in
    let spots = c.arrange.new.spots in
    let held = with_items_is c.args.room.names names (c.name_nodes.auto.names ∙ c.as_mut_slice.ensures.len) in
    let told = with_items_is c.args.room.spots spots (c.arrange.auto.spots ∙ c.as_mut_slice-2.ensures.len) in
    let inverse = c.if-not-name_nodes.ensures refl in
    let first = c.as_slice.ensures.value ∙ held in
    let second = c.as_slice-2.ensures.value ∙ held in
    let third = c.as_slice-3.ensures.value ∙ held in
    arranged_in p _ c.in_ok-copy.copy names nodes spots c.rename_all.new.vs.items c.rename_all-2.new.vs.items
    c.net-net.ensures.terminals c.nodes-3.ensures.is_net (rw (← is) inverse)
    (rw (← is) (c.in_ok-copy.ensures nodes (rw first inverse)))
    (c.rename_all.ensures ∙ rw (second, c.requires.room.sources) refl)
    (c.rename_all-2.ensures ∙ rw (third, c.requires.room.sinks) refl) c.new.ensures held told
