-- What `cut` finds: a solution and a cut of what is solved, read as those of the network.
use Rattle.std.proofs.Common.{◌∙◌, length, ap, subst}
use Rattle.std.proofs.lemmas.List.{with_items_is}
use Rattle.flow_net.specs.Nets.{Instance}
use Rattle.flow_tools.specs.solving.Solutions.{IsSolution, IsMarkedCut, is_sink}
use Rattle.flow_tools.proofs.solving.ArrangedLemmas.{spots_of, names_of, solution_of, cut_of, count_of}
use Rattle.flow_tools.proofs.solving.answers.cut.Goals as goal

pub read_side-requires : goal.read_side-requires
read_side-requires c =
    let side = c.find_cut-value.new.side in
    let same = c.find_cut-value.auto.side in
    names_of c.args.network c.in_ok-table.field-0.arranged _ c.in_ok-table.ensures.same
    (ap length (with_items_is c.in_ok-side.side side (same ∙ c.as_mut_slice-marks.ensures.len)) ∙ same
    ∙ ap length c.as_mut_slice-marks.ensures.value ∙ c.in_ok-side.ensures.len ∙ c.nodes.ensures.nodes
    ∙ ap (λ net. net.nodes) c.net.ensures.net)

pub read_flows-requires : goal.read_flows-requires
read_flows-requires c =
    spots_of c.args.network c.in_ok-table.field-0.arranged (length c.into_flows.result.items) c.in_ok-table.ensures.same
    (ap length c.into_flows.ensures ∙ c.find_cut-value.ensures.solution.feasible.fits.count
    ∙ ap (λ (o : Instance). length o.net.arcs) c.lend_solved-solved.ensures)

pub returns-clause-solution : goal.returns-clause-solution
returns-clause-solution c =
    let value = c.find_cut-value.result in
    let flows = c.find_cut-value.new.table.flows in
    rw (c.in_ok-flows.ensures, c.into_flows.ensures)
    (solution_of c.args.network c.in_ok-table.field-0.arranged value flows c.in_ok-table.ensures.same
    (subst (λ o. IsSolution o value flows) c.lend_solved-solved.ensures c.find_cut-value.ensures.solution))

pub returns-clause-cut : goal.returns-clause-cut
returns-clause-cut c =
    let value = c.find_cut-value.result in
    let side = c.find_cut-value.new.side in
    let held = with_items_is c.in_ok-side.side side (c.find_cut-value.auto.side ∙ c.as_mut_slice-marks.ensures.len) in
    let sink = is_sink c.args.nearest in
    rw (c.in_ok-side-2.ensures, held)
    (cut_of c.args.network c.in_ok-table.field-0.arranged sink value side c.in_ok-table.ensures.same
    (subst (λ o. IsMarkedCut o sink value side) c.lend_solved-solved.ensures c.find_cut-value.ensures.cut))

pub returns-clause-count : goal.returns-clause-count
returns-clause-count c =
    let side = c.find_cut-value.new.side in
    let same = c.find_cut-value.auto.side in
    let held = with_items_is c.in_ok-side.side side (same ∙ c.as_mut_slice-marks.ensures.len) in
    rw (c.in_ok-side-2.ensures, held)
    (count_of c.args.network c.in_ok-table.field-0.arranged side c.in_ok-table.ensures.same
    (same ∙ ap length c.as_mut_slice-marks.ensures.value ∙ c.in_ok-side.ensures.len ∙ c.nodes.ensures.nodes
    ∙ ap (λ net. net.nodes) c.net.ensures.net))
