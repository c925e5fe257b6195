-- `solve_lists`: the flow has a number for each place of the lists.
use Rattle.std.proofs.Common.{◌∙◌, ap, sym, length}
use Rattle.flow_c.proofs.ListLemmas.{arcs_of}
use Rattle.flow_c.proofs.solving.solve_lists.Goals as goal

pub copy_from_slice-requires : goal.copy_from_slice-requires
copy_from_slice-requires c =
    let count = arcs_of c.in_ok-network.network c.args.lent c.args.cap.now c.in_ok-network.ensures.network in
    c.if-flow-lent.false ∙ sym count ∙ sym c.in_ok-solved.ensures.solution.feasible.fits.count
    ∙ sym (ap length c.as_slice.ensures.value)
