-- `cut_lists`: the flow has a number for each place of the lists.
use Rattle.std.proofs.Common.{◌∙◌, ap, map, sym, length}
use Rattle.flow_c.specs.Lists.{bit}
use Rattle.flow_c.proofs.ListLemmas.{arcs_of}
use Rattle.flow_c.proofs.solving.cut_lists.Goals as goal

pub copy_from_slice-requires : goal.copy_from_slice-requires
copy_from_slice-requires c =
    let count = arcs_of c.in_ok-network.network c.args.lent c.args.cap.now c.in_ok-network.ensures.network in
    c.if-flow-lent.false ∙ sym count ∙ sym c.in_ok-found.ensures.solution.feasible.fits.count
    ∙ sym (ap length c.as_slice.ensures.value)

pub returns-clause-ok : goal.returns-clause-ok
returns-clause-ok c =
    let found = rw c.in_ok-network.ensures.network at c.in_ok-found.ensures in (
      rw (c.copy_from_slice.ensures.after ∙ c.as_slice.ensures.value) found.solution,
      (
        c.in_ok-found.found.side.items,
        c.write_marks.ensures ∙ ap (map bit) c.as_slice-2.ensures.value,
        found.cut,
        found.count,
      ),
    )
