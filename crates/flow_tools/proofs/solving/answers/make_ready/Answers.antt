-- `make_ready`: the table is made for what is solved, which has as many cells.
use Rattle.std.proofs.Common.{◌∙◌, length, ap, arith, subst}
use Rattle.std.proofs.lemmas.List.{with_items_is}
use Rattle.flow_net.specs.Nets.{Instance}
use Rattle.flow_net.specs.Flows.{Fits}
use Rattle.flow_tools.proofs.solving.ArrangedLemmas.{cells_of}
use Rattle.flow_tools.proofs.solving.answers.make_ready.Goals as goal

pub returns : goal.returns
returns c =
    let p = c.args.network.now in
    let same = c.in_ok-arranged.ensures in
    let work = c.arrange_if_scattered.new.work in
    let kept = c.arrange_if_scattered.auto.work in
    let held = with_items_is c.in_ok-work.work work (kept ∙ c.as_mut_slice.ensures.len) in
    let size = kept ∙ ap length c.as_mut_slice.ensures.value in
    let enough = rw c.net.ensures.net at c.in_ok-work.ensures.enough in
    record {
      same = same;
      fits =
          subst (λ n. Fits n c.in_ok-table.table.flows)
          (c.net-2.ensures.net ∙ ap (λ (o : Instance). o.net) c.lend_solved.ensures) c.in_ok-table.ensures.fits;
      cells = rw (held, cells_of p c.in_ok-arranged.arranged same) (omega (arith, size, enough));
    }
