-- `search`: a search goes on from node to node.
use Rattle.flow_solve.proofs.Payments.{looked_fits, looks_then}
use Rattle.flow_solve.proofs.forests.joining.search.Goals as goal

pub queue-preserved : goal.queue-preserved
queue-preserved c =
    let j = c.queue.invariant in
    let now = c.search_from.ensures in
    record {
      fits = looked_fits _ _ _ _ _ now.looks j.fits;
      looks = looks_then _ _ _ _ _ _ j.looks now.looks;
    }
