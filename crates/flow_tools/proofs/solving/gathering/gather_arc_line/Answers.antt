-- `gather_arc_line`: the line of the arc waits behind what waited, unless a put failed.
use Rattle.flow_tools.proofs.streams.SendLemmas.{gathered_with, gathered_stops}
use Rattle.flow_tools.proofs.solving.gathering.gather_arc_line.Goals as goal

pub returns-in_err-put_if_full : goal.returns-in_err-put_if_full
returns-in_err-put_if_full g c =
    gathered_stops _ _ _ _ _ _ c.from_residual.result c.from_residual.ensures.0 c.in_err-put_if_full.ensures.gathered

pub returns : goal.returns
returns g c = rw c.push_arc_line.ensures (gathered_with _ _ _ _ _ _ c.in_ok-put_if_full.ensures.gathered)
