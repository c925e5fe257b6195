-- What was taken so far, and the rest, are the bytes to put; each put that takes some leaves a shorter rest.
use Rattle.std.proofs.Common.{◌≡◌, length}
use Rattle.flow_tools.proofs.streams.sending.put_all.Given as goal
use Rattle.flow_tools.specs.streams.Sending.{Sends}

abbrev pub invariant-loop-rest : goal.invariant-loop-rest
invariant-loop-rest g l =
    (Sends (g.O.Output.state l.initial.out).bytes (g.O.Output.state l.out).bytes l.rest l.bytes)
    × ((g.O.Output.state l.out).failed ≡ (g.O.Output.state l.initial.out).failed)

abbrev pub decreases-loop-rest : goal.decreases-loop-rest
decreases-loop-rest g l = length l.rest
