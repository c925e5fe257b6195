-- The places list each arc once.
use Rattle.std.proofs.Common.{arith}
use Rattle.flow_tools.proofs.checking.Shares.{places_listed}
use Rattle.flow_tools.proofs.checking.sharing.arc_places.Goals as goal

pub returns : goal.returns
returns c =
    places_listed c.args.net.now c.loop-arc.places.items c.len.ensures.is_net
    (omega (arith, c.loop-arc.invariant.0, c.len-arc-end.ensures.len))
    (λ k d l. c.loop-arc.invariant.1 k d (omega (arith, c.len-arc-end.ensures.len)))
