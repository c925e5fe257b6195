-- `run`: all streams end as `answer` leaves them, but that of the errors, which takes the message.
use Rattle.std.proofs.Common.{[], refl, inl}
use Rattle.std.proofs.KnownBytes.{Appends-nil}
use Rattle.flow_tools.specs.streams.Streams.{over}
use Rattle.flow_tools.proofs.running.run.Goals as goal

pub returns-in-Ok : goal.returns-in-Ok
returns-in-Ok g c =
    let err = g.E.Output.state c.args.err.now in
    c.in-Ok.ensures (over err err) c.in-Ok.status ([], Appends-nil err.bytes, inl (refl, refl)) refl

pub returns-in-Err : goal.returns-in-Err
returns-in-Err g c =
    c.in-Err.ensures (over (g.E.Output.state c.args.err.now) (g.E.Output.state c.tell.new.err))
    c.status_of_stop.result c.tell.ensures c.status_of_stop.ensures
