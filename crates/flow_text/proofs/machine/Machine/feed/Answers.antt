use Rattle.std.proofs.Common.{refl}
use Rattle.flow_text.proofs.EndLemmas.{tells-from}
use Rattle.flow_text.proofs.machine.Machine.feed.Goals as goal

pub returns-in-Err-clause-fed : goal.returns-in-Err-clause-fed
returns-in-Err-clause-fed g c = λ known_of adds b r.
    let fault = rw (← c.self-2.view_is) at c.in-Err.ensures known_of adds b r in
    (rw c.read_fault-fault.ensures (tells-from c.self-2.inside.count c.in-Err.refusal _ fault), refl)
