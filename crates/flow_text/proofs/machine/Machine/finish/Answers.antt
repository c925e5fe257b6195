-- `finish`: the whole text has the fault of its lines, else that of its end, else none.
use Rattle.flow_text.proofs.EndLemmas.{closes-fine, closes-end, closes-refused}
use Rattle.flow_text.proofs.machine.Machine.finish.Goals as goal

-- neither a line nor the end has a fault
pub returns-in-None-clause-whole : goal.returns-in-None-clause-whole
returns-in-None-clause-whole g c = λ known_of adds b r.
    let final = rw (← c.self-2.view_is) at c.in-Ok.ensures known_of adds b r in
    (closes-fine g.J.Judge.rules known_of b _ c.self-2.inside.count final c.in-None.ensures, final.1)

-- the end has one
pub returns-in-Some-end_fault-clause-whole : goal.returns-in-Some-end_fault-clause-whole
returns-in-Some-end_fault-clause-whole g c = λ known_of adds b r.
    let final = rw (← c.self-2.view_is) at c.in-Ok.ensures known_of adds b r in
    rw c.read_fault.ensures (closes-end g.J.Judge.rules known_of b _ c.self-2.inside.count c.in-Some-end_fault.code
    final c.in-Some-end_fault.ensures)

-- a line had one, or memory was refused
pub returns-in-Err-clause-whole : goal.returns-in-Err-clause-whole
returns-in-Err-clause-whole g c = λ known_of adds b r.
    let fault = rw (← c.self-2.view_is) at c.in-Err.ensures known_of adds b r in
    rw c.read_fault-in-Err.ensures
    (closes-refused g.J.Judge.rules known_of b c.self-2.inside.count c.in-Err.refusal fault)
