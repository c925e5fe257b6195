-- `least_on`: the least on all half-arcs, once the last one is passed.
use Rattle.std.proofs.Common.{arith}
use Rattle.flow_solve.proofs.levels.walking.least_on.Goals as goal

pub returns-clause-filling : goal.returns-clause-filling
returns-clause-filling c =
    let found = c.loop-i.invariant.least in record {
      place = omega (arith, found.at);
      amount = found.here;
      least = λ j l. found.low j (omega (arith, l, c.loop-i-test.false));
      first = found.high;
    }
