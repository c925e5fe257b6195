-- `grow`: one turn after the other (`Taken`).
use Rattle.std.proofs.Common.{arith}
use Rattle.flow_solve.proofs.ForestLemmas.Taken.{grown_on}
use Rattle.flow_solve.proofs.forests.growing.grow.Goals as goal

pub loop-front-preserved-in-Some : goal.loop-front-preserved-in-Some
loop-front-preserved-in-Some c =
    let j = c.loop-front.invariant in
    let front = c.come_to-front.ensures in
    record {
      grown = grown_on _ _ _ _ _ _ _ j.grown c.go_on.ensures;
      count = omega (arith, j.count, front.count);
      depth = omega (arith, j.depth, front.count);
    }

pub loop-front-preserved : goal.loop-front-preserved
loop-front-preserved c =
    let j = c.loop-front.invariant in
    record {
      grown = grown_on _ _ _ _ _ _ _ j.grown c.go_on.ensures;
      count = omega (arith, j.count, c.go_back-front.ensures);
      depth = omega (arith, j.depth, c.go_back-front.ensures);
    }

pub returns-else-depth-gt0-clause-grown : goal.returns-else-depth-gt0-clause-grown
returns-else-depth-gt0-clause-grown c = grown_on _ _ _ _ _ _ _ c.loop-front.invariant.grown c.go_on.ensures
