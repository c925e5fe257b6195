-- `run_stages`: what stands packed in the parts stands behind the solver's cells.
use Rattle.std.proofs.Common.{arith}
use Rattle.flow_solve.proofs.ResidualLemmas.Behind.{stand_behind}
use Rattle.flow_solve.specs.residual.Packs.{IsPacked}
use Rattle.flow_solve.proofs.levels.run_stages.Goals as goal

pub returns-clause-packed : goal.returns-clause-packed
returns-clause-packed c = λ yes.
    let net = c.args.given.net.now in
    let packed = c.run_in.ensures.packed yes in
    stand_behind (IsPacked net) net c.run_in.new.cells c.run_in.new.first c.run_in.new.halves
    c.split_at_mut-halves.result.1.now c.split_at_mut-own.result.1.now (omega arith) packed.firsts_size
    packed.halves_size packed
