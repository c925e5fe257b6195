-- `are_even`: an even number leaves each node, so an even number leaves each set.
use Rattle.std.proofs.Common.{◌-◌, ◌/◌, drop, arith}
use Rattle.std.specs.Prelude.{slice_index}
use Rattle.flow_solve.proofs.ForestLemmas.Degrees.{degree_at, both_even}
use Rattle.flow_solve.proofs.forests.degrees.are_even.Goals as goal

pub returns : goal.returns
returns c = λ yes.
    let j = c.loop-node.invariant in
    let net = c.args.net.now in
    let cells = c.args.degrees.now in
    both_even net (c.requires.both c.if-not-is_paired.false)
    (λ v at. (let low = at.0 in let high = at.1 in (
      slice_index cells (v - 1) / 2,
      omega (
        arith,
        degree_at net v cells (drop net.nodes cells) at c.requires.degrees,
        j.even (v - 1) (omega (arith, j.end)),
      ),
    )))
