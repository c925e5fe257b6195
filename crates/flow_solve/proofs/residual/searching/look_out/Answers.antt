-- `look_out`: one more node is looked out for.
use Rattle.std.proofs.Common.{length-set, ◌∙◌, arith}
use Rattle.flow_solve.specs.declared.residual.searching.TheConstants.{WANTED}
use Rattle.flow_solve.proofs.ResidualLemmas.SearchStarts.{look_more}
use Rattle.flow_solve.proofs.residual.searching.look_out.Goals as goal

pub loop-node-preserved : goal.loop-node-preserved
loop-node-preserved c =
    let node = c.requires.until c.loop-node.node-index 0 (omega arith) in (
      length-set c.loop-node.dist _ WANTED ∙ c.loop-node.invariant.0,
      λ p l. look_more c.args.until.now c.loop-node.dist c.loop-node.node-index p (omega arith) node.0 (omega arith)
          (c.loop-node.invariant.1 p l),
    )
