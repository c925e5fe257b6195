-- The sum of a pair's flows so far: a line of the pair adds its flow.
use Rattle.std.proofs.Common.{◌≡◌, ◌+◌, get_or, arith}
use Rattle.std.proofs.lemmas.Grind.{common_steps}
use Rattle.flow_tools.proofs.checking.Shares.{no_line}
use Rattle.flow_tools.proofs.checking.flow_of_pair.Goals as goal
use Rattle.flow_tools.proofs.checking.flow_of_pair.Goals.{then-line-src+then-line-dst, else-line-src}

pub loop-line-preserved : goal.loop-line-preserved
loop-line-preserved c =
    let line = get_or c.args.lines.now c.loop-line.line-index no_line in
    elim c.if-line-src.branch [
      | then-line-src+then-line-dst w ↦
          let more : c.if-line-src.sum ≡ c.loop-line.sum + line.flow = w.sum-is in grind (arith, common_steps)
      | else-line-src w ↦ grind (arith, common_steps)
    ]
