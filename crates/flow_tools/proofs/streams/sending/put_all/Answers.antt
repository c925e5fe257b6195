-- What a put took stands behind what was taken before, and the rest is still to be put.
use Rattle.std.proofs.Common.{◌∙◌}
use Rattle.flow_tools.proofs.streams.SendLemmas.{sends_rest}
use Rattle.flow_tools.proofs.streams.sending.put_all.Goals as goal

pub loop-rest-preserved : goal.loop-rest-preserved
loop-rest-preserved g c = (
  sends_rest _ _ _ _ _ _ c.loop-rest.invariant.0 c.in_ok-count.ensures.bytes,
  c.in_ok-count.ensures.flag ∙ c.loop-rest.invariant.1,
)
