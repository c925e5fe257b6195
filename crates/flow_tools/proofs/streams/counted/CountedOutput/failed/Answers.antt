-- `failed`: the bytes of the state are those of the writer.
use Rattle.std.proofs.Common.{refl}
use Rattle.flow_tools.proofs.streams.counted.CountedOutput.failed.Goals as goal

pub returns-clause-tells : goal.returns-clause-tells
returns-clause-tells g c = refl
