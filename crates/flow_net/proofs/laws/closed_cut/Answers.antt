-- The law: a cut that no residual half-arc leaves is full, so its capacity is the flow's value, which weak duality
-- bounds.
use Rattle.flow_net.proofs.Cuts.{closed_greatest, closed_minimum, strong_duality}
use Rattle.flow_net.proofs.laws.closed_cut.Goals as goal

pub returns : goal.returns
returns c = λ net s t X xs n f k h.
    (closed_greatest net s t X xs n f k h, closed_minimum net s t X xs n f k h, strong_duality net s t X xs n f k h)
