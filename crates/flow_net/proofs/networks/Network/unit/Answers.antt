-- `unit`: with capacities of 1 the network keeps its limits.
use Rattle.flow_net.proofs.KeptLimits.{IsNet-unit}
use Rattle.flow_net.proofs.networks.Network.unit.Goals as goal

pub invariant_of-result : goal.invariant_of-result
invariant_of-result c = rw c.set_units.ensures (IsNet-unit _ c.self.invariant)
