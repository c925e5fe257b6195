-- Networks whose capacities were all set to 1, for the tests that ask for their connectivity.
use Rattle.std.proofs.Common.{◌≡◌}
use Rattle.std.specs.List.{All}
use Rattle.flow_net.specs.Nets.{Net}
use Rattle.flow_net.specs.DerivedNets.{unit}
use Rattle.flow_tools.proofs.ConnectAnswers.{unit_capacities as all_of_1}

pub unit_capacities : (net made : Net) → made ≡ unit net → All (λ a. a.cap ≡ 1) made.arcs
unit_capacities = all_of_1
