-- The law: a proper set without the root is entered by k arcs, and one with the root is left by those that enter its
-- complement (`ForestLemmas`).
use Rattle.flow_net.proofs.ForestLemmas.{connected_by_forests}
use Rattle.flow_net.proofs.laws.connectivity_by_forests.Goals as goal

pub returns : goal.returns
returns c = connected_by_forests
