-- The law: a set that has the new node and no other that the forest has come to is entered by the arc that is marked,
-- or by k arcs (`ForestLemmas`).
use Rattle.flow_net.proofs.ForestLemmas.{forest_steps}
use Rattle.flow_net.proofs.laws.growing_forests.Goals as goal

pub returns : goal.returns
returns c = forest_steps
