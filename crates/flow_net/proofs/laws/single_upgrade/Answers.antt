-- The law: an arc from the least source side to the least sink side lies in every minimum cut, and no other does.
use Rattle.flow_net.proofs.Upgrades.{single_upgrade}
use Rattle.flow_net.proofs.laws.single_upgrade.Goals as goal

pub returns : goal.returns
returns c = single_upgrade
