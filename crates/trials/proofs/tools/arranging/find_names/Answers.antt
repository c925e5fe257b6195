-- `find_names`: the names were tested.
use Rattle.trials.proofs.tools.arranging.find_names.Goals as goal

pub returns : goal.returns
returns c named = (c.name_nodes.new.nodes, c.name_nodes.ensures named)
