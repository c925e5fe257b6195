-- `set_units`: the arcs passed have a capacity of 1, and those ahead are as they were.
use Rattle.std.proofs.Common.{◌≡◌, ◌++◌, map, take, drop}
use Rattle.flow_net.specs.DerivedNets.{unit_arc}
use Rattle.flow_net.proofs.networks.set_units.Given as goal

abbrev pub invariant-loop-arc : goal.invariant-loop-arc
invariant-loop-arc l =
    l.arc-items ≡ map unit_arc (take l.arc-index l.fn.arcs.items) ++ drop l.arc-index l.fn.arcs.items
