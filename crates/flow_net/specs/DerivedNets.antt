-- Networks made of a network: with capacities of 1, and both ways.
use Rattle.std.specs.Prelude.{◌++◌, map}
use Rattle.flow_net.specs.declared.networks.Arc.{Arc}
use Rattle.flow_net.specs.Nets.{Net}

-- the arc with the capacity 1, and the network of such arcs
abbrev pub unit_arc : Arc → Arc
unit_arc a = record { src = a.src; dst = a.dst; cap = 1 }

abbrev pub unit : Net → Net
unit net = record { nodes = net.nodes; arcs = map unit_arc net.arcs }

-- the arc turned round, and the network with the reverse of each arc behind its arcs
abbrev pub reversed : Arc → Arc
reversed a = record { src = a.dst; dst = a.src; cap = a.cap }

abbrev pub both_ways : Net → Net
both_ways net = record { nodes = net.nodes; arcs = net.arcs ++ map reversed net.arcs }
