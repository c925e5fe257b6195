-- `rename_all`: the nodes passed have their new names, and those ahead are as they were.
use Rattle.std.proofs.Common.{◌≡◌, ◌++◌, map, take, drop}
use Rattle.flow_net.specs.Arrangements.{named}
use Rattle.flow_tools.proofs.solving.arranging.rename_all.Given as goal

abbrev pub invariant-loop-v : goal.invariant-loop-v
invariant-loop-v l =
    l.v-items ≡ map (named l.names) (take l.v-index l.fn.vs.items) ++ drop l.v-index l.fn.vs.items
