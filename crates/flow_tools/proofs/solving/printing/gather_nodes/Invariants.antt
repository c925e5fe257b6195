-- The lines so far have been put or wait, and no put has failed.
use Rattle.std.proofs.Common.{◌≡◌}
use Rattle.std.specs.List.{range_with_len}
use Rattle.flow_net.specs.MarkedNodes.{marked}
use Rattle.flow_tools.proofs.solving.LineLemmas.{line_if, HasSent}
use Rattle.flow_tools.proofs.solving.PrintLemmas.{node_line}
use Rattle.flow_tools.proofs.solving.printing.gather_nodes.Given as goal

abbrev pub invariant-loop-i : goal.invariant-loop-i
invariant-loop-i g l =
    HasSent (line_if (marked l.side) node_line) (range_with_len 1 l.net.nodes) l.i
    (g.O.Output.state l.fn.out).bytes (g.O.Output.state l.out).bytes l.fn.waiting.items l.waiting.items
    × ((g.O.Output.state l.out).failed ≡ (g.O.Output.state l.fn.out).failed)
