-- The lines so far have been put or wait, and no put has failed.
use Rattle.std.proofs.Common.{◌≡◌}
use Rattle.std.specs.List.{zip}
use Rattle.flow_text.specs.Output.{flow_line}
use Rattle.flow_tools.proofs.solving.LineLemmas.{HasSent}
use Rattle.flow_tools.proofs.solving.printing.gather_flows.Given as goal

abbrev pub invariant-loop-i : goal.invariant-loop-i
invariant-loop-i g l =
    HasSent flow_line (zip l.net.arcs l.flows) l.i (g.O.Output.state l.fn.out).bytes (g.O.Output.state l.out).bytes
    l.fn.waiting.items l.waiting.items
    × ((g.O.Output.state l.out).failed ≡ (g.O.Output.state l.fn.out).failed)
