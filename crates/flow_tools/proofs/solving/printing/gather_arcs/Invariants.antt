-- The lines so far have been put or wait, and no put has failed.
use Rattle.std.proofs.Common.{◌≡◌}
use Rattle.flow_net.specs.Cuts.{leaves}
use Rattle.flow_text.specs.ArcLines.{arc_line}
use Rattle.flow_net.specs.MarkedNodes.{marked}
use Rattle.flow_tools.proofs.solving.LineLemmas.{line_if, HasSent}
use Rattle.flow_tools.proofs.solving.printing.gather_arcs.Given as goal

abbrev pub invariant-loop-i : goal.invariant-loop-i
invariant-loop-i g l =
    HasSent (line_if (leaves (marked l.side)) arc_line) l.net.arcs l.i (g.O.Output.state l.fn.out).bytes
    (g.O.Output.state l.out).bytes l.fn.waiting.items l.waiting.items
    × ((g.O.Output.state l.out).failed ≡ (g.O.Output.state l.fn.out).failed)
