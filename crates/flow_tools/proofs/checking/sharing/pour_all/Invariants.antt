-- The lines so far are on the arcs, and the places passed are full or of a pair that comes before all lines to come.
use Rattle.std.proofs.Common.{ℕ, ◌≤◌, ◌<◌, length, get_or, take}
use Rattle.flow_net.specs.Flows.{Fits}
use Rattle.flow_text.specs.declared.solutions.FlowLine.{FlowLine}
use Rattle.flow_tools.specs.checking.ArcShares.{line_rank, Carries, ArePassed}
use Rattle.flow_tools.proofs.checking.sharing.pour_all.Given as goal

abbrev pub invariant-loop-line : goal.invariant-loop-line
invariant-loop-line l = record {
  at_most : l.at ≤ length l.places;
  fits : Fits l.net l.flow.flows;
  carries : Carries l.net (take l.line-index l.lines) l.flow.flows;
  passed : (j : ℕ) (d : FlowLine) → l.line-index ≤ j → j < length l.lines
      → ArePassed l.net l.places l.at (line_rank (get_or l.lines j d)) l.flow.flows;
}
