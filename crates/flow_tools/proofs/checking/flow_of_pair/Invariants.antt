-- The sum of the pair's flows over the lines so far.
use Rattle.std.proofs.Common.{◌≡◌, take}
use Rattle.flow_tools.specs.checking.SolutionFlows.{pair_flow}
use Rattle.flow_tools.proofs.checking.flow_of_pair.Given as goal

abbrev pub invariant-loop-line : goal.invariant-loop-line
invariant-loop-line l = l.sum ≡ pair_flow (take l.line-index l.lines) l.src l.dst
