-- What is left of the line's flow, and the places that are passed.
use Rattle.std.proofs.Common.{◌≡◌}
use Rattle.flow_tools.specs.checking.ArcShares.{line_rank}
use Rattle.flow_tools.proofs.checking.Shares.{IsPouring}
use Rattle.flow_tools.proofs.checking.sharing.pour.Given as goal

abbrev pub invariant-loop-at : goal.invariant-loop-at
invariant-loop-at l =
    IsPouring l.net l.places l.initial.flow.flows l.fn.line l.at l.left l.flow.flows
    × (l.rank_of_line ≡ line_rank l.fn.line)
