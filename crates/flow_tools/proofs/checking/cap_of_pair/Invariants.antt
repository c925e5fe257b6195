-- The sum of the pair's capacities over the arcs so far.
use Rattle.std.proofs.Common.{◌≡◌, take}
use Rattle.flow_net.specs.Cuts.{cap_over}
use Rattle.flow_tools.specs.checking.ArcShares.{is_pair}
use Rattle.flow_tools.proofs.checking.cap_of_pair.Given as goal

abbrev pub invariant-loop-i : goal.invariant-loop-i
invariant-loop-i l = l.sum ≡ cap_over (λ a. is_pair l.src l.dst a.src a.dst) (take l.i l.net.arcs)
