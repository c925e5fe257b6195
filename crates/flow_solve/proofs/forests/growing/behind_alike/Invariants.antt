-- `behind_alike`: what is looked at stands behind the cell.
use Rattle.std.proofs.Common.{◌<◌, ◌-◌}
use Rattle.flow_solve.proofs.forests.growing.behind_alike.Given as goal

abbrev pub invariant-loop-low : goal.invariant-loop-low
invariant-loop-low l = record {
  behind : l.cell < l.low;
}

abbrev pub decreases-loop-low : goal.decreases-loop-low
decreases-loop-low l = l.high - l.low
