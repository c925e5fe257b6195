-- `next_lead`: the cells before are passed.
use Rattle.std.proofs.Common.{◌≤◌, ◌-◌}
use Rattle.flow_solve.proofs.forests.growing.next_lead.Given as goal

abbrev pub invariant-cells : goal.invariant-cells
invariant-cells l = record { after : l.from ≤ l.cell }

abbrev pub decreases-cells : goal.decreases-cells
decreases-cells l = l.end - l.cell
