-- `fresh_lead`: each turn another cell of the row leads on, behind the one before.
use Rattle.std.proofs.Common.{◌-◌, false}
use Rattle.flow_solve.specs.Forests.{IsLead}
use Rattle.flow_solve.proofs.forests.growing.fresh_lead.Given as goal

abbrev pub invariant-leads : goal.invariant-leads
invariant-leads l = IsLead l.forest.ground l.forest.rows.now l.forest.done.now l.begin l.end false l.lead

-- the cells behind it
abbrev pub decreases-leads : goal.decreases-leads
decreases-leads l = l.end - l.lead.cell
