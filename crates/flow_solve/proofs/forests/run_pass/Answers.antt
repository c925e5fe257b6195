-- `run_pass`: once the rows are filled they tell of all arcs, and no forest is done.
use Rattle.flow_solve.proofs.ForestLemmas.Taken.{facing_limits, grove_begun}
use Rattle.flow_solve.proofs.forests.run_pass.Goals as goal

pub grow_forests-requires-clause-grove : goal.grow_forests-requires-clause-grove
grow_forests-requires-clause-grove c =
    grove_begun _ _ _ _ _ 0 c.fill_rows.new.rows
    (facing_limits c.args.ground.direction c.args.ground.net.now c.requires.limits)
    (c.fill_rows.ensures c.if-not-fill_rows.false)
