-- `begin_forest`: it begins at the root, and grows.
use Rattle.flow_solve.proofs.ForestLemmas.Taken.{facing_limits, forest_begun}
use Rattle.flow_solve.proofs.forests.begin_forest.Goals as goal

pub returns-clause-forest : goal.returns-clause-forest
returns-clause-forest c = λ k j g.
    c.grow.ensures.grown.forest k j
    (forest_begun _ _ _ _ k j c.args.rows.now
    (facing_limits c.args.ground.direction c.args.ground.net.now c.requires.stand.limits) c.begin-front.new.done g
    c.begin-front.ensures.only)
