-- `make_ready`: the rows tell of the same arcs (`Taken`).
use Rattle.std.proofs.Common.{Bool, subst}
use Rattle.flow_solve.specs.Forests.{IsForest, at_stage}
use Rattle.flow_solve.proofs.forests.make_ready.Goals as goal

pub returns-then-ready : goal.returns-then-ready
returns-then-ready c = λ _ k i done f.
    subst (λ (b : Bool). IsForest (at_stage c.args.ground b) k i c.args.rows.now done) c.if-ready.true f

pub returns-else-ready : goal.returns-else-ready
returns-else-ready c = λ yes k i done f.
    let ground = c.args.ground in
    let before = subst (λ (b : Bool). IsForest (at_stage ground b) k i c.args.rows.now done) c.if-ready.false f in
    (before.0, c.number_arcs.ensures yes ground.first.now before.0 before.1, before.2)
