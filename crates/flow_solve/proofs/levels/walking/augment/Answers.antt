-- `augment`: after the push what remains on each half-arc is less by the amount.
use Rattle.std.proofs.Common.{ℕ, ◌≤◌, subst, arith}
use Rattle.std.proofs.lemmas.List.{get_or_default}
use Rattle.flow_net.specs.Residual.{residual}
use Rattle.flow_solve.specs.levels.Phases.{path_of}
use Rattle.flow_solve.proofs.LevelLemmas.Descents.{rooms_after}
use Rattle.flow_solve.proofs.levels.walking.augment.Goals as goal

pub least_on-depth-requires-clause-halves : goal.least_on-depth-requires-clause-halves
least_on-depth-requires-clause-halves c = c.requires.halves

pub push_over-requires-clause-halves : goal.push_over-requires-clause-halves
push_over-requires-clause-halves c = c.requires.halves

pub push_over-requires-clause-room : goal.push_over-requires-clause-room
push_over-requires-clause-room c = λ k d l.
    let found = c.least_on-depth.ensures in let net = c.args.net.now in
    rw found.flows
    (subst (λ (h : ℕ). c.least_on-depth.result.1 ≤ residual net c.args.flow.now.flows h)
    (get_or_default (path_of c.args.walks.now c.args.len) k 0 d l) (found.filling.least k l))

pub tail-node-requires : goal.tail-node-requires
tail-node-requires c = c.requires.halves c.least_on-depth.result.0 0 c.least_on-depth.ensures.filling.place

pub returns-clause-filling : goal.returns-clause-filling
returns-clause-filling c = c.least_on-depth.ensures.filling

-- nothing on the first with the least
pub returns-clause-filled : goal.returns-clause-filled
returns-clause-filled c =
    let found = c.least_on-depth.ensures in
    let here = rooms_after (path_of c.args.walks.now c.args.len) c.least_on-depth.result.1 c.least_on-depth.result.0
    c.requires.fits found.flows c.push_over.ensures.flows c.requires.halves c.requires.apart found.filling.place in
    omega (arith, here, found.filling.amount)

-- something on those before it, which had more
pub returns-clause-open_before : goal.returns-clause-open_before
returns-clause-open_before c = λ i l.
    let found = c.least_on-depth.ensures in
    let here = rooms_after (path_of c.args.walks.now c.args.len) c.least_on-depth.result.1 i c.requires.fits found.flows
    c.push_over.ensures.flows c.requires.halves c.requires.apart (omega (arith, l, found.filling.place)) in
    omega (arith, here, found.filling.first i l)
