-- `new`: there is a 0 for each arc.
use Rattle.std.proofs.Common.{replicate, sym, ◌∙◌, ap, subst}
use Rattle.flow_net.specs.Flows.{Fits}
use Rattle.flow_net.proofs.ZeroFlows.{zeros_fit}
use Rattle.flow_net.proofs.tables.FlowTable.new.Goals as goal

pub returns-in-Ok-clause-empty : goal.returns-in-Ok-clause-empty
returns-in-Ok-clause-empty c =
    let flows = c.in-Ok.ensures.items_if_clones_equal (λ y e. e) ∙ ap (λ n. replicate n 0) c.len.ensures.len in
    ap (λ n. record { flows = c.in-Ok.flows.items; steps = n }) c.new.ensures
    ∙ ap (λ xs. record { flows = xs; steps = 0 }) flows

pub returns-in-Ok-clause-fits : goal.returns-in-Ok-clause-fits
returns-in-Ok-clause-fits c =
    let flows = ap (λ t. t.flows) (returns-in-Ok-clause-empty c) in
    subst (Fits c.args.net.now) (sym flows) (zeros_fit c.args.net.now)
