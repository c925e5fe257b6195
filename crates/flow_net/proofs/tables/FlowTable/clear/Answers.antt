-- `clear`: each flow is 0, and so fits.
use Rattle.std.proofs.Common.{length, ◌∙◌, ap, replicate}
use Rattle.flow_net.proofs.ZeroFlows.{zeros_fit}
use Rattle.flow_net.proofs.tables.FlowTable.clear.Goals as goal

pub returns-clause-flows : goal.returns-clause-flows
returns-clause-flows c =
    c.fill.ensures.items (λ y e. e)
    ∙ ap (λ n. replicate n 0) (c.self.inside.flows.ok.0 ∙ ap (λ t. length t.flows) c.self.view_is)

pub returns-clause-still_fits : goal.returns-clause-still_fits
returns-clause-still_fits c = λ net fits. rw (returns-clause-flows c, fits.count) (zeros_fit net)
