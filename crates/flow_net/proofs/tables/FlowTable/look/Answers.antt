-- `look`: what remains is the flow, or what the flow leaves of the capacity.
use Rattle.std.proofs.Common.{◌/◌, ◌<◌, length, slice_index, sym, ◌∙◌, ap, arith}
use Rattle.std.proofs.lemmas.Bool.{cond-true, cond-false, eq-eqb, ne_eqb}
use Rattle.std.proofs.lemmas.List.{get_or_read}
use Rattle.flow_net.proofs.tables.FlowTable.look.Goals as goal
use Rattle.flow_net.proofs.tables.FlowTable.look.Goals.{then-half-eq0, else-half-eq0}

pub returns-clause-residual : goal.returns-clause-residual
returns-clause-residual c =
    let i = c.args.half / 2 in
    let flows = ap (λ t. t.flows) c.self.view_is in
    let count = ap length flows ∙ c.requires.fits.count in
    let within : i < length c.self.inside.flows.items = omega (arith, c.requires.in_range) in
    let flow = get_or_read c.self.inside.flows.items i _ within c.index-flow.ensures 0
    ∙ ap (λ xs. slice_index xs i) flows in
    elim c.if-half-eq0.branch [
      | then-half-eq0 w ↦
          ap (λ r. r.1) w.result-is
          ∙ rw (c.arc-arc.ensures.arc, flow) (sym (cond-true _ _ _ (eq-eqb _ 0 w.if-half-eq0.true)))
      | else-half-eq0 w ↦
          ap (λ r. r.1) w.result-is ∙ flow ∙ sym (cond-false _ _ _ (ne_eqb _ 0 w.if-half-eq0.false))
    ]
