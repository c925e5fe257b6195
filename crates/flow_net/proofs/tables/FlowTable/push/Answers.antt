-- `push`: against an arc its flow falls, and stays within the capacity.
use Rattle.std.proofs.Common.{◌/◌, ◌-◌, ◌<◌, length, get_or, set, sym, ◌∙◌, ap, arith}
use Rattle.std.proofs.lemmas.Bool.{cond-false, ne_eqb}
use Rattle.std.proofs.lemmas.List.{get_or_read}
use Rattle.flow_net.proofs.Pushes.{fits_pushed}
use Rattle.flow_net.proofs.tables.FlowTable.push.Goals as goal

pub returns-else-half-eq0-clause-flows : goal.returns-else-half-eq0-clause-flows
returns-else-half-eq0-clause-flows c =
    let i = c.args.half / 2 in
    let d = c.args.amount in
    let xs = c.self.inside.flows.items in
    let flows = ap (λ t. t.flows) c.self.view_is in
    let count = ap length flows ∙ c.requires.fits.count in
    let within : i < length xs = omega (arith, c.requires.in_range) in
    let flow = get_or_read xs i _ within c.index_mut-else-half-eq0.ensures.value 0 in
    ap (λ x. set xs i (x - d)) flow
    ∙ ap (λ ys. set ys i (get_or ys i 0 - d)) flows
    ∙ ap (set c.args.self.now.flows i) (sym (cond-false _ _ _ (ne_eqb _ 0 c.if-half-eq0.false)))

pub returns-else-half-eq0-clause-still_fits : goal.returns-else-half-eq0-clause-still_fits
returns-else-half-eq0-clause-still_fits c =
    rw (returns-else-half-eq0-clause-flows c)
    (fits_pushed c.args.net.now _ c.args.half c.args.amount c.requires.in_range c.requires.room c.requires.fits)
