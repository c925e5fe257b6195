-- `go_on`: an arc that isn't taken leads from the node of its row (`Taken`).
use Rattle.std.proofs.Common.{◌∙◌, refl, sym, arith}
use Rattle.flow_solve.proofs.ForestLemmas.Taken.{taken_grown}
use Rattle.flow_solve.proofs.forests.growing.go_on.Goals as goal

pub returns : goal.returns
returns c =
    let lead = c.in_ok-lead.ensures in
    let stand = c.requires.stand in
    taken_grown c.args.ground c.args.rows.now c.args.done.now c.mark.new.marks c.args.front.node
    c.in_ok-lead.lead.cell c.in_ok-lead.lead.behind stand (
      omega (arith, c.if-node-eq0.false),
      omega (arith, stand.firsts, c.if-node-nodes.false, c.nodes.ensures.nodes),
      lead.after,
      lead.before,
    )
    lead.cell (lead.free refl) (sym c.is_marked.ensures ∙ c.if-not-is_marked.false)
    (omega (arith, c.if-lead-eq0.false)) lead.behind c.mark.auto.marks c.mark.ensures
