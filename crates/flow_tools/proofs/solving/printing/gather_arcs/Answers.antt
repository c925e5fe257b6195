-- The loop over the arcs: an arc that doesn't leave the set adds nothing to the text, one that leaves it adds its
-- line; a put that fails took a beginning of the text; at the end all lines have been put or wait.
use Rattle.std.proofs.Common.{◌∙◌, arith, refl, rules}
use Rattle.flow_net.specs.Arcs.{no_arc}
use Rattle.flow_net.specs.Cuts.{leaves}
use Rattle.flow_text.specs.ArcLines.{arc_line}
use Rattle.flow_net.specs.MarkedNodes.{marked}
use Rattle.flow_tools.proofs.streams.SendLemmas.{on_err}
use Rattle.flow_tools.proofs.solving.LineLemmas.{line_if, lines_more, lines_skip, lines_stop, lines_end}
use Rattle.flow_tools.proofs.solving.LineLemmas.{flat_map-filter}
use Rattle.flow_tools.proofs.solving.PrintLemmas.{arc_line_is, no_arc_line}
use Rattle.flow_tools.proofs.solving.printing.gather_arcs.Goals as goal

pub loop-i-preserved-then-not-does_leave : goal.loop-i-preserved-then-not-does_leave
loop-i-preserved-then-not-does_leave g c =
    let p = leaves (marked c.args.side.now) in let arcs = c.args.net.now.arcs in (
      lines_skip (line_if p arc_line) arcs c.loop-i.i _ _ _ _ c.loop-i.invariant.0 no_arc (omega arith)
          (no_arc_line p c.args.net.now c.loop-i.i c.arc-arc.result c.arc-arc.ensures.arc c.if-not-does_leave.ensures),
      c.loop-i.invariant.1,
    )

pub returns-in_err-gather_arc_line : goal.returns-in_err-gather_arc_line
returns-in_err-gather_arc_line g c =
    let p = leaves (marked c.args.side.now) in let arcs = c.args.net.now.arcs in
    record {
      ok = search rules;
      err =
          on_err c.from_residual.result
          (rw (flat_map-filter p arc_line arcs)
          (lines_stop (line_if p arc_line) arcs c.loop-i.i _ _ _ _ c.loop-i.invariant.0 no_arc _ _ (omega arith)
          (arc_line_is p c.args.net.now c.loop-i.i c.arc-arc.result _ c.arc-arc.ensures.arc
          c.if-not-does_leave.ensures refl) c.in_err-gather_arc_line.ensures.err));
      flag = search rules;
    }

pub loop-i-preserved : goal.loop-i-preserved
loop-i-preserved g c =
    let p = leaves (marked c.args.side.now) in let arcs = c.args.net.now.arcs in (
      lines_more (line_if p arc_line) arcs c.loop-i.i _ _ _ _ c.loop-i.invariant.0 no_arc _ _ _ (omega arith)
          (arc_line_is p c.args.net.now c.loop-i.i c.arc-arc.result _ c.arc-arc.ensures.arc c.if-not-does_leave.ensures
          refl) c.in_ok-gather_arc_line.ensures.ok,
      c.in_ok-gather_arc_line.ensures.flag ∙ c.loop-i.invariant.1,
    )

pub returns : goal.returns
returns g c =
    let p = leaves (marked c.args.side.now) in let arcs = c.args.net.now.arcs in
    record {
      ok =
          rw (flat_map-filter p arc_line arcs)
          (lines_end (line_if p arc_line) arcs c.loop-i.i _ _ _ _ c.loop-i.invariant.0 (omega arith));
      err = tt;
      flag = c.loop-i.invariant.1;
    }
