-- The loop over the arcs: each adds the line of its flow; a put that fails took a beginning of the text; at the end all
-- lines have been put or wait.
use Rattle.std.proofs.Common.{◌∙◌, arith, refl, rules}
use Rattle.std.specs.List.{zip}
use Rattle.flow_net.specs.Arcs.{no_arc}
use Rattle.flow_text.specs.Output.{flow_line}
use Rattle.flow_tools.proofs.streams.SendLemmas.{on_err}
use Rattle.flow_tools.proofs.solving.LineLemmas.{lines_more, lines_stop, lines_end}
use Rattle.flow_tools.proofs.solving.PrintLemmas.{length-arc_flows, flow_line_is}
use Rattle.flow_tools.proofs.solving.printing.gather_flows.Goals as goal

pub returns-in_err-gather_flow_line : goal.returns-in_err-gather_flow_line
returns-in_err-gather_flow_line g c =
    let net = c.args.net.now in
    let flows = c.args.flows.now in
    let e = length-arc_flows net flows c.requires.count in
    record {
      ok = search rules;
      err =
          on_err c.from_residual.result
          (lines_stop flow_line (zip net.arcs flows) c.loop-i.i _ _ _ _ c.loop-i.invariant.0 (no_arc, 0) _
          _ (omega arith)
          (flow_line_is net flows c.requires.count c.loop-i.i _ _ (omega arith) c.arc-arc.ensures.arc refl)
          c.in_err-gather_flow_line.ensures.err);
      flag = search rules;
    }

pub loop-i-preserved : goal.loop-i-preserved
loop-i-preserved g c =
    let net = c.args.net.now in
    let flows = c.args.flows.now in
    let e = length-arc_flows net flows c.requires.count in (
      lines_more flow_line (zip net.arcs flows) c.loop-i.i _ _ _ _ c.loop-i.invariant.0 (no_arc, 0) _ _ _
          (omega arith)
          (flow_line_is net flows c.requires.count c.loop-i.i _ _ (omega arith) c.arc-arc.ensures.arc refl)
          c.in_ok-gather_flow_line.ensures.ok,
      c.in_ok-gather_flow_line.ensures.flag ∙ c.loop-i.invariant.1,
    )

pub returns : goal.returns
returns g c =
    let net = c.args.net.now in
    let flows = c.args.flows.now in
    let e = length-arc_flows net flows c.requires.count in
    record {
      ok = lines_end flow_line (zip net.arcs flows) c.loop-i.i _ _ _ _ c.loop-i.invariant.0 (omega arith);
      err = tt;
      flag = c.loop-i.invariant.1;
    }
