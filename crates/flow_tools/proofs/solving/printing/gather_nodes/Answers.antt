-- The loop over the nodes: a node outside adds nothing to the text, one inside adds its line; a put that fails took a
-- beginning of the text; at the end all lines have been put or wait.
use Rattle.std.proofs.Common.{◌∙◌, arith, refl, rules}
use Rattle.std.specs.List.{range_with_len}
use Rattle.std.proofs.lemmas.List.FromFn.{length-range_with_len}
use Rattle.flow_net.specs.MarkedNodes.{marked}
use Rattle.flow_tools.proofs.streams.SendLemmas.{on_err}
use Rattle.flow_tools.proofs.solving.LineLemmas.{line_if, lines_more, lines_skip, lines_stop, lines_end}
use Rattle.flow_tools.proofs.solving.LineLemmas.{flat_map-filter}
use Rattle.flow_tools.proofs.solving.PrintLemmas.{node_line, node_line_is, no_node_line}
use Rattle.flow_tools.proofs.solving.printing.gather_nodes.Goals as goal

pub loop-i-preserved-then-not-is_inside : goal.loop-i-preserved-then-not-is_inside
loop-i-preserved-then-not-is_inside g c =
    let p = marked c.args.side.now in
    let n = c.args.net.now.nodes in
    let e = length-range_with_len 1 n in (
      lines_skip (line_if p node_line) (range_with_len 1 n) c.loop-i.i _ _ _ _ c.loop-i.invariant.0 0 (omega arith)
          (no_node_line p n c.loop-i.i (omega arith) c.if-not-is_inside.ensures),
      c.loop-i.invariant.1,
    )

pub returns-in_err-gather_node_line : goal.returns-in_err-gather_node_line
returns-in_err-gather_node_line g c =
    let p = marked c.args.side.now in let n = c.args.net.now.nodes in let e = length-range_with_len 1 n in
    record {
      ok = search rules;
      err =
          on_err c.from_residual.result
          (rw (flat_map-filter p node_line (range_with_len 1 n))
          (lines_stop (line_if p node_line) (range_with_len 1 n) c.loop-i.i _ _ _ _ c.loop-i.invariant.0 0 _ _
          (omega arith) (node_line_is p n c.loop-i.i (omega arith) _ c.if-not-is_inside.ensures refl)
          c.in_err-gather_node_line.ensures.err));
      flag = search rules;
    }

pub loop-i-preserved : goal.loop-i-preserved
loop-i-preserved g c =
    let p = marked c.args.side.now in
    let n = c.args.net.now.nodes in
    let e = length-range_with_len 1 n in (
      lines_more (line_if p node_line) (range_with_len 1 n) c.loop-i.i _ _ _ _ c.loop-i.invariant.0 0 _ _ _
          (omega arith) (node_line_is p n c.loop-i.i (omega arith) _ c.if-not-is_inside.ensures refl)
          c.in_ok-gather_node_line.ensures.ok,
      c.in_ok-gather_node_line.ensures.flag ∙ c.loop-i.invariant.1,
    )

pub returns : goal.returns
returns g c =
    let p = marked c.args.side.now in let n = c.args.net.now.nodes in let e = length-range_with_len 1 n in
    record {
      ok =
          rw (flat_map-filter p node_line (range_with_len 1 n))
          (lines_end (line_if p node_line) (range_with_len 1 n) c.loop-i.i _ _ _ _ c.loop-i.invariant.0
          (omega arith));
      err = tt;
      flag = c.loop-i.invariant.1;
    }
