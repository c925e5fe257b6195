-- The text of a cut is its value, its nodes, and its arcs where they are asked for: what was put and what waited
-- behind it are that text, or a beginning of it where a put failed.
use Rattle.std.proofs.Common.{◌∙◌, rules}
use Rattle.flow_net.specs.MarkedNodes.{marked}
use Rattle.flow_tools.proofs.streams.SendLemmas.{on_err, waiting_put, sends_more, stops_at}
use Rattle.flow_tools.proofs.solving.PrintLemmas.{without_arcs_is, with_arcs_is, nodes_stop}
use Rattle.flow_tools.proofs.solving.printing.put_cut.Goals as goal

pub returns-in_err-gather_nodes : goal.returns-in_err-gather_nodes
returns-in_err-gather_nodes g c =
    let X = marked c.args.side.now in
    record {
      ok = search rules;
      err =
          on_err c.from_residual.result (nodes_stop c.args.net.now c.args.value _ c.gather_value.ensures X
          c.args.arcs _ _ c.in_err-gather_nodes.ensures.err);
      flag = search rules;
    }

pub returns-then-not-arcs : goal.returns-then-not-arcs
returns-then-not-arcs g c =
    let X = marked c.args.side.now in
    rw (← without_arcs_is c.args.net.now c.args.value _ c.gather_value.ensures X c.args.arcs c.if-not-arcs.true)
    (waiting_put _ _ _ _ _ _ c.in_ok-gather_nodes.ensures.ok c.as_slice.ensures.value _ _ _ c.put_all.result
    c.in_ok-gather_nodes.ensures.flag c.put_all.ensures)

pub returns-in_err-gather_arcs : goal.returns-in_err-gather_arcs
returns-in_err-gather_arcs g c =
    let X = marked c.args.side.now in
    record {
      ok = search rules;
      err =
          on_err c.from_residual-in_err-gather_arcs.result
          (rw (← with_arcs_is c.args.net.now c.args.value _ c.gather_value.ensures X c.args.arcs c.if-not-arcs.false)
          (stops_at _ _ _ _ _ _ c.in_ok-gather_nodes.ensures.ok c.in_err-gather_arcs.ensures.err));
      flag = search rules;
    }

pub returns : goal.returns
returns g c =
    let X = marked c.args.side.now in
    rw (← with_arcs_is c.args.net.now c.args.value _ c.gather_value.ensures X c.args.arcs c.if-not-arcs.false)
    (waiting_put _ _ _ _ _ _ (sends_more _ _ _ _ _ _ _ c.in_ok-gather_nodes.ensures.ok c.in_ok-gather_arcs.ensures.ok)
    c.as_slice-2.ensures.value _ _ _ c.put_all-2.result
    (c.in_ok-gather_arcs.ensures.flag ∙ c.in_ok-gather_nodes.ensures.flag) c.put_all-2.ensures)
