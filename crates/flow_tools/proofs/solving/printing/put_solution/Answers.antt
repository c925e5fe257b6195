-- The text of a solution is its value, and behind it its flows: what was put and what waited behind it are that text,
-- or a beginning of it where a put failed.
use Rattle.std.proofs.Common.{rules}
use Rattle.flow_tools.proofs.streams.SendLemmas.{on_err, waiting_put}
use Rattle.flow_tools.proofs.solving.PrintLemmas.{solution_text_is}
use Rattle.flow_tools.proofs.solving.printing.put_solution.Goals as goal

pub returns-in_err-gather_flows : goal.returns-in_err-gather_flows
returns-in_err-gather_flows g c = record {
  ok = search rules;
  err =
      on_err c.from_residual.result
      (rw (← solution_text_is c.args.net.now c.args.value _ c.gather_value.ensures c.args.flows.now)
      c.in_err-gather_flows.ensures.err);
  flag = search rules;
}

pub returns : goal.returns
returns g c =
    rw (← solution_text_is c.args.net.now c.args.value _ c.gather_value.ensures c.args.flows.now)
    (waiting_put _ _ _ _ _ _ c.in_ok-gather_flows.ensures.ok c.as_slice.ensures.value _ _ _
    c.put_all.result c.in_ok-gather_flows.ensures.flag c.put_all.ensures)
