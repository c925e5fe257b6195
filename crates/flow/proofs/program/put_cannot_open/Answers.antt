-- The message of `put_cannot_open` in three puts: each that fails leaves a beginning of the line, and after the last
-- the whole line was taken.
use Rattle.std.proofs.Common.{rules, ◌∙◌}
use Rattle.flow_tools.proofs.SendLemmas.{on_err}
use Rattle.flow.proofs.MessageLemmas.{put_whole, stops_before_name, stops_in_name}
use Rattle.flow.proofs.program.put_cannot_open.Goals as goal

pub returns-in_err-put_all : goal.returns-in_err-put_all
returns-in_err-put_all g c = record {
  ok = search rules;
  err = on_err c.from_residual.result (stops_before_name _ _ c.args.name.now c.in_err-put_all.ensures.err);
  flag = search rules;
}

pub returns-in_err-put_all-2 : goal.returns-in_err-put_all-2
returns-in_err-put_all-2 g c = record {
  ok = search rules;
  err =
      on_err c.from_residual-in_err-put_all-2.result
      (stops_in_name _ _ _ c.args.name.now c.in_ok-put_all.ensures.ok c.in_err-put_all-2.ensures.err);
  flag = search rules;
}

pub returns : goal.returns
returns g c =
    put_whole _ _ _ _ c.args.name.now c.in_ok-put_all.ensures.ok c.in_ok-put_all-2.ensures.ok _ _ _ c.put_all-3.result
    (c.in_ok-put_all-2.ensures.flag ∙ c.in_ok-put_all.ensures.flag) c.put_all-3.ensures
