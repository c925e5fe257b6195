-- Each way out of `answer`: the problem's reader stops it, no answer is found, or the answer is put.
use Rattle.flow_tools.specs.streams.Streams.{over}
use Rattle.flow_tools.proofs.running.EndLemmas.{problem_stops, none_found, answer_put, put_failed}
use Rattle.flow_tools.proofs.running.answer.Goals as goal

pub returns-in-Err : goal.returns-in-Err
returns-in-Err g c =
    problem_stops (over (g.I.Input.state c.args.problem.now) (g.I.Input.state c.read_all.new.input))
    _ _ _ _ _ c.in-Err.stop (c.in-Err.ensures 0 c.new.ensures)

pub returns-in-Err-find_answer : goal.returns-in-Err-find_answer
returns-in-Err-find_answer g c =
    none_found c.args.job (over (g.I.Input.state c.args.problem.now) (g.I.Input.state c.read_all.new.input))
    _ _ (c.in-Ok.ensures 0 c.new.ensures) _ _ c.in-Err-find_answer.stop c.in-Err-find_answer.ensures

pub returns-in-Ok-put_answer : goal.returns-in-Ok-put_answer
returns-in-Ok-put_answer g c =
    let all = rw c.in-Ok-put_answer.is at c.put_answer.ensures in
    rw c.status_of_answer.ensures
    (answer_put c.args.job (over (g.I.Input.state c.args.problem.now) (g.I.Input.state c.read_all.new.input))
    _ _ (c.in-Ok.ensures 0 c.new.ensures) _ c.in-Ok-find_answer.answer c.in-Ok-find_answer.ensures all.ok all.flag)

pub returns : goal.returns
returns g c =
    let some = rw c.in-Err-put_answer.is at c.put_answer.ensures in
    put_failed c.args.job (over (g.I.Input.state c.args.problem.now) (g.I.Input.state c.read_all.new.input))
    _ _ (c.in-Ok.ensures 0 c.new.ensures) _ c.in-Ok-find_answer.answer c.in-Ok-find_answer.ensures some.err some.flag
