-- `gather_marks`: in the end each node is marked as its name is.
use Rattle.std.proofs.Common.{◌∙◌, sym, arith, false}
use Rattle.std.proofs.lemmas.List.{length-map, get_or-map, ext_get_or}
use Rattle.flow_net.specs.MarkedNodes.{marked}
use Rattle.flow_tools.proofs.solving.arranging.gather_marks.Goals as goal

pub returns : goal.returns
returns c =
    let names = c.args.names.now in
    let mark = marked c.args.there.now in
    let count = c.loop-i.invariant.count in
    let all = c.loop-i-test.false in
    ext_get_or false _ _ (count ∙ sym (length-map names mark))
    (λ k l. c.loop-i.invariant.done k (omega arith) ∙ sym (get_or-map mark names k 0 false (omega arith)))
