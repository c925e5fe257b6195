-- `write_marks`: the numbers are those of the marks.
use Rattle.std.proofs.Common.{rules, map, false, sym, ◌∙◌, arith}
use Rattle.std.proofs.lemmas.Grind.{common_steps, same_number_lists}
use Rattle.std.proofs.lemmas.List.{length-map, get_or-map}
use Rattle.flow_c.specs.Lists.{bit}
use Rattle.flow_c.proofs.solving.write_marks.Goals as goal

pub returns : goal.returns
returns c =
    let marks = c.args.marks.now in
    let count = c.loop-v.invariant.count in
    same_number_lists c.loop-v.side (map bit marks) (count ∙ sym (length-map marks bit))
    (λ k l. c.loop-v.invariant.ones k (first_of (search rules, grind (arith, common_steps)))
    ∙ sym (get_or-map bit marks k false 0 (omega (arith, l, count))))
