-- `first_left`: one node more has been passed.
use Rattle.std.proofs.Common.{◌+◌, ◌∙◌, sym, ap, inl, inr, arith}
use Rattle.std.proofs.lemmas.Bool.{cases_eq}
use Rattle.flow_solve.specs.Forests.{marked_in}
use Rattle.flow_solve.proofs.forests.growing.first_left.Goals as goal

pub loop-place-preserved : goal.loop-place-preserved
loop-place-preserved c = record {
  marked = λ v l m. elim (cases_eq v (c.loop-place.place + 1)) [
    | inl e ↦ ap (marked_in c.args.done.now) e ∙ sym c.is_marked.ensures ∙ c.if-not-is_marked.false
    | inr n ↦ c.loop-place.invariant.marked v l (omega (arith, m, n))
  ];
}

pub returns : goal.returns
returns c = λ _ v l m. c.loop-place.invariant.marked v l (omega (arith, m, c.loop-place-test.false))
