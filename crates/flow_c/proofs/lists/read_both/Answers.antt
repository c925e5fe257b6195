-- `read_both`: the sources are taken where none is marked, and then the sinks.
use Rattle.std.proofs.Common.{◌∙◌, inl, inr}
use Rattle.flow_c.proofs.ListLemmas.{unmarked, passed_on}
use Rattle.flow_c.proofs.lists.read_both.Goals as goal

pub read_terminals-requires-clause-marks : goal.read_terminals-requires-clause-marks
read_terminals-requires-clause-marks c =
    rw (c.as_mut_slice-marks.ensures.value, c.in_ok-marks.ensures.all (λ y e. e)) (unmarked c.args.lent.nodes)

pub read_terminals-requires-2 : goal.read_terminals-requires-2
read_terminals-requires-2 c =
    let s = c.in_ok-s.ensures in
    rw c.as_slice.ensures.value (record {
      most = c.requires.most;
      count = s.count;
      marks = s.taken.1;
      distinct = s.taken.0.distinct;
    })

pub returns-in_err-s : goal.returns-in_err-s
returns-in_err-s c =
    passed_on _ _ _ _ c.from_residual-in_err-s.ensures.1
    (elim c.in_err-s.ensures.taken [ inl m ↦ inl m | inr b ↦ inr (b.0, inl b.1) ])

pub returns-in_err-t : goal.returns-in_err-t
returns-in_err-t c =
    let sources = c.as_slice.ensures.value ∙ c.in_ok-s.ensures.taken.0.all in
    passed_on _ _ _ _ c.from_residual-in_err-t.ensures.1
    (elim c.in_err-t.ensures.taken [ inl m ↦ inl m | inr b ↦ inr (b.0, inr (rw sources at b.1)) ])

pub returns : goal.returns
returns c = (c.in_ok-s.ensures.taken.0, rw c.as_slice.ensures.value at c.in_ok-t.ensures.taken.0)
