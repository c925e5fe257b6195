-- `is_cut_off`: each half-arc was tested, so none with a residual capacity leads out of the seen nodes.
use Rattle.std.proofs.Common.{List, ℕ, sym, subst, inl, inr, arith}
use Rattle.std.proofs.lemmas.Bool.{cases_eq}
use Rattle.flow_solve.specs.Forests.{IsPassed, seen_in}
use Rattle.flow_solve.proofs.Payments.{looked_fits, looks_then}
use Rattle.flow_solve.proofs.forests.joining.is_cut_off.Goals as goal

pub loop-half-preserved : goal.loop-half-preserved
loop-half-preserved c =
    let j = c.loop-half.invariant in
    let now = c.in_ok-left.ensures in
    let X = seen_in c.args.forest.done.now c.args.seen.now in
    record {
      fits = looked_fits _ _ _ _ _ now.looks j.fits;
      end = j.end;
      passed = λ h l. elim (cases_eq h c.loop-half.half) [
        | inl e ↦
            subst (λ z. IsPassed c.args.forest.ground c.args.flow.now.flows X z) (sym e)
            (subst (λ (z : List ℕ). IsPassed c.args.forest.ground z X c.loop-half.half) j.looks.flows now.passed)
        | inr d ↦ j.passed h (omega (arith, l, d))
      ];
      looks = looks_then _ _ _ _ _ _ j.looks now.looks;
    }

pub returns-clause-closed : goal.returns-clause-closed
returns-clause-closed c =
    let j = c.loop-half.invariant in
    λ h l i r. j.passed h (omega (arith, l, j.end, c.loop-half-test.false)) i r
