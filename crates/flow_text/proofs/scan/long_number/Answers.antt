-- `long_number`: digit by digit, until 128 bits don't hold the value; from there on the digits alone are tested.
use Rattle.std.proofs.Common.{arith, sym, ◌∙◌, ◌+◌, ap, subst, ℕ, inl, inr}
use Rattle.flow_text.proofs.DigitLemmas.{AreDigits-more, AreDigits-all, Makes, Makes-more, Makes-past, number_of-value}
use Rattle.flow_text.proofs.DigitLemmas.{Makes-all}
use Rattle.std.proofs.lemmas.Bool.{cases_Bool}
use Rattle.flow_text.specs.declared.numbers.Number.TheVariants.{Value}
use Rattle.flow_text.proofs.scan.long_number.Goals as goal
use Rattle.flow_text.proofs.scan.long_number.Goals.{in-Some, in-None}

-- one more digit
pub loop-byte-preserved : goal.loop-byte-preserved
loop-byte-preserved c = record {
  digits =
      AreDigits-more c.args.field.now c.loop-byte.byte-index (omega arith) (grind arith) c.loop-byte.invariant.digits;
  makes = λ no. elim c.match-with_digit.branch [
    | in-Some w ↦
        subst (λ (v : ℕ). Makes c.args.field.now (c.loop-byte.byte-index + 1) v) (sym (w.value-is ∙ w.in-Some.ensures))
        (Makes-more c.args.field.now c.loop-byte.byte-index c.loop-byte.value (omega arith)
        (c.loop-byte.invariant.makes (sym w.above-is ∙ no)))
    | in-None w ↦ cc
  ];
  above = λ yes. elim c.match-with_digit.branch [
    | in-Some w ↦ c.loop-byte.invariant.above (sym w.above-is ∙ yes)
    | in-None w ↦ elim (cases_Bool c.loop-byte.above) [
      | inl a ↦ c.loop-byte.invariant.above a
      | inr b ↦
          Makes-past c.args.field.now c.loop-byte.byte-index c.loop-byte.value (omega arith)
          (c.loop-byte.invariant.makes b) w.in-None.ensures
    ]
  ];
}

-- the value is at most the limit
pub returns-then-value-limit : goal.returns-then-value-limit
returns-then-value-limit c =
    let all = Makes-all c.args.field.now c.loop-byte.byte-index c.loop-byte.value (omega arith)
    (c.loop-byte.invariant.makes (grind arith)) in
    ap Value (sym all)
    ∙ sym (number_of-value c.args.field.now c.args.limit c.requires
    (AreDigits-all _ c.loop-byte.byte-index (omega arith) c.loop-byte.invariant.digits) (omega arith))
