-- `short_number`: nineteen digits fit into 64 bits.
use Rattle.std.proofs.Common.{arith, sym, ◌∙◌, get_or, ap}
use Rattle.flow_text.proofs.DigitLemmas.{AreDigits-all, digit-le, AreDigits-more, Makes-more, fits-more, fits-nineteen}
use Rattle.flow_text.proofs.DigitLemmas.{number_of-value, Makes-all}
use Rattle.flow_text.specs.declared.numbers.Number.TheVariants.{Value}
use Rattle.flow_text.proofs.scan.short_number.Goals as goal

-- no step overflows
pub overflow_mul-value : goal.overflow_mul-value
overflow_mul-value c =
    let more = fits-nineteen c.loop-byte.byte-index c.loop-byte.value (omega arith) c.loop-byte.invariant.fits in
    omega arith

pub overflow_add-value : goal.overflow_add-value
overflow_add-value c =
    let more = fits-nineteen c.loop-byte.byte-index c.loop-byte.value (omega arith) c.loop-byte.invariant.fits in
    let nine = digit-le (get_or c.args.field.now c.loop-byte.byte-index 0) (grind arith) in omega arith

-- one more digit
pub loop-byte-preserved : goal.loop-byte-preserved
loop-byte-preserved c = record {
  digits =
      AreDigits-more c.args.field.now c.loop-byte.byte-index (omega arith) (grind arith) c.loop-byte.invariant.digits;
  makes = Makes-more c.args.field.now c.loop-byte.byte-index _ (omega arith) c.loop-byte.invariant.makes;
  fits = fits-more c.loop-byte.byte-index c.loop-byte.value _ (digit-le _ (grind arith)) c.loop-byte.invariant.fits;
}

-- the value is at most the limit
pub returns-then-value-limit : goal.returns-then-value-limit
returns-then-value-limit c =
    let all = Makes-all c.args.field.now c.loop-byte.byte-index c.loop-byte.value (omega arith)
    c.loop-byte.invariant.makes in
    ap Value (sym all)
    ∙ sym (number_of-value c.args.field.now c.args.limit c.requires.some
    (AreDigits-all _ c.loop-byte.byte-index (omega arith) c.loop-byte.invariant.digits) (omega arith))
