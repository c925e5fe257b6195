-- `leading_digits`: digits from the start on, at most nineteen, make the value.
use Rattle.std.proofs.Common.{arith, ◌<◌, ◌≤◌, ◌≡◌, ◌+◌, ◌-◌, ◌*◌, get_or, drop, subst}
use Rattle.flow_text.proofs.DigitLemmas.{fits-nineteen, less_zero, is_digit-less_zero, less_zero-digit}
use Rattle.flow_text.specs.UsualLines.{IsLeading}
use Rattle.flow_text.proofs.UsualLemmas.{IsLeading-none, IsLeading-at}
use Rattle.flow_text.proofs.usual_lines.leading_digits.Goals as goal

-- no digit yet
pub loop-i-init : goal.loop-i-init
loop-i-init c =
    let none : 0 ≡ c.args.start - c.args.start = omega arith in
    subst (λ k. IsLeading (drop c.args.start c.args.text.now) 0 k) none
    (IsLeading-none (drop c.args.start c.args.text.now))

-- no step overflows
pub overflow_mul-value : goal.overflow_mul-value
overflow_mul-value c =
    let more = fits-nineteen (c.loop-i.i - c.args.start) c.loop-i.value (omega arith) c.loop-i.invariant.fits in
    omega arith

pub overflow_add-value : goal.overflow_add-value
overflow_add-value c =
    let more = fits-nineteen (c.loop-i.i - c.args.start) c.loop-i.value (omega arith) c.loop-i.invariant.fits in
    omega arith

-- one more digit: a byte less '0' that is at most 9
pub loop-i-preserved : goal.loop-i-preserved
loop-i-preserved c =
    let byte = get_or c.args.text.now c.loop-i.i 0 in
    let known = c.type_inv.text c.loop-i.i in
    let fits : byte < 256 = omega arith in
    let nine : less_zero byte ≤ 9 = c.if-digit-gt9.false in
    let digit : byte - 48 ≡ less_zero byte = less_zero-digit byte fits nine in
    subst (λ d. IsLeading (drop c.args.start c.args.text.now) (c.loop-i.value * 10 + d) (c.loop-i.i + 1 - c.args.start))
    digit (IsLeading-at c.args.text.now c.loop-i.value c.args.start c.loop-i.i (omega arith) (omega arith)
    (is_digit-less_zero byte fits nine) (omega arith) c.loop-i.invariant)
