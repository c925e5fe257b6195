-- `field_end`: no byte passed is a blank.
use Rattle.std.proofs.Common.{◌≡◌, ◌≤◌, ◌<◌, ℕ, get_or, false}
use Rattle.flow_text.specs.LineParts.{is_blank}
use Rattle.flow_text.proofs.line_fields.field_end.Given as goal

abbrev pub invariant-loop-i : goal.invariant-loop-i
invariant-loop-i l = (k : ℕ) → l.start ≤ k → k < l.i → is_blank (get_or l.line k 0) ≡ false
