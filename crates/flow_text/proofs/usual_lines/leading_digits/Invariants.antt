-- `leading_digits`: the bytes passed are digits and make the value.
use Rattle.std.proofs.Common.{◌-◌, drop}
use Rattle.flow_text.specs.UsualLines.{IsLeading}
use Rattle.flow_text.proofs.usual_lines.leading_digits.Given as goal

abbrev pub invariant-loop-i : goal.invariant-loop-i
invariant-loop-i l = IsLeading (drop l.start l.text) l.value (l.i - l.start)
