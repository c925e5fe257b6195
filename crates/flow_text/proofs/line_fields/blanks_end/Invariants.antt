-- `blanks_end`: what is left after the blanks passed has the line's fields.
use Rattle.std.proofs.Common.{◌≡◌, drop}
use Rattle.flow_text.specs.Fields.{fields_of}
use Rattle.flow_text.proofs.line_fields.blanks_end.Given as goal

abbrev pub invariant-loop-i : goal.invariant-loop-i
invariant-loop-i l = fields_of (drop l.i l.line) ≡ fields_of l.line
