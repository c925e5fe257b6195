-- `blanks_end`: to drop a blank from the front changes no field.
use Rattle.flow_text.proofs.FieldLemmas.{fields_of-drop}
use Rattle.std.proofs.Common.{◌∙◌, arith}
use Rattle.flow_text.proofs.line_fields.blanks_end.Goals as goal

pub loop-i-preserved : goal.loop-i-preserved
loop-i-preserved c = fields_of-drop c.args.line.now c.loop-i.i (omega arith) (grind arith) ∙ c.loop-i.invariant
