-- `field_end`: bytes that aren't blank, up to a blank or the line's end, are its first field.
use Rattle.std.proofs.Common.{arith, sym, ◌∙◌, length}
use Rattle.flow_text.proofs.FieldLemmas.{fields_of-at}
use Rattle.flow_text.proofs.line_fields.field_end.Goals as goal

-- a blank ends it
pub returns-then-is_blank_byte-clause-first : goal.returns-then-is_blank_byte-clause-first
returns-then-is_blank_byte-clause-first c =
    fields_of-at c.args.line.now c.args.start c.loop-i.i (omega arith) (omega arith) c.loop-i.invariant
    (λ h. sym c.is_blank_byte.ensures ∙ c.if-is_blank_byte.true)

-- the line ends it
pub returns-clause-first : goal.returns-clause-first
returns-clause-first c =
    fields_of-at c.args.line.now c.args.start (length c.args.line.now) (omega arith) (omega arith)
    (λ k low high. c.loop-i.invariant k low (omega arith)) (λ h. absurd (omega arith))
