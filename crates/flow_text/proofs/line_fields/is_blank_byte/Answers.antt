-- `is_blank_byte`: a byte that is neither of the first two is a blank where it is the third.
use Rattle.std.proofs.Common.{refl, ne_eqb}
use Rattle.flow_text.proofs.line_fields.is_blank_byte.Goals as goal

pub returns-else-byte-eq9 : goal.returns-else-byte-eq9
returns-else-byte-eq9 c =
    rw (ne_eqb c.args.byte 32 c.if-byte-eq9.false.0, ne_eqb c.args.byte 9 c.if-byte-eq9.false.1) refl
