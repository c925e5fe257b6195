use Rattle.flow_text.proofs.scan.number.Goals as goal

pub returns-else-field-le-SHORT_DIGITS : goal.returns-else-field-le-SHORT_DIGITS
returns-else-field-le-SHORT_DIGITS c = c.long_number.ensures
