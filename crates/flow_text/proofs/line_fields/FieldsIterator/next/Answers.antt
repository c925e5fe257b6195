-- `next`: where only blanks are left there is no field.
use Rattle.std.proofs.Common.{arith, sym, ◌∙◌}
use Rattle.flow_text.proofs.FieldLemmas.{fields_of-none}
use Rattle.flow_text.proofs.line_fields.FieldsIterator.next.Goals as goal

pub returns-then-start-line-clause-steps : goal.returns-then-start-line-clause-steps
returns-then-start-line-clause-steps c =
    let none = fields_of-none c.self.inside.rest.now c.blanks_end-start.result (omega arith)
    c.blanks_end-start.ensures.same in
    (sym c.self.view_is ∙ none, sym c.self.view_is ∙ none)
