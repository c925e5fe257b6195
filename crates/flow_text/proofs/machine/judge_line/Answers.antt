-- `judge_line`: the four cases of a line, in the order of the rules.
use Rattle.std.proofs.Common.{sym, ◌∙◌}
use Rattle.flow_text.proofs.RuleLemmas.{of_comment, of_long, of_empty, of_fields, Judges-along}
use Rattle.flow_text.proofs.machine.judge_line.Goals as goal

-- a comment
pub returns-then-begins_comment : goal.returns-then-begins_comment
returns-then-begins_comment g c =
    of_comment g.J.Judge.rules g.J.Judge.with_record _ _ (sym c.begins_comment.ensures ∙ c.if-begins_comment.true)

-- a line that is too long
pub returns-then-line-gt-LONGEST_LINE : goal.returns-then-line-gt-LONGEST_LINE
returns-then-line-gt-LONGEST_LINE g c =
    of_long g.J.Judge.rules _ _ (sym c.begins_comment.ensures ∙ c.if-begins_comment.false)
    c.if-line-gt-LONGEST_LINE.true

-- a line without fields
pub returns-in_default : goal.returns-in_default
returns-in_default g c =
    of_empty g.J.Judge.rules g.J.Judge.with_record _ _ (sym c.begins_comment.ensures ∙ c.if-begins_comment.false)
    c.if-line-gt-LONGEST_LINE.false (sym c.fields-others.ensures ∙ c.in_default.ensures.steps.0)

-- any other line: the fault of its record
pub returns : goal.returns
returns g c =
    Judges-along _ _ _ _ _ c.judge_fields.result
    (of_fields g.J.Judge.rules g.J.Judge.with_record _ _ _ _
    (sym c.begins_comment.ensures ∙ c.if-begins_comment.false) c.if-line-gt-LONGEST_LINE.false
    (sym c.fields-others.ensures ∙ c.in-Some.ensures.steps)) c.judge_fields.ensures
