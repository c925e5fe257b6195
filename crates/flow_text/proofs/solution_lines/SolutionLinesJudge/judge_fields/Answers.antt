-- `judge_fields`: the record by its letter.
use Rattle.std.proofs.Common.{sym, ◌∙◌}
use Rattle.flow_text.proofs.RuleLemmas.{Judges-along}
use Rattle.flow_text.proofs.SolutionLemmas.{of_solution, of_flow, of_unknown}
use Rattle.flow_text.proofs.solution_lines.SolutionLinesJudge.judge_fields.Goals as goal

-- a solution line
pub returns-then-is_word : goal.returns-then-is_word
returns-then-is_word c =
    Judges-along _ _ _ _ _ c.solution_line.result
    (of_solution c.args.self.now c.args.letter.now c.args.others (sym c.is_word.ensures ∙ c.if-is_word.true))
    (c.solution_line.ensures c.args.letter.now)

-- a flow line
pub returns-then-is_word-2 : goal.returns-then-is_word-2
returns-then-is_word-2 c =
    Judges-along _ _ _ _ _ c.flow_line.result
    (of_flow c.args.self.now c.args.letter.now c.args.others (sym c.is_word.ensures ∙ c.if-is_word.false)
    (sym c.is_word-else-is_word.ensures ∙ c.if-is_word-2.true)) (c.flow_line.ensures c.args.letter.now)

-- no line of the format
pub returns-else-is_word-2 : goal.returns-else-is_word-2
returns-else-is_word-2 c =
    of_unknown c.args.self.now c.args.letter.now c.args.others (sym c.is_word.ensures ∙ c.if-is_word.false)
    (sym c.is_word-else-is_word.ensures ∙ c.if-is_word-2.false)
