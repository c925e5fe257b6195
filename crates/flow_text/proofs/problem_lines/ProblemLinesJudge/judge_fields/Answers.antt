-- `judge_fields`: the record by its letter.
use Rattle.std.proofs.Common.{sym, ◌∙◌}
use Rattle.flow_text.proofs.RuleLemmas.{Judges-along}
use Rattle.flow_text.proofs.ProblemLemmas.{of_problem, of_node, of_arc, of_unknown}
use Rattle.flow_text.proofs.problem_lines.ProblemLinesJudge.judge_fields.Goals as goal

-- a problem line
pub returns-then-is_word : goal.returns-then-is_word
returns-then-is_word c =
    Judges-along _ _ _ _ _ c.problem_line.result
    (of_problem c.args.self.now c.args.letter.now c.args.others (sym c.is_word.ensures ∙ c.if-is_word.true))
    (c.problem_line.ensures c.args.letter.now)

-- a node line
pub returns-then-is_word-2 : goal.returns-then-is_word-2
returns-then-is_word-2 c =
    Judges-along _ _ _ _ _ c.node_line.result
    (of_node c.args.self.now c.args.letter.now c.args.others (sym c.is_word.ensures ∙ c.if-is_word.false)
    (sym c.is_word-else-is_word.ensures ∙ c.if-is_word-2.true)) (c.node_line.ensures c.args.letter.now)

-- an arc line
pub returns-then-is_word-3 : goal.returns-then-is_word-3
returns-then-is_word-3 c =
    Judges-along _ _ _ _ _ c.arc_line.result
    (of_arc c.args.self.now c.args.letter.now c.args.others (sym c.is_word.ensures ∙ c.if-is_word.false)
    (sym c.is_word-else-is_word.ensures ∙ c.if-is_word-2.false)
    (sym c.is_word-else-is_word-2.ensures ∙ c.if-is_word-3.true)) (c.arc_line.ensures c.args.letter.now)

-- no line of the format
pub returns-else-is_word-3 : goal.returns-else-is_word-3
returns-else-is_word-3 c =
    of_unknown c.args.self.now c.args.letter.now c.args.others (sym c.is_word.ensures ∙ c.if-is_word.false)
    (sym c.is_word-else-is_word.ensures ∙ c.if-is_word-2.false)
    (sym c.is_word-else-is_word-2.ensures ∙ c.if-is_word-3.false)
