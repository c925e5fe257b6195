use Rattle.std.proofs.Common.{ap, sym, ◌∙◌}
use Rattle.flow_text.specs.Output.{fault_line}
use Rattle.flow_text.proofs.output.fault_line.Goals as goal

pub returns-then-solution : goal.returns-then-solution
unfolding fault_line
returns-then-solution c =
    c.message_line.ensures ∙ ap (λ solution. fault_line solution c.args.line c.args.code) (sym c.if-solution.true)
