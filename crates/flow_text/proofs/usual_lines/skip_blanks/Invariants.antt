-- `skip_blanks`: the bytes passed are blanks.
use Rattle.flow_text.specs.UsualLines.{AreBlanks}
use Rattle.flow_text.proofs.usual_lines.skip_blanks.Given as goal

abbrev pub invariant-loop-i : goal.invariant-loop-i
invariant-loop-i l = AreBlanks l.text l.start l.i
