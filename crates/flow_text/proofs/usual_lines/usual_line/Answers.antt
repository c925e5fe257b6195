-- `usual_line`: a letter, three numbers behind blanks, and blanks up to byte 10 are a line with these fields.
use Rattle.std.proofs.Common.{arith}
use Rattle.flow_text.proofs.UsualLemmas.{IsUsual-at}
use Rattle.flow_text.proofs.usual_lines.usual_line.Goals as goal

pub returns : goal.returns
returns c =
    let a = c.in_ok-src.ensures.short in
    let b = c.in_ok-dst.ensures.short in
    let n = c.in_ok-number.ensures.short in
    IsUsual-at c.args.letter c.args.text.now c.in_ok-src.first c.in_ok-dst.second c.in_ok-number.third c.skip_blanks-at.result
    c.requires c.if-text-letter.false c.in_ok-src.ensures c.in_ok-dst.ensures c.in_ok-number.ensures (omega arith)
    (omega arith) (omega arith) c.skip_blanks-at.ensures.blanks c.if-text-at-ne10.false
