-- `push_node_line`: the bytes before the digits and the digits make the line.
use Rattle.std.proofs.Common.{◌<◌, arith, append_assoc}
use Rattle.flow_text.specs.Output.{line_of}
use Rattle.flow_text.proofs.OutputLemmas.{decimal_10, written_front}
use Rattle.flow_text.proofs.output.push_node_line.Goals as goal

pub returns : goal.returns
unfolding line_of
returns g c =
    let room : 0 < c.put_number-end.result = omega (arith, decimal_10 c.args.node c.ranges.node.fits) in
    let front = written_front c.put_number-end.new.bytes 16 c.put_number-end.result 110 (omega arith) room
    (omega arith) in
    simp (c.push_short.ensures, front, c.put_number-end.ensures.written, append_assoc)
