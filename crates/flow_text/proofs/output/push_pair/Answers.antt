-- `push_pair`: the three numbers, written from the last to the first, and the bytes between them make the line.
use Rattle.std.proofs.Common.{◌<◌, arith, append_assoc}
use Rattle.flow_text.proofs.OutputLemmas.{decimal_10, decimal_20, written_front}
use Rattle.flow_text.proofs.output.push_pair.Goals as goal

pub returns : goal.returns
returns g c =
    let room : 0 < c.put_number-end-3.result =
    omega (
      arith,
      decimal_10 c.args.src c.ranges.src.fits,
      decimal_10 c.args.dst c.ranges.dst.fits,
      decimal_20 c.args.amount c.ranges.amount.fits,
    ) in
    let front = written_front c.put_number-end-3.new.bytes 48 c.put_number-end-3.result c.args.letter (omega arith) room
    (omega arith) in
    simp (
      c.push_bytes.ensures,
      front,
      c.put_number-end-3.ensures.written,
      c.put_number-end-2.ensures.written,
      c.put_number-end.ensures.written,
      append_assoc,
    )
