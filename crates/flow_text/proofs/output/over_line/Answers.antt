-- The line is the word and the four numbers as they were appended.
use Rattle.flow_text.proofs.OutputLemmas.{four_numbers}
use Rattle.flow_text.proofs.output.over_line.Goals as goal

pub returns : goal.returns
returns c =
    rw (
      c.push_bytes-2.ensures,
      c.push_field-4.ensures.items,
      c.push_field-3.ensures.items,
      c.push_field-2.ensures.items,
      c.push_field.ensures.items,
      c.push_bytes.ensures,
      c.new-line.ensures,
    ) (four_numbers "over" c.args.src c.args.dst c.args.flow c.args.cap)
