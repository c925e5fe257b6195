-- `new`: of the empty text no line is known.
use Rattle.std.proofs.Common.{[], sym, ◌∙◌}
use Rattle.flow_text.specs.SolutionReading.{so_far_of}
use Rattle.flow_text.proofs.SolutionLemmas.{early-same}
use Rattle.flow_text.proofs.solution_reader.SolutionReader.new.Goals as goal

pub returns : goal.returns
returns c =
    let r = c.new-2.ensures (so_far_of c.args.nodes) c.new.ensures in
    (r, sym (early-same c.args.nodes []) ∙ r.fine)
