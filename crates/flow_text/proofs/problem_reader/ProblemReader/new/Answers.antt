-- `new`: of the empty text no line is known.
use Rattle.flow_text.specs.Problem.{known_of}
use Rattle.flow_text.proofs.problem_reader.ProblemReader.new.Goals as goal

pub returns : goal.returns
returns c = c.new-2.ensures known_of c.new.ensures
