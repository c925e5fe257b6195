-- `feed`: what the machine says of its rules is said of those of a solution.
use Rattle.flow_text.specs.SolutionReading.{so_far_of}
use Rattle.flow_text.proofs.SolutionLemmas.{Adds-solution, feeds}
use Rattle.flow_text.proofs.solution_reader.SolutionReader.feed.Goals as goal

pub returns-clause-fed : goal.returns-clause-fed
returns-clause-fed c = λ nodes b r.
    feeds nodes _ _ _ (c.feed.ensures.fed (so_far_of nodes) (Adds-solution nodes) b (rw (← c.self.view_is) at r.0))
