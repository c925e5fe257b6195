-- `has_augmenting_path`: it answers what the search does.
use Rattle.flow_solve.proofs.sides.has_augmenting_path.Goals as goal

pub returns-clause-answer : goal.returns-clause-answer
returns-clause-answer c = c.leads_on_packed.ensures.answer
