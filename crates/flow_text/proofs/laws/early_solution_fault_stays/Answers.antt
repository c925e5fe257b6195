-- The law: an early fault is the first fault of every text that goes on, and so of the whole one.
use Rattle.flow_text.specs.Solution.{solution, solution_rules, stated_of}
use Rattle.flow_text.proofs.EarlyLemmas.{early-whole}
use Rattle.flow_text.proofs.laws.early_solution_fault_stays.Goals as goal

pub returns : goal.returns
unfolding solution
returns c = λ b x nodes fault h. early-whole (solution_rules nodes) stated_of _ b x fault h
