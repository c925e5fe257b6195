-- The law: an early fault is the first fault of every text that goes on, and so of the whole one.
use Rattle.flow_text.specs.Problem.{problem, problem_rules, known_of}
use Rattle.flow_text.proofs.EarlyLemmas.{early-whole}
use Rattle.flow_text.proofs.laws.early_fault_stays.Goals as goal

pub returns : goal.returns
unfolding problem
returns c = λ b x fault h. early-whole problem_rules known_of _ b x fault h
