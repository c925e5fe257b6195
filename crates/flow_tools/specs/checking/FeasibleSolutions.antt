-- Solutions whose flow lines say what some feasible flow carries.
use Rattle.std.specs.Prelude.{◌≡◌, ℕ, Bool, true, false, List}
use Rattle.flow_net.specs.Nets.{Instance}
use Rattle.flow_net.specs.NodeSets.{one_of}
use Rattle.flow_net.specs.Flows.{flow_over, IsFeasible}
use Rattle.flow_text.specs.declared.solutions.FlowLine.{FlowLine}
use Rattle.flow_text.specs.declared.verdicts.Verdict.{Verdict}
use Rattle.flow_text.specs.declared.verdicts.Verdict.TheVariants.{Over, Unbalanced, Value, Feasible, NotMaximal}
use Rattle.flow_text.specs.declared.verdicts.Verdict.TheVariants.{Optimal}
use Rattle.flow_tools.specs.checking.SolutionFlows.{pair_flow}
use Rattle.flow_tools.specs.checking.ArcShares.{is_pair}

-- some feasible flow carries in all, over the arcs of each pair of nodes, what the lines say of the pair
abbrev pub IsFeasibleSolution : Instance → List FlowLine → Type 0
IsFeasibleSolution p lines = (xs : List ℕ) × IsFeasible p.net (one_of p.sources) (one_of p.sinks) xs
    × ((u v : ℕ) → flow_over (λ a. is_pair u v a.src a.dst) p.net.arcs xs ≡ pair_flow lines u v)

-- the verdict says that the flow lines are those of a feasible flow
abbrev pub is_of_feasible : Verdict → Bool
is_of_feasible (Over src dst flow cap) = false
is_of_feasible (Unbalanced node into out) = false
is_of_feasible (Value given found) = true
is_of_feasible (Feasible value) = true
is_of_feasible (NotMaximal value) = true
is_of_feasible (Optimal value) = true
