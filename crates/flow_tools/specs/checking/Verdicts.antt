-- The verdict on a solution of a maximum flow problem.
use Rattle.std.specs.Prelude.{◌≡◌, ◌≢◌, ℕ, ◌<◌, ◌≤◌, ◌⊎◌, Bool, true, false, List, IsFalse, pos}
use Rattle.flow_net.specs.Nets.{Net, Instance, IsNode}
use Rattle.flow_net.specs.NodeSets.{one_of, just}
use Rattle.flow_net.specs.Flows.{IsGreatest}
use Rattle.flow_text.specs.declared.solutions.FlowLine.{FlowLine}
use Rattle.flow_text.specs.declared.verdicts.Verdict.{Verdict}
use Rattle.flow_text.specs.declared.verdicts.Verdict.TheVariants.{Over, Unbalanced, Value, Feasible, NotMaximal}
use Rattle.flow_text.specs.declared.verdicts.Verdict.TheVariants.{Optimal}
use Rattle.flow_tools.specs.checking.SolutionFlows.{pair_flow, pair_cap, lines_out_of, lines_into, net_outflow}

-- a node that is neither source nor sink
abbrev pub IsInner : Instance → ℕ → Type 0
IsInner p v = IsNode p.net v × IsFalse (one_of p.sources v) × IsFalse (one_of p.sinks v)

-- no pair's flow passes its capacity
abbrev pub IsWithinCapacities : Net → List FlowLine → Type 0
IsWithinCapacities net lines = (u v : ℕ) → pair_flow lines u v ≤ pair_cap net u v

-- what enters a node that is neither source nor sink leaves it
abbrev pub IsBalanced : Instance → List FlowLine → Type 0
IsBalanced p lines = (v : ℕ) → IsInner p v → lines_into (just v) lines ≡ lines_out_of (just v) lines

-- the flow lines are those of a feasible flow, and VALUE is its value
abbrev pub IsRight : Instance → ℕ → List FlowLine → Type 0
IsRight p value lines = IsWithinCapacities p.net lines × IsBalanced p lines × (pos value ≡ net_outflow p lines)

-- The verdict on VALUE, as it is given, and the flow lines is the first that applies: that a pair's flow passes its
-- capacity, of the least pair by its first node and then by its second; that what enters a node isn't what leaves it,
-- of the least node that is neither source nor sink; that VALUE isn't the flow's value; or one of the last three.
abbrev pub IsVerdict : Instance → ℕ → List FlowLine → Bool → Verdict → Type 0
IsVerdict p given lines _ (Over src dst flow cap) =
    (flow ≡ pair_flow lines src dst) × (cap ≡ pair_cap p.net src dst) × (cap < flow)
    × ((u v : ℕ) → (u < src) ⊎ ((u ≡ src) × (v < dst)) → pair_flow lines u v ≤ pair_cap p.net u v)
IsVerdict p given lines _ (Unbalanced node into out) = IsWithinCapacities p.net lines × IsInner p node
    × (into ≡ lines_into (just node) lines) × (out ≡ lines_out_of (just node) lines) × (into ≢ out)
    × ((v : ℕ) → v < node → IsInner p v → lines_into (just v) lines ≡ lines_out_of (just v) lines)
IsVerdict p given lines _ (Value value found) = IsWithinCapacities p.net lines × IsBalanced p lines
    × (pos value ≢ found) × (value ≡ given) × (found ≡ net_outflow p lines)
IsVerdict p given lines only (Feasible value) = IsRight p given lines × (only ≡ true) × (value ≡ given)
IsVerdict p given lines only (NotMaximal value) = IsRight p given lines × (only ≡ false) × (value ≡ given)
    × ((k : ℕ) × IsGreatest p.net (one_of p.sources) (one_of p.sinks) k × (value < k))
IsVerdict p given lines only (Optimal value) = IsRight p given lines × (only ≡ false) × (value ≡ given)
    × IsGreatest p.net (one_of p.sources) (one_of p.sinks) value
