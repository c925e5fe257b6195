-- The least pair and the least node that a verdict tells, and the verdicts that need no search.
use Rattle.std.specs.Prelude.{◌≡◌, ◌≢◌, ℕ, ◌<◌, ◌≤◌, ◌⊎◌, Bool, List, Option, None, Some}
use Rattle.flow_net.specs.Nets.{Net, Instance}
use Rattle.flow_net.specs.NodeSets.{just}
use Rattle.flow_text.specs.declared.solutions.FlowLine.{FlowLine}
use Rattle.flow_text.specs.declared.verdicts.Verdict.{Verdict}
use Rattle.flow_tools.specs.checking.SolutionFlows.{pair_flow, pair_cap, lines_out_of, lines_into}
use Rattle.flow_tools.specs.checking.Verdicts.{IsInner, IsRight, IsVerdict}

-- the least pair whose flow passes its capacity, by the first node, then by the second
pub record IsFirstOver (net : Net) (lines : List FlowLine) (src dst : ℕ) : Type 0 where
  pub over : pair_cap net src dst < pair_flow lines src dst
  pub least : (u v : ℕ) → (u < src) ⊎ ((u ≡ src) × (v < dst)) → pair_flow lines u v ≤ pair_cap net u v

-- what enters a node leaves it
abbrev pub IsBalancedAt : List FlowLine → ℕ → Type 0
IsBalancedAt lines v = lines_into (just v) lines ≡ lines_out_of (just v) lines

-- the least node, neither source nor sink, of which what enters it isn't what leaves it
pub record IsFirstUnbalanced (p : Instance) (lines : List FlowLine) (node : ℕ) : Type 0 where
  pub inner : IsInner p node
  pub unbalanced : lines_into (just node) lines ≢ lines_out_of (just node) lines
  pub least : (v : ℕ) → v < node → IsInner p v → IsBalancedAt lines v

-- what is said of a solution in which no pair's flow passes its capacity, before it is asked whether its value is the
-- greatest: a verdict, if one of its sums is wrong
abbrev pub IsSumsVerdict : Instance → ℕ → List FlowLine → Option Verdict → Type 0
IsSumsVerdict p given lines None = IsRight p given lines
IsSumsVerdict p given lines (Some verdict) = (only : Bool) → IsVerdict p given lines only verdict
