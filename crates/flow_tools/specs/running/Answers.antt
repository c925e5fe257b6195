-- What each job puts for an accepted problem, and with which status it ends.
use Rattle.std.specs.Prelude.{◌≡◌, ◌↔◌, ℕ, Bool, true, false, not, List, [], ◌∷◌, Ok, if◌then◌else◌}
use Rattle.flow_net.specs.Nets.{Net, Instance, IsNode}
use Rattle.flow_net.specs.NodeSets.{one_of, IsLeastOver}
use Rattle.flow_net.specs.Flows.{IsFeasible, HasValue, IsGreatest, HasNoLoops}
use Rattle.flow_net.specs.Cuts.{IsCut, IsMinimumCut}
use Rattle.flow_net.specs.Connectivity.{leaving, crossing, IsProper}
use Rattle.flow_text.specs.Output.{line_of, solve_text, cut_text, verdict_line}
use Rattle.flow_text.specs.Solution.{solution}
use Rattle.flow_text.specs.declared.solutions.FlowLine.{FlowLine}
use Rattle.flow_text.specs.declared.verdicts.Verdict.{Verdict}
use Rattle.flow_text.specs.declared.verdicts.Verdict.TheVariants.{Feasible, Optimal}
use Rattle.flow_tools.specs.checking.Verdicts.{IsVerdict}
use Rattle.flow_tools.specs.declared.running.jobs.Job.{Job}
use Rattle.flow_tools.specs.declared.running.jobs.Job.TheVariants.{Solve, Cut, Connect, Check}

-- on one side of a set, inside (true) or outside (false), stand exactly the nodes that every minimum cut has there
abbrev pub IsNearest : Net → (ℕ → Bool) → (ℕ → Bool) → Bool → (ℕ → Bool) → Type 0
IsNearest net s t side X = (v : ℕ) → IsNode net v →
    (X v ≡ side) ↔ ((Y : ℕ → Bool) → IsMinimumCut net s t Y → Y v ≡ side)

-- What `solve` puts: the greatest value, and some feasible flow that has it, in which self-loops carry nothing.
pub record IsSolveText (p : Instance) (value_only : Bool) (text : List ℕ) : Type 0 where
  pub value : ℕ
  pub flows : List ℕ
  pub greatest : IsGreatest p.net (one_of p.sources) (one_of p.sinks) value
  pub feasible : IsFeasible p.net (one_of p.sources) (one_of p.sinks) flows
  pub valued : HasValue p.net (one_of p.sources) flows value
  pub no_loops : HasNoLoops p.net flows
  pub text_is : text ≡ solve_text value_only p.net value flows

-- What `cut` puts: the greatest value, and the set inside which stand exactly the nodes that lie inside every minimum
-- cut; or, nearest the sinks, outside which stand exactly those outside every one. It is a minimum cut itself, and its
-- capacity is the value: this is a law (`CutTexts.antt`).
pub record IsCutText (p : Instance) (arcs sink : Bool) (text : List ℕ) : Type 0 where
  pub value : ℕ
  pub X : ℕ → Bool
  pub greatest : IsGreatest p.net (one_of p.sources) (one_of p.sinks) value
  pub nearest : IsNearest p.net (one_of p.sources) (one_of p.sinks) (not sink) X
  pub text_is : text ≡ cut_text arcs p.net value X

-- the sets that a connectivity is the least over: all proper sets of nodes or, with the pair, those with every source
-- inside and every sink outside
abbrev pub IsSeparating : Instance → Bool → (ℕ → Bool) → Type 0
IsSeparating p false X = IsProper p.net X
IsSeparating p true X = IsCut (one_of p.sources) (one_of p.sinks) X

-- the status of a check: 0 where the solution is right
abbrev pub verdict_status : Verdict → ℕ
verdict_status (Feasible value) = 0
verdict_status (Optimal value) = 0
verdict_status _ = 1

-- The answer of a job to a problem: a text, and the status of the run. `connect` puts the least number of arcs that
-- leave a set or, undirected, that have exactly one end in it. `check` alone has to do with a solution's text q, and
-- puts the verdict on what it says.
abbrev pub IsAnswer : Job → Instance → List ℕ → List ℕ → ℕ → Type 0
IsAnswer (Solve value_only) p q text status = IsSolveText p value_only text × (status ≡ 0)
IsAnswer (Cut arcs sink) p q text status = IsCutText p arcs sink text × (status ≡ 0)
IsAnswer (Connect undirected pair) p q text status =
    (value : ℕ) × IsLeastOver (IsSeparating p pair) (if undirected then crossing p.net else leaving p.net) value
    × (text ≡ line_of "k" (value ∷ [])) × (status ≡ 0)
IsAnswer (Check feasible_only) p q text status =
    (given : ℕ) × (lines : List FlowLine) × (verdict : Verdict) × (solution q p.net.nodes ≡ Ok (given, lines))
    × IsVerdict p given lines feasible_only verdict × (text ≡ verdict_line verdict) × (status ≡ verdict_status verdict)
