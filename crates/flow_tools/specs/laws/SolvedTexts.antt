-- The law that joins solving and checking: what `solve` puts is a solution, and the verdict on it is that it is
-- optimal.
use Rattle.std.specs.Prelude.{◌≡◌, ◌↔◌, ℕ, false, List, map, Ok}
use Rattle.std.specs.List.{zip}
use Rattle.flow_net.specs.declared.networks.Arc.{Arc}
use Rattle.flow_net.specs.Nets.{Net, Instance}
use Rattle.flow_net.specs.NodeSets.{one_of}
use Rattle.flow_net.specs.Flows.{IsGreatest}
use Rattle.flow_text.specs.Problem.{problem}
use Rattle.flow_text.specs.SolutionReading.{Written}
use Rattle.flow_text.specs.Solution.{solution}
use Rattle.flow_text.specs.declared.solutions.FlowLine.{FlowLine}
use Rattle.flow_text.specs.declared.verdicts.Verdict.{Verdict}
use Rattle.flow_text.specs.declared.verdicts.Verdict.TheVariants.{Optimal}
use Rattle.flow_tools.specs.checking.Verdicts.{IsVerdict}
use Rattle.flow_tools.specs.running.Answers.{IsSolveText}

-- an arc's flow as a flow line
abbrev pub carried_line : Arc × ℕ → FlowLine
carried_line (arc, flow) = record { src = arc.src; dst = arc.dst; flow = flow }

-- a flow as a solution: its value, and a flow line for each arc
abbrev pub written_flow : Net → ℕ → List ℕ → Written
written_flow net value flows = record { value = value; lines = map carried_line (zip net.arcs flows) }

-- for every text that is accepted as a problem: each text that `solve` may print for it, whichever greatest flow it
-- has, is accepted as a solution of it, and the one verdict on it is that it is optimal, with the greatest value
abbrev pub SolvedIsOptimal : Type 0
SolvedIsOptimal = (b : List ℕ) (p : Instance) (text : List ℕ) → problem b ≡ Ok p → IsSolveText p false text
    → (w : Written) × (k : ℕ) × (solution text p.net.nodes ≡ Ok (w.value, w.lines))
    × IsGreatest p.net (one_of p.sources) (one_of p.sinks) k
    × ((verdict : Verdict) → IsVerdict p w.value w.lines false verdict ↔ (verdict ≡ Optimal k))
