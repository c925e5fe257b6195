-- The laws of lines, and of faults of a text that goes on.
use Rattle.std.specs.Prelude.{◌≡◌, ℕ, List, ◌++◌, Some, Ok, Err}
use Rattle.std.specs.List.{All}
use Rattle.flow_net.specs.Nets.{Instance}
use Rattle.flow_net.specs.Limits.{IsNet, IsProblem}
use Rattle.flow_text.specs.Lines.{ended, rest}
use Rattle.flow_text.specs.LineParts.{joined, HasNoEnd}
use Rattle.flow_text.specs.Problem.{early, problem}
use Rattle.flow_text.specs.Solution.{early_solution, solution}
use Rattle.flow_text.specs.SolutionReading.{Written, IsWithinLimits}
use Rattle.flow_text.specs.declared.faults.FaultCode.{FaultCode}

-- each text is cut into lines and a rest without byte 10 ..
abbrev pub LinesAreCut : Type 0
LinesAreCut = (b : List ℕ) → (joined (ended b) (rest b) ≡ b) × All HasNoEnd (ended b) × HasNoEnd (rest b)

-- .. in one way only
abbrev pub LinesAreCutOneWay : Type 0
LinesAreCutOneWay = (ls : List (List ℕ)) (r : List ℕ) → All HasNoEnd ls → HasNoEnd r → (ended (joined ls r) ≡ ls)
    × (rest (joined ls r) ≡ r)

-- an early fault of a problem text is the fault of every text that goes on from it
abbrev pub EarlyFaultStays : Type 0
EarlyFaultStays = (b x : List ℕ) (fault : ℕ × FaultCode) → early b ≡ Some fault → problem (b ++ x) ≡ Err fault

-- the same of a solution text
abbrev pub EarlySolutionFaultStays : Type 0
EarlySolutionFaultStays = (b x : List ℕ) (nodes : ℕ) (fault : ℕ × FaultCode) → early_solution b nodes ≡ Some fault
    → solution (b ++ x) nodes ≡ Err fault

-- an accepted problem text says a network within the limits, and terminals that are proper: sources and sinks, all
-- nodes, none twice
abbrev pub AcceptedProblemIsWithin : Type 0
AcceptedProblemIsWithin = (b : List ℕ) (p : Instance) → problem b ≡ Ok p → IsNet p.net × IsProblem p

-- an accepted solution text says a value and flow lines within the limits
abbrev pub AcceptedSolutionIsWithin : Type 0
AcceptedSolutionIsWithin = (b : List ℕ) (nodes : ℕ) (found : Written)
    → solution b nodes ≡ Ok (found.value, found.lines) → IsWithinLimits nodes found
