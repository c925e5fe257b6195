-- The laws of the texts that `solve` and `cut` put: their value is the least capacity of a cut, and the set of `cut` is
-- a minimum cut whose capacity is the value.
use Rattle.std.specs.Prelude.{◌≡◌, ℕ, Bool, List, Ok}
use Rattle.flow_net.specs.Nets.{Instance}
use Rattle.flow_net.specs.NodeSets.{one_of, IsLeastOver}
use Rattle.flow_net.specs.Flows.{IsGreatest}
use Rattle.flow_net.specs.Cuts.{IsCut, IsMinimumCut, capacity}
use Rattle.flow_text.specs.Problem.{problem}
use Rattle.flow_tools.specs.running.Answers.{IsCutText}

-- One number is the greatest value of a feasible flow and the least capacity of a cut.
pub record IsValueOf (p : Instance) (value : ℕ) : Type 0 where
  pub greatest : IsGreatest p.net (one_of p.sources) (one_of p.sinks) value
  pub least : IsLeastOver (IsCut (one_of p.sources) (one_of p.sinks)) (capacity p.net) value

-- for every text that is accepted as a problem: the greatest value is the least capacity of a cut
abbrev pub GreatestIsLeast : Type 0
GreatestIsLeast = (b : List ℕ) (p : Instance) (value : ℕ) → problem b ≡ Ok p
    → IsGreatest p.net (one_of p.sources) (one_of p.sinks) value → IsValueOf p value

-- and each text that `cut` may print for it tells a minimum cut, whose capacity is the value
abbrev pub PrintedCutIsMinimum : Type 0
PrintedCutIsMinimum = (b : List ℕ) (p : Instance) (arcs sink : Bool) (text : List ℕ) → problem b ≡ Ok p
    → (cut : IsCutText p arcs sink text)
    → IsMinimumCut p.net (one_of p.sources) (one_of p.sinks) cut.X × (capacity p.net cut.X ≡ cut.value)
