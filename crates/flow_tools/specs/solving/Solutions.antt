-- What it is to solve a network with its terminals: a greatest flow, and the minimum cut nearest the sources or nearest
-- the sinks.
use Rattle.std.specs.Prelude.{◌≡◌, ℕ, Bool, true, false, not, List}
use Rattle.flow_net.specs.Nets.{Instance}
use Rattle.flow_net.specs.NodeSets.{one_of}
use Rattle.flow_net.specs.MarkedNodes.{marked}
use Rattle.flow_net.specs.Flows.{IsFeasible, HasValue, HasNoLoops}
use Rattle.flow_net.specs.Cuts.{IsMinimumCut, capacity}
use Rattle.flow_tools.specs.running.Answers.{IsNearest}
use Rattle.flow_tools.specs.laws.CutTexts.{IsValueOf}
use Rattle.flow_tools.specs.declared.solving.answers.Side.{Side}
use Rattle.flow_tools.specs.declared.solving.answers.Side.TheVariants.{Source, Sink}

-- the greatest value, and a feasible flow that has it, in which self-loops carry nothing
pub record IsSolution (p : Instance) (value : ℕ) (flows : List ℕ) : Type 0 where
  pub value_is : IsValueOf p value
  pub feasible : IsFeasible p.net (one_of p.sources) (one_of p.sinks) flows
  pub valued : HasValue p.net (one_of p.sources) flows value
  pub no_loops : HasNoLoops p.net flows

-- whether it is the cut nearest the sinks
abbrev pub is_sink : Side → Bool
is_sink Source = false
is_sink Sink = true

-- the nodes marked are the source side of the minimum cut nearest the sources, or nearest the sinks, and the value is
-- its capacity
pub record IsMarkedCut (p : Instance) (sink : Bool) (value : ℕ) (side : List Bool) : Type 0 where
  pub value_is : IsValueOf p value
  pub minimum : IsMinimumCut p.net (one_of p.sources) (one_of p.sinks) (marked side)
  pub valued : capacity p.net (marked side) ≡ value
  pub nearest : IsNearest p.net (one_of p.sources) (one_of p.sinks) (not sink) (marked side)
