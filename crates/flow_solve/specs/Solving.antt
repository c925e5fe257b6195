-- Flows as the solvers keep them.
use Rattle.std.specs.Prelude.{ℕ, List}
use Rattle.flow_net.specs.Nets.{Net}
use Rattle.flow_net.specs.NodeSets.{one_of}
use Rattle.flow_net.specs.Flows.{IsFeasible, HasValue, HasNoLoops}

-- a feasible flow from the sources to the sinks, of so great a value, with nothing on self-loops
pub record IsFlow (net : Net) (s t xs : List ℕ) (k : ℕ) : Type 0 where
  pub feasible : IsFeasible net (one_of s) (one_of t) xs
  pub value : HasValue net (one_of s) xs k
  pub no_loops : HasNoLoops net xs
