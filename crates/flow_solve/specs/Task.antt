-- What a task is, and the flow that is kept while it is worked on.
use Rattle.std.specs.Prelude.{ℕ, List}
use Rattle.flow_net.specs.Limits.{AreTerminals}
use Rattle.flow_solve.specs.declared.task.Task.{Task}
use Rattle.flow_solve.specs.residual.Packs.{IsPacked}
use Rattle.flow_solve.specs.Solving.{IsFlow}

-- packed half-arcs and good terminals
pub record IsTask (task : Task) : Type 0 where
  pub packed : IsPacked task.packed.net.now task.packed.first.now task.packed.halves.now
  pub terminals : AreTerminals task.packed.net.now task.s.now task.t.now

-- a flow from its sources to its sinks, of so great a value
abbrev pub HasFlow : Task → List ℕ → ℕ → Type 0
HasFlow task xs k = IsFlow task.packed.net.now task.s.now task.t.now xs k
