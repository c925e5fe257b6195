-- What calls do to a table of flows besides what they are for.
use Rattle.std.specs.Prelude.{◌≡◌, ℕ, ◌+◌, ◌≤◌}
use Rattle.flow_net.specs.Residual.{Table}

-- at most so many steps were taken
pub record TakesSteps (before after : Table) (most : ℕ) : Type 0 where
  pub never_lowered : before.steps ≤ after.steps
  pub steps : after.steps ≤ before.steps + most

-- at most so many half-arcs were looked at, and the flows are as they were
pub record OnlyLooks (before after : Table) (most : ℕ) : Type 0 where
  pub flows : after.flows ≡ before.flows
  pub never_lowered : before.steps ≤ after.steps
  pub steps : after.steps ≤ before.steps + most

-- The steps taken are paid: taken off what may still be done.
pub record PaysSteps (before : Table) (given : ℕ) (after : Table) (rest : ℕ) : Type 0 where
  pub never_lowered : before.steps ≤ after.steps
  pub left : rest ≤ given
  pub steps : after.steps + rest ≤ before.steps + given

-- Half-arcs were looked at, each look is paid, and the flows are as they were.
pub record PaysLooks (before : Table) (given : ℕ) (after : Table) (rest : ℕ) : Type 0 where
  pub flows : after.flows ≡ before.flows
  pub never_lowered : before.steps ≤ after.steps
  pub left : rest ≤ given
  pub steps : after.steps + rest ≤ before.steps + given
