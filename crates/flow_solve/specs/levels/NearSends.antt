-- Near sends: what they go by, and what they leave.
use Rattle.std.specs.Prelude.{◌≡◌, ℕ, ◌+◌, ◌≤◌, List, length}
use Rattle.flow_net.specs.Nets.{Net}
use Rattle.flow_net.specs.Flows.{Fits}
use Rattle.flow_net.specs.Residual.{Table, residual}
use Rattle.flow_solve.specs.declared.levels.near_sends.Sending.{Sending}
use Rattle.flow_solve.specs.Steps.{PaysSteps}
use Rattle.flow_solve.specs.levels.Entries.{HasRows}

-- rows of a network, a flow that fits it, and a cell for each node
pub record IsSending (table : Table) (sending : Sending) : Type 0 where
  pub rows : HasRows sending.packed.net.now sending.packed.first.now sending.packed.halves.now
  pub fits : Fits sending.packed.net.now table.flows
  pub size : length sending.last.now ≡ sending.packed.net.now.nodes

-- the same network, and cells in the same place
pub record StaysAt (before after : Sending) : Type 0 where
  pub packed : after.packed ≡ before.packed
  pub last : after.last.ghost_name ≡ before.last.ghost_name

-- The flow still fits, the steps taken are paid, and no more may be done than before.
pub record HasSentNear (before : Table) (old : Sending) (given : ℕ) (after : Table) (new : Sending) : Type 0 where
  pub sending : IsSending after new
  pub stays : StaysAt old new
  pub paid : PaysSteps before given after new.left
  pub left : new.left ≤ old.left

-- Of so much as may go over a half-arc, at most all was sent, and the rest remains there.
pub record IsSent (net : Net) (whole sent : ℕ) (flows : List ℕ) (h : ℕ) : Type 0 where
  pub most : sent ≤ whole
  pub rest : whole ≤ sent + residual net flows h
