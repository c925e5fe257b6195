-- Waves of excess: what they go by, and what they leave.
use Rattle.std.specs.Prelude.{◌≡◌, ℕ, ◌*◌, ◌<◌, ◌≤◌, length, slice_index}
use Rattle.flow_net.specs.Flows.{Fits}
use Rattle.flow_net.specs.Nets.{Net}
use Rattle.flow_net.specs.Residual.{Table}
use Rattle.flow_solve.specs.declared.levels.waves.excess.Wave.{Wave}
use Rattle.flow_solve.specs.declared.levels.waves.passing.Row.{Row}
use Rattle.flow_solve.specs.declared.residual.packing.Packed.{Packed}
use Rattle.flow_solve.specs.residual.Packs.{IsPacked}
use Rattle.flow_solve.specs.Steps.{PaysLooks, PaysSteps}

-- a flow that fits a packed network, and cells for its nodes
pub record IsWaving (packed : Packed) (table : Table) (wave : Wave) : Type 0 where
  pub fits : Fits packed.net.now table.flows
  pub is_packed : IsPacked packed.net.now packed.first.now packed.halves.now
  pub nodes : wave.nodes ≡ packed.net.now.nodes
  pub size : length wave.cells.now ≡ 5 * packed.net.now.nodes

-- half-arcs of a network
pub record IsRow (net : Net) (row : Row) : Type 0 where
  pub most : length row.halves.now ≤ 2 * length net.arcs
  pub holds : (p : ℕ) → p < length row.halves.now → slice_index row.halves.now p < 2 * length net.arcs

-- There are cells for a node.
pub record HasCells (wave : Wave) (node : ℕ) : Type 0 where
  pub size : length wave.cells.now ≡ 5 * wave.nodes
  pub least : 1 ≤ node
  pub most : node ≤ wave.nodes

-- the same cells, whatever they hold
pub record StaysIn (before after : Wave) : Type 0 where
  pub cells : after.cells.ghost_name ≡ before.cells.ghost_name
  pub size : length after.cells.now ≡ length before.cells.now
  pub nodes : after.nodes ≡ before.nodes

-- Nothing was spent.
pub record OnlyMarks (before after : Wave) : Type 0 where
  pub stays : StaysIn before after
  pub left : after.left ≡ before.left

-- Half-arcs were looked at, and each look is paid by the wave.
pub record HasLookedOut (before : Table) (wave : Wave) (after : Table) (wave' : Wave) : Type 0 where
  pub stays : StaysIn wave wave'
  pub paid : PaysLooks before wave.left after wave'.left

-- The flow still fits, and the steps taken are paid by the wave.
pub record HasSent (packed : Packed) (before : Table) (wave : Wave) (after : Table) (wave' : Wave) : Type 0 where
  pub stays : StaysIn wave wave'
  pub fits : Fits packed.net.now after.flows
  pub paid : PaysSteps before wave.left after wave'.left
