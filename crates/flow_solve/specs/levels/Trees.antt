-- Two search trees: their cells, and what is paid. Nothing is claimed of the trees themselves.
use Rattle.std.specs.Prelude.{◌≡◌, ℕ, ◌*◌, ◌≤◌, length}
use Rattle.flow_net.specs.Flows.{Fits}
use Rattle.flow_net.specs.Residual.{Table}
use Rattle.flow_solve.specs.declared.levels.trees.forest.Trees.{Trees}
use Rattle.flow_solve.specs.declared.residual.packing.Packed.{Packed}
use Rattle.flow_solve.specs.levels.Entries.{HasRows}
use Rattle.flow_solve.specs.Steps.{PaysLooks, PaysSteps}

-- rows of a network, a flow that fits it, and cells for the trees, four for each node
pub record HasTreeCells (p : Packed) (flow : Table) (trees : Trees) : Type 0 where
  pub rows : HasRows p.net.now p.first.now p.halves.now
  pub size : 4 * p.net.now.nodes ≤ length trees.cells.now
  pub fits : Fits p.net.now flow.flows

-- There are cells for a node.
pub record HaveCells (trees : Trees) (node : ℕ) : Type 0 where
  pub least : 1 ≤ node
  pub most : 4 * node ≤ length trees.cells.now

-- as many cells, whatever they hold
abbrev pub AreSameTrees : Trees → Trees → Type 0
AreSameTrees before after = length after.cells.now ≡ length before.cells.now

-- Nothing was spent.
pub record HaveMarked (before after : Trees) : Type 0 where
  pub stays : AreSameTrees before after
  pub left : after.left ≡ before.left

-- At most something was spent.
pub record HaveSpent (before after : Trees) : Type 0 where
  pub stays : AreSameTrees before after
  pub left : after.left ≤ before.left

-- Half-arcs were looked at, and each look is paid by the trees.
pub record HaveLooked (before : Table) (trees : Trees) (after : Table) (trees' : Trees) : Type 0 where
  pub stays : AreSameTrees trees trees'
  pub paid : PaysLooks before trees.left after trees'.left

-- The trees have grown on: the flow still fits, and its steps are paid by them.
pub record HaveGrown (p : Packed) (before : Table) (trees : Trees) (after : Table) (trees' : Trees) : Type 0 where
  pub stays : AreSameTrees trees trees'
  pub fits : Fits p.net.now after.flows
  pub paid : PaysSteps before trees.left after trees'.left
