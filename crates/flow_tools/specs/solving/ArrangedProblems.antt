-- Problems that are arranged in a copy: their nodes under new names, their arcs in another order.
use Rattle.std.specs.Prelude.{◌≡◌, ℕ, ◌≤◌, Bool, List, length, map, Option, None, Some, IfSome}
use Rattle.flow_net.specs.Nets.{Instance}
use Rattle.flow_net.specs.Limits.{IsNet, AreTerminals}
use Rattle.flow_net.specs.Flows.{Fits}
use Rattle.flow_net.specs.MarkedNodes.{marked}
use Rattle.flow_net.specs.Arrangements.{IsArranged, all_named, carried}
use Rattle.flow_net.specs.Namings.{AreInverse}
use Rattle.flow_solve.specs.Bounds.{work_cells}
use Rattle.flow_tools.specs.declared.solving.answers.Ready.{Ready}
use Rattle.flow_tools.specs.declared.solving.arranging.Arranged.{Arranged}
use Rattle.flow_tools.specs.declared.solving.arranging.Room.{Room}

-- the lists have a cell for each arc or each node, and the terminals
pub record HasRoom (p : Instance) (room : Room) : Type 0 where
  pub arcs : length room.arcs.items ≡ length p.net.arcs
  pub spots : length room.spots.items ≡ length p.net.arcs
  pub names : length room.names.items ≡ p.net.nodes
  pub sources : room.sources.items ≡ p.sources
  pub sinks : room.sinks.items ≡ p.sinks

-- the problem is an arrangement of the copy: an arc's place in it is its spot, and by the nodes of the names it has its
-- nodes and its terminals again
pub record IsArrangedIn (p : Instance) (copy : Arranged) : Type 0 where
  pub nodes : List ℕ
  pub inverse : AreInverse p.net.nodes copy.names.items nodes
  pub net : IsArranged copy.network.net p.net nodes copy.spots.items
  pub sources : p.sources ≡ all_named nodes copy.network.sources
  pub sinks : p.sinks ≡ all_named nodes copy.network.sinks
  pub limits : IsNet copy.network.net
  pub terminals : AreTerminals copy.network.net copy.network.sources copy.network.sinks

-- the problem that is solved
abbrev pub solved_of : Instance → Option Arranged → Instance
solved_of p None = p
solved_of p (Some copy) = copy.network

-- its flows in the order of the arcs
abbrev pub flows_of : Option Arranged → List ℕ → List ℕ
flows_of None there = there
flows_of (Some copy) there = carried copy.spots.items there

-- its marks in the order of the nodes
abbrev pub side_of : Option Arranged → List Bool → List Bool
side_of None there = there
side_of (Some copy) there = map (marked there) copy.names.items

-- a problem that is ready to be solved: as it is or arranged, with a table that fits it and cells for a solver
pub record IsReady (p : Instance) (ready : Ready) : Type 0 where
  pub same : IfSome ready.arranged (IsArrangedIn p)
  pub fits : Fits (solved_of p ready.arranged).net ready.table.flows
  pub cells : work_cells (solved_of p ready.arranged).net ≤ length ready.work.items
