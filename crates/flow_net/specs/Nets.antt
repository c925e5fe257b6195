-- Networks and problems, as contracts see them.
use Rattle.std.specs.Prelude.{ℕ, ◌≤◌, List, slice_index_or}
use Rattle.flow_net.specs.declared.networks.Arc.{Arc}

-- A network: its nodes are the numbers 1 to `nodes`, and its arcs a list, in which parallel arcs, opposite arcs and
-- self-loops may stand.
pub record Net : Type 0 where
  pub nodes : ℕ
  pub arcs : List Arc

-- a number of 1 to n
abbrev pub IsNode : Net → ℕ → Type 0
IsNode net v = (1 ≤ v) × (v ≤ net.nodes)

-- the arc at a place, counted from 0, and an arc of zeros past the last
abbrev pub arc_at : Net → ℕ → Arc
arc_at net i = slice_index_or net.arcs i (record { src = 0; dst = 0; cap = 0 })

-- A problem: a network with its sources and its sinks, each in a list.
pub record Instance : Type 0 where
  pub net : Net
  pub sources : List ℕ
  pub sinks : List ℕ
