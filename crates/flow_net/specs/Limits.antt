-- The limits that networks and problems keep.
use Rattle.std.specs.Prelude.{◌≢◌, ℕ, ◌<◌, ◌≤◌, List, ◌++◌, length, slice_index}
use Rattle.std.specs.List.{All}
use Rattle.flow_net.specs.declared.networks.Arc.{Arc}
use Rattle.flow_net.specs.declared.limits.TheConstants.{FEWEST_NODES, MOST_NODES, MOST_ARCS_BOTH_WAYS}
use Rattle.flow_net.specs.declared.limits.TheConstants.{MOST_PROBLEM_NODES, MOST_PROBLEM_ARCS, GREATEST_CAPACITY}
use Rattle.flow_net.specs.Nets.{Net, IsNode, Instance}

-- both ends of an arc are nodes, and its capacity has 64 bits
pub record IsArcWithin (n : ℕ) (a : Arc) : Type 0 where
  pub src_least : 1 ≤ a.src
  pub src_most : a.src ≤ n
  pub dst_least : 1 ≤ a.dst
  pub dst_most : a.dst ≤ n
  pub cap_fits : a.cap ≤ GREATEST_CAPACITY

-- the limits that every network keeps
pub record IsNet (net : Net) : Type 0 where
  pub nodes_least : FEWEST_NODES ≤ net.nodes
  pub nodes_most : net.nodes ≤ MOST_NODES
  pub arcs_most : length net.arcs ≤ MOST_ARCS_BOTH_WAYS
  pub arcs_within : All (IsArcWithin net.nodes) net.arcs

-- no number stands twice in the list
abbrev pub AreDistinct : List ℕ → Type 0
AreDistinct xs = (i j : ℕ) → i < j → j < length xs → slice_index xs i ≢ slice_index xs j

-- the sources and the sinks: some of each, all of them nodes, and none twice in the two lists together
pub record AreTerminals (net : Net) (sources sinks : List ℕ) : Type 0 where
  pub some_source : 0 < length sources
  pub some_sink : 0 < length sinks
  pub sources_within : All (IsNode net) sources
  pub sinks_within : All (IsNode net) sinks
  pub distinct : AreDistinct (sources ++ sinks)

-- what every problem keeps: the limits of files
pub record IsProblem (p : Instance) : Type 0 where
  pub nodes_most : p.net.nodes ≤ MOST_PROBLEM_NODES
  pub arcs_most : length p.net.arcs ≤ MOST_PROBLEM_ARCS
  pub terminals : AreTerminals p.net p.sources p.sinks
