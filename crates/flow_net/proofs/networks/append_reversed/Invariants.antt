-- `append_reversed`: behind the arcs stand the reverses of those passed, and there is room for the others.
use Rattle.std.proofs.Common.{◌≡◌, ◌+◌, ◌≤◌, ◌++◌, length, map, take, vec_len, vec_capacity}
use Rattle.flow_net.specs.DerivedNets.{reversed}
use Rattle.flow_net.proofs.networks.append_reversed.Given as goal

abbrev pub invariant-loop-i : goal.invariant-loop-i
invariant-loop-i l = record {
  all : l.len ≡ length l.fn.arcs.items;
  items : l.arcs.items ≡ l.fn.arcs.items ++ map reversed (take l.i l.fn.arcs.items);
  grown : vec_len l.arcs ≡ l.len + l.i;
  room : l.len + l.len ≤ vec_capacity l.arcs;
}
