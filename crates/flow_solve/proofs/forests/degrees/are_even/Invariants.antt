-- `are_even`: an even number of arcs leaves each node passed.
use Rattle.std.proofs.Common.{◌≡◌, ℕ, ◌%◌, ◌<◌}
use Rattle.std.specs.Prelude.{slice_index}
use Rattle.flow_solve.proofs.forests.degrees.are_even.Given as goal

abbrev pub invariant-loop-node : goal.invariant-loop-node
invariant-loop-node l = record {
  end : l.node-end ≡ l.net.nodes;
  even : (v : ℕ) → v < l.node → slice_index l.degrees v % 2 ≡ 0;
}
