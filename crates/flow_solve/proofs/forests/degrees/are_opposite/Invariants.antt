-- `are_opposite`: what enters a set by the arcs passed leaves it by those half the arcs behind them.
use Rattle.std.proofs.Common.{◌≡◌, ℕ, ◌/◌, ◌≤◌, Bool, length, take, drop}
use Rattle.std.specs.List.{count_by}
use Rattle.flow_net.specs.Arcs.{enters}
use Rattle.flow_net.specs.Cuts.{leaves}
use Rattle.flow_solve.proofs.forests.degrees.are_opposite.Given as goal

abbrev pub invariant-loop-i : goal.invariant-loop-i
invariant-loop-i l = record {
  half : l.half ≡ length l.net.arcs / 2;
  passed : l.i ≤ l.half;
  opposite : (X : ℕ → Bool) → count_by (leaves X) (take l.i (drop l.half l.net.arcs))
      ≡ count_by (enters X) (take l.i l.net.arcs);
}
