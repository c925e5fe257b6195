-- The least value so far is that of a set, and the circle has been gone round as far as the node before.
use Rattle.std.proofs.Common.{◌≡◌, ◌+◌, ◌*◌, ◌-◌, ◌≤◌, ℕ, length, Bool, ◌⊎◌}
use Rattle.flow_net.specs.Nets.{IsNode}
use Rattle.flow_net.specs.Flows.{Fits}
use Rattle.flow_net.specs.Connectivity.{IsProper, leaving}
use Rattle.flow_solve.specs.Bounds.{work_cells}
use Rattle.flow_tools.proofs.connecting.CircleLemmas.{IsRound}
use Rattle.flow_tools.proofs.connecting.least_around.Given as goal

abbrev pub invariant-loop-v : goal.invariant-loop-v
invariant-loop-v g l = record {
  end : l.v-end ≡ l.net.nodes + 1;
  place : ((l.v ≡ 1) × (l.before ≡ l.net.nodes)) ⊎ (l.before + 1 ≡ l.v);
  cells : length l.cells ≡ work_cells l.net;
  fits : Fits l.net l.flow.flows;
  reached : (X : ℕ → Bool) × IsProper l.net X × (leaving l.net X ≡ l.least);
  node : IsNode l.net l.before;
  round : IsRound l.net l.least l.before l.v;
  rises : l.initial.flow.steps ≤ l.flow.steps;
  steps : l.flow.steps ≤ l.initial.flow.steps + (l.v - 1) * g.M.Method.steps_bound l.net;
}
