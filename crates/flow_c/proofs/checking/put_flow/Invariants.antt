-- The first arcs carry what is given, which is added up at the nodes, and the others nothing.
use Rattle.std.proofs.Common.{◌≡◌, ℕ, ◌≤◌, ◌<◌, get_or}
use Rattle.flow_net.specs.Nets.{arc_at}
use Rattle.flow_net.specs.Flows.{Fits}
use Rattle.flow_c.specs.Checks.{AreSumsOf}
use Rattle.flow_c.proofs.checking.put_flow.Given as goal

abbrev pub invariant-loop-i : goal.invariant-loop-i
invariant-loop-i l = record {
  fits : Fits l.net l.table.flows;
  done : (k : ℕ) → k < l.i → get_or l.table.flows k 0 ≡ get_or l.given k 0;
  rest : (k : ℕ) → l.i ≤ k → get_or l.table.flows k 0 ≡ 0;
  within : (k : ℕ) → k < l.i → get_or l.given k 0 ≤ (arc_at l.net k).cap;
  sums : AreSumsOf l.net l.table.flows l.sums.into.items l.sums.out.items;
}
