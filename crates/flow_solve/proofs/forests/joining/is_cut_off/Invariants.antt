-- `is_cut_off`: where something remains on the half-arcs passed, they lead on to seen nodes, and the looks are paid.
use Rattle.std.proofs.Common.{◌≡◌, ℕ, ◌*◌, ◌<◌, length}
use Rattle.flow_net.specs.Flows.{Fits}
use Rattle.flow_solve.specs.Forests.{IsPassed, seen_in}
use Rattle.flow_solve.specs.Steps.{PaysLooks}
use Rattle.flow_solve.proofs.forests.joining.is_cut_off.Given as goal

abbrev pub invariant-loop-half : goal.invariant-loop-half
invariant-loop-half l = record {
  fits : Fits l.forest.ground.net.now l.flow.flows;
  end : l.half-end ≡ 2 * length l.forest.ground.net.now.arcs;
  passed : (h : ℕ) → h < l.half → IsPassed l.forest.ground l.fn.flow.flows (seen_in l.forest.done.now l.seen) h;
  looks : PaysLooks l.fn.flow l.fn.left l.flow l.left;
}
