-- `start_all`: the starts passed are seen, and nothing else is.
use Rattle.std.proofs.Common.{◌≡◌, ℕ, ◌+◌, ◌-◌, ◌<◌, List, IsTrue, length}
use Rattle.std.specs.Prelude.{slice_index}
use Rattle.flow_net.specs.NodeSets.{one_of}
use Rattle.flow_solve.specs.residual.Searches.{IsMarked, IsNear, IsCount, IsSearch}
use Rattle.flow_solve.proofs.residual.searching.start_all.Given as goal

abbrev pub invariant-loop-node : goal.invariant-loop-node
invariant-loop-node l = record {
  cells : length l.dist ≡ length l.fn.dist;
  search : IsSearch l.dist l.via l.queue l.progress;
  near : IsNear l.dist 0;
  begun : (i : ℕ) → i < l.node-index → IsMarked l.dist (slice_index l.starts i - 1);
  come : (p : ℕ) → p < length l.fn.dist → IsMarked l.dist p → IsTrue (one_of l.starts (p + 1));
  count : (until : List ℕ) → IsCount until l.fn.dist 0 → IsCount until l.dist l.progress.wanted;
  followed : l.progress.followed ≡ 0;
}
