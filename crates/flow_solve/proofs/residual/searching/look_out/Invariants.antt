-- `look_out`: the cells are those of unseen nodes, of which those passed are looked out for.
use Rattle.std.proofs.Common.{◌≡◌, ℕ, ◌<◌, length, take}
use Rattle.std.specs.Prelude.{slice_index}
use Rattle.flow_solve.specs.residual.Searches.{unseen_cell}
use Rattle.flow_solve.proofs.residual.searching.look_out.Given as goal

abbrev pub invariant-loop-node : goal.invariant-loop-node
invariant-loop-node l =
    (length l.dist ≡ length l.fn.dist)
    × ((p : ℕ) → p < length l.fn.dist → slice_index l.dist p ≡ unseen_cell (take l.node-index l.until) p)
