-- Sets of nodes, by marks in cells.
use Rattle.std.specs.Prelude.{ℕ, zero, suc, Bool, false, List, slice_index_or}

-- the set of the nodes that are marked in a list of cells, cell v - 1 for node v
abbrev pub marked : List Bool → ℕ → Bool
marked cells zero = false
marked cells (suc i) = slice_index_or cells i false
