-- Networks that stand in lists which a caller lends. The lists count nodes from 0, networks count them from 1.
use Rattle.std.specs.Prelude.{◌≡◌, ◌==◌, ℕ, suc, ◌+◌, ◌≤◌, ◌++◌, Bool, not, List, length, map, replicate, slice_index}
use Rattle.std.specs.Prelude.{Option, unwrap_or, if◌then◌else◌}
use Rattle.std.specs.Borrow.{Bor}
use Rattle.std.specs.List.{All, range_with_len}
use Rattle.std.specs.Option.{option_copied}
use Rattle.flow_net.specs.declared.networks.Arc.{Arc}
use Rattle.flow_net.specs.Limits.{AreDistinct}
use Rattle.flow_net.specs.Nets.{Net, Instance}
use Rattle.flow_c.specs.declared.lists.Lent.{Lent}
use Rattle.flow_tools.specs.solving.Solutions.{IsSolution, IsMarkedCut}

-- the arc at a place of the lists: from the one node to the other, with its capacity
abbrev pub listed_arc : List ℕ → List ℕ → List ℕ → ℕ → Arc
listed_arc src dst cap i = record { src = slice_index src i + 1; dst = slice_index dst i + 1; cap = slice_index cap i }

-- the network of the lists, with an arc for each place
abbrev pub listed_net : ℕ → List ℕ → List ℕ → List ℕ → Net
listed_net n src dst cap = record { nodes = n; arcs = map (listed_arc src dst cap) (range_with_len 0 (length src)) }

-- the nodes of a list, counted from 1
abbrev pub from_one : List ℕ → List ℕ
from_one vs = map suc vs

-- the nodes of a list are taken, counted from 1: they are nodes, and differ from each other and from those before
pub record AreTaken (n : ℕ) (before given taken : List ℕ) : Type 0 where
  pub all : taken ≡ from_one given
  pub within : All (λ v. (1 ≤ v) × (v ≤ n)) taken
  pub distinct : AreDistinct (before ++ taken)

-- the network of the lists with its terminals
abbrev pub listed : ℕ → List ℕ → List ℕ → List ℕ → List ℕ → List ℕ → Instance
listed n src dst cap sources sinks =
    record { net = listed_net n src dst cap; sources = from_one sources; sinks = from_one sinks }

-- the same of the lists that are lent
abbrev pub network_of : Lent → List ℕ → Instance
network_of lent cap =
    listed lent.nodes lent.src.now lent.dst.now cap lent.sources.now lent.sinks.now

-- a capacity of 1 for each place
abbrev pub ones : List ℕ → List ℕ
ones src = replicate (length src) 1

-- the capacities that are lent, and a 1 for each place where none are
abbrev pub capacities : Lent → Option (Bor (List ℕ)) → List ℕ
capacities lent cap = unwrap_or (option_copied cap) (ones lent.src.now)

-- 1 for what is marked, and 0 for the rest
abbrev pub bit : Bool → ℕ
bit b = if b then 1 else 0

-- a solution, and a minimum cut, nearest the sources or nearest the sinks: 1 for each node of its source side, and 0
-- for the others
abbrev pub IsCutInto : Instance → Bool → ℕ → List ℕ → List ℕ → Type 0
IsCutInto p sink value flow side =
    IsSolution p value flow × ((marks : List Bool) × (side ≡ map bit marks) × IsMarkedCut p sink value marks
    × (length marks ≡ p.net.nodes))

-- a number as an answer to a question: all but 0 mean yes
abbrev pub is_yes : ℕ → Bool
is_yes n = not (n == 0)
