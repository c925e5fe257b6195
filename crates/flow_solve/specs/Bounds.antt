-- How many cells the methods work in, and bounds on their steps.
use Rattle.std.specs.Prelude.{ℕ, ◌+◌, ◌-◌, ◌*◌, length, sum_by}
use Rattle.flow_net.specs.Nets.{Net}

-- how many cells a solver works in
abbrev pub work_cells : Net → ℕ
work_cells net = 6 * net.nodes + 2 * length net.arcs + 2

-- the sum of the capacities
abbrev pub capacities : Net → ℕ
capacities net = sum_by (λ a. a.cap) net.arcs

-- how many steps the method by paths takes at most
abbrev pub paths_bound : Net → ℕ
paths_bound net = 4 * (capacities net + 1) * net.nodes * length net.arcs

-- how many steps a phase takes at most, without its search
abbrev pub phase_bound : Net → ℕ
phase_bound net = 3 * (net.nodes - 1) * length net.arcs + length net.arcs

-- how many steps the phases of the method by levels take at most, whatever feasible flow they start from
abbrev pub phases_bound : Net → ℕ
phases_bound net = 3 * net.nodes * net.nodes * length net.arcs

-- how many steps its stages before them take at most
abbrev pub openings_bound : Net → ℕ
openings_bound net = net.nodes * net.nodes * length net.arcs

-- how many steps the method by levels takes at most
abbrev pub levels_bound : Net → ℕ
levels_bound net = 4 * net.nodes * net.nodes * length net.arcs
