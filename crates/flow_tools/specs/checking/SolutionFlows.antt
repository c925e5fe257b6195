-- What the flow lines of a solution add up to (solution files of the DIMACS format, 1990).
use Rattle.std.specs.Prelude.{ℕ, ◌==◌, ◌&&◌, Bool, List, sum_by, pos, ◌-ℤ◌, ℤ, if◌then◌else◌}
use Rattle.flow_net.specs.Nets.{Net, Instance}
use Rattle.flow_net.specs.NodeSets.{one_of}
use Rattle.flow_net.specs.Cuts.{cap_over}
use Rattle.flow_text.specs.declared.solutions.FlowLine.{FlowLine}

-- a pair's flow: the sum of the flows of the lines from u to v
abbrev pub pair_flow : List FlowLine → ℕ → ℕ → ℕ
pair_flow lines u v = sum_by (λ l. if (u == l.src) && (v == l.dst) then l.flow else 0) lines

-- a pair's capacity: the sum of the capacities of the arcs from u to v, 0 where there is none
abbrev pub pair_cap : Net → ℕ → ℕ → ℕ
pair_cap net u v = cap_over (λ a. (u == a.src) && (v == a.dst)) net.arcs

-- OUT and IN: the sum of the flows of the lines that begin, that end in a set of nodes
abbrev pub lines_out_of : (ℕ → Bool) → List FlowLine → ℕ
lines_out_of X lines = sum_by (λ l. if X l.src then l.flow else 0) lines

abbrev pub lines_into : (ℕ → Bool) → List FlowLine → ℕ
lines_into X lines = sum_by (λ l. if X l.dst then l.flow else 0) lines

-- what leaves the sources less what enters them, below 0 where more enters them
abbrev pub net_outflow : Instance → List FlowLine → ℤ
net_outflow p lines = pos (lines_out_of (one_of p.sources) lines) -ℤ pos (lines_into (one_of p.sources) lines)
