-- The nodes of a set, in order.
use Rattle.std.specs.Prelude.{ℕ, Bool, List, filter}
use Rattle.std.specs.List.{range_with_len}
use Rattle.flow_net.specs.Nets.{Net}

-- the nodes of a set, rising
abbrev pub nodes_inside : Net → (ℕ → Bool) → List ℕ
nodes_inside net X = filter X (range_with_len 1 net.nodes)
