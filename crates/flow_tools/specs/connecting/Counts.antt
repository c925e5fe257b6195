-- How many arcs are counted at a set.
use Rattle.std.specs.Prelude.{ℕ, Bool, if◌then◌else◌}
use Rattle.flow_net.specs.Nets.{Net}
use Rattle.flow_net.specs.Connectivity.{leaving, crossing}

-- how many arcs leave a set or, undirected, have exactly one end in it
abbrev pub counted : Bool → Net → (ℕ → Bool) → ℕ
counted undirected net = if undirected then crossing net else leaving net
