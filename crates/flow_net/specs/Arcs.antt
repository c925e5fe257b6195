-- Words on arcs.
use Rattle.std.specs.Prelude.{ℕ, Bool, not, ◌&&◌}
use Rattle.flow_net.specs.declared.networks.Arc.{Arc}

-- stands for an arc past the last
abbrev pub no_arc : Arc
no_arc = record { src = 0; dst = 0; cap = 0 }

-- the arc leads into the set
abbrev pub enters : (ℕ → Bool) → Arc → Bool
enters X a = X a.dst && not (X a.src)
