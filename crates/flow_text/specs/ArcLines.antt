-- The line of an arc.
use Rattle.std.specs.Prelude.{ℕ, List, [], ◌∷◌}
use Rattle.flow_net.specs.declared.networks.Arc.{Arc}
use Rattle.flow_text.specs.Output.{line_of}

-- a SRC DST CAP
abbrev pub arc_line : Arc → List ℕ
arc_line arc = line_of "a" (arc.src ∷ arc.dst ∷ arc.cap ∷ [])
