-- Flows of the greatest value.
use Rattle.std.specs.Prelude.{ℕ, Bool, List}
use Rattle.flow_net.specs.Nets.{Net}
use Rattle.flow_net.specs.Flows.{HasValue, IsGreatest}

-- the flow's value is the greatest
abbrev pub HasGreatestValue : Net → (ℕ → Bool) → (ℕ → Bool) → List ℕ → Type 0
HasGreatestValue net s t xs = (k : ℕ) × HasValue net s xs k × IsGreatest net s t k
