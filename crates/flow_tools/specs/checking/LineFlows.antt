-- The sum of flow lines over whatever pairs of nodes.
use Rattle.std.specs.Prelude.{ℕ, Bool, List, sum_by, if◌then◌else◌}
use Rattle.flow_text.specs.declared.solutions.FlowLine.{FlowLine}

-- the sum of the flows of the lines whose two nodes pass a test
abbrev pub line_flow : (ℕ → ℕ → Bool) → List FlowLine → ℕ
line_flow p lines = sum_by (λ l. if p l.src l.dst then l.flow else 0) lines
