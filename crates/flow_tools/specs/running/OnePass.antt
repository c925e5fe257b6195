-- One pass over an input.
use Rattle.std.specs.Prelude.{◌≡◌, ◌≤◌, ◌++◌, ℕ, List, length, Option, None}
use Rattle.flow_text.specs.declared.faults.FaultCode.{FaultCode}

-- nothing is pulled once a fault has shown: the text without its last bytes, which are no more than one pull delivers,
-- has no early fault
abbrev pub IsOnePass : (List ℕ → Option (ℕ × FaultCode)) → List ℕ → Type 0
IsOnePass early text = (front last : List ℕ) × (text ≡ front ++ last) × (length last ≤ 4096) × (early front ≡ None)
