-- The value of a field.
use Rattle.std.specs.Prelude.{ℕ, ◌+◌, ◌*◌, ◌-◌, ◌^◌, List, [], ◌∷◌, length}
use Rattle.flow_text.specs.Fields.{field_at}

-- each digit times 10 to the number of digits after it
unfoldable pub value_of : List ℕ → ℕ
value_of [] = 0
value_of (digit ∷ digits) = (digit - 48) * 10 ^ length digits + value_of digits

-- the value of the field at a place, counted from 0
abbrev pub number_at : List (List ℕ) → ℕ → ℕ
number_at fields k = value_of (field_at fields k)
