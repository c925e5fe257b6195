-- What a field says as a number.
use Rattle.std.specs.Prelude.{ℕ, Bool, ◌&&◌, List, nat_le, if◌then◌else◌}
use Rattle.std.specs.Str.{all_ascii_digits}
use Rattle.flow_text.specs.LineParts.{has_bytes}
use Rattle.flow_text.specs.Digits.{value_of}
use Rattle.flow_text.specs.declared.numbers.Number.{Number}
use Rattle.flow_text.specs.declared.numbers.Number.TheVariants.{NotDigits, Above, Value}

-- one digit or more, and nothing else
abbrev pub is_number : List ℕ → Bool
is_number field = has_bytes field && all_ascii_digits field

-- a number that is to be at most a limit
abbrev pub number_of : List ℕ → ℕ → Number
number_of field limit =
    if is_number field then (if nat_le (value_of field) limit then Value (value_of field) else Above) else NotDigits
