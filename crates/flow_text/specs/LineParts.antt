-- The parts of a text between the bytes 10, and what a text is joined of.
use Rattle.std.specs.Prelude.{◌≡◌, ℕ, ◌-◌, Bool, false, ◌==◌, ◌||◌, List, [], ◌∷◌, ◌++◌, length, take, nat_lt}
use Rattle.std.specs.Prelude.{slice_index_or}
use Rattle.std.specs.List.{All}

-- whether a byte ends a line
abbrev pub is_end : ℕ → Bool
is_end c = c == 10

-- all parts but the last, and the last
abbrev pub front : List (List ℕ) → List (List ℕ)
front parts = take (length parts - 1) parts

abbrev pub last_part : List (List ℕ) → List ℕ
last_part parts = slice_index_or parts (length parts - 1) []

-- byte 32, 9 or 13
abbrev pub is_blank : ℕ → Bool
is_blank c = c == 32 || c == 9 || c == 13

abbrev pub has_bytes : List ℕ → Bool
has_bytes bytes = nat_lt 0 (length bytes)

-- no byte of it is byte 10
abbrev pub HasNoEnd : List ℕ → Type 0
HasNoEnd line = All (λ c. is_end c ≡ false) line

-- lines, each with byte 10 behind it, and a rest
abbrev pub joined : List (List ℕ) → List ℕ → List ℕ
joined [] r = r
joined (line ∷ ls) r = line ++ 10 ∷ joined ls r
