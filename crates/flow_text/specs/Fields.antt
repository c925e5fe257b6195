-- The fields of a line.
use Rattle.std.specs.Prelude.{ℕ, ◌==◌, ◌||◌, List, [], length, nat_lt, filter, slice_index_or}
use Rattle.std.specs.List.{slice_split}

-- the parts between the bytes 32, 9 and 13, in order, but for those without a byte
unfoldable pub fields_of : List ℕ → List (List ℕ)
fields_of line = filter (λ part. nat_lt 0 (length part)) (slice_split (λ c. c == 32 || c == 9 || c == 13) line)

-- the field at a place, counted from 0
abbrev pub field_at : List (List ℕ) → ℕ → List ℕ
field_at fields k = slice_index_or fields k []
