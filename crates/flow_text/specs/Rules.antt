-- What holds for every kind of file: comments, empty lines, lines that are too long, and which fault is the first.
use Rattle.std.specs.Prelude.{ℕ, ◌+◌, Bool, not, ◌&&◌, ◌||◌, ◌==◌, nat_lt, min, List, [], ◌∷◌, ◌++◌, length}
use Rattle.std.specs.Prelude.{slice_index_or, Option, None, Some, if◌then◌else◌}
use Rattle.std.specs.Option.{option_map, option_or}
use Rattle.std.specs.Str.{bytes_eq}
use Rattle.flow_text.specs.Lines.{ended, rest, lines}
use Rattle.flow_text.specs.Fields.{fields_of, field_at}
use Rattle.flow_text.specs.declared.faults.FaultCode.{FaultCode}
use Rattle.flow_text.specs.declared.faults.FaultCode.TheVariants.{LineTooLong}
use Rattle.flow_text.specs.declared.limits.TheConstants.{LONGEST_LINE, GREATEST_LINE_NUMBER}

-- The rules of a kind of file: the fault of a line with these fields by what the lines before it say, and the fault of
-- the end of input by what all lines say.
pub record Rules (K : Type 0) : Type 0 where
  pub record_fault : K → List (List ℕ) → Option FaultCode
  pub end_fault : K → Option FaultCode

-- a line whose first byte is 'c'
abbrev pub is_comment : List ℕ → Bool
is_comment line = slice_index_or line 0 0 == 99

-- the first field is exactly the letter
abbrev pub names : List ℕ → List (List ℕ) → Bool
names letter fields = bytes_eq (field_at fields 0) letter

-- the fault of a line's length, also where the line goes on: a comment has none, any other line isn't too long
abbrev pub length_fault : List ℕ → Option FaultCode
length_fault line = if not (is_comment line) && nat_lt LONGEST_LINE (length line) then Some LineTooLong else None

-- the fault of a line: that of its length, else that of its fields; a comment and a line without fields are ignored
unfoldable pub fault_of : {K : Type 0} → Rules K → K → List ℕ → Option FaultCode
fault_of rules known line = option_or (length_fault line)
    (if is_comment line || length (fields_of line) == 0 then None else rules.record_fault known (fields_of line))

-- a fault with its line, if there is one; every line past the greatest number that is told has that number
abbrev pub at_line : ℕ → Option FaultCode → Option (ℕ × FaultCode)
at_line k fault = option_map (λ code. (min k GREATEST_LINE_NUMBER, code)) fault

-- the fault of the first of these lines that has one, where other lines stand before them; `known_of` tells what lines
-- say
unfoldable pub first_fault : {K : Type 0} → Rules K → (List (List ℕ) → K) → List (List ℕ) → List (List ℕ)
    → Option (ℕ × FaultCode)
first_fault rules known_of before [] = None
first_fault rules known_of before (line ∷ after) =
    option_or (at_line (length before + 1) (fault_of rules (known_of before) line))
    (first_fault rules known_of (before ++ line ∷ []) after)

-- the early fault of a text that may go on: that of its ended lines, else that of the length of the line which goes on
unfoldable pub early_fault : {K : Type 0} → Rules K → (List (List ℕ) → K) → List ℕ → Option (ℕ × FaultCode)
early_fault rules known_of b =
    option_or (first_fault rules known_of [] (ended b)) (at_line (length (ended b) + 1) (length_fault (rest b)))

-- the first fault of a whole text: that of its lines, else that of its end, at the line after the last
unfoldable pub whole_fault : {K : Type 0} → Rules K → (List (List ℕ) → K) → List ℕ → Option (ℕ × FaultCode)
whole_fault rules known_of b =
    option_or (first_fault rules known_of [] (lines b))
    (at_line (length (lines b) + 1) (rules.end_fault (known_of (lines b))))
