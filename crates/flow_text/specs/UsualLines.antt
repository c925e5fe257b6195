-- The usual form of an arc line and of a flow line: the letter, and three numbers with few blanks before each of them
-- and behind the last.
use Rattle.std.specs.Prelude.{◌≡◌, ℕ, ◌+◌, ◌-◌, ◌^◌, ◌<◌, ◌≤◌, true, false, List, [], ◌∷◌, length, take, drop, Some}
use Rattle.std.specs.Prelude.{slice_index}
use Rattle.std.specs.Str.{all_ascii_digits}
use Rattle.memchr.specs.Find.{IsFirstByte, is_byte}
use Rattle.flow_text.specs.LineParts.{is_end}
use Rattle.flow_text.specs.Fields.{fields_of}
use Rattle.flow_text.specs.LineParts.{is_blank}
use Rattle.flow_text.specs.Digits.{value_of}
use Rattle.flow_text.specs.Numbers.{is_number}
use Rattle.flow_text.specs.Rules.{is_comment}
use Rattle.flow_text.specs.declared.limits.TheConstants.{LONGEST_LINE, SHORT_DIGITS}
use Rattle.flow_text.specs.declared.usual_lines.TheConstants.{MOST_BLANKS}

-- the first bytes, so many, are digits of this value
pub record IsLeading (text : List ℕ) (value count : ℕ) : Type 0 where
  pub digits : all_ascii_digits (take count text) ≡ true
  pub value_is : value ≡ value_of (take count text)
  pub fits : value < 10 ^ count

-- blanks stand from one place of a text up to another
abbrev pub AreBlanks : List ℕ → ℕ → ℕ → Type 0
AreBlanks text i j = (k : ℕ) → i ≤ k → k < j → is_blank (slice_index text k) ≡ true

-- behind some blanks from this place on a number of this value stands, and ends before that place
pub record IsNumberBehind (text : List ℕ) (start value end : ℕ) : Type 0 where
  pub begin : ℕ
  pub blanks : AreBlanks text start begin
  pub some_blanks : start < begin
  pub leading : IsLeading (drop begin text) value (end - begin)
  pub some_digits : begin < end
  pub short : end ≤ start + MOST_BLANKS + SHORT_DIGITS
  pub within : end ≤ length text

-- a letter that begins a line is no blank, no byte 10, and not that of a comment
pub record IsLetter (letter : ℕ) : Type 0 where
  pub solid : is_blank letter ≡ false
  pub inner : is_end letter ≡ false
  pub plain : is_comment (letter ∷ []) ≡ false

-- the text begins with a line whose fields are the letter and numbers of these values, and which ends at this place
pub record IsUsual (letter : ℕ) (text : List ℕ) (src dst number at : ℕ) : Type 0 where
  pub first : IsFirstByte (is_byte 10) text (Some at)
  pub short : length (take at text) ≤ LONGEST_LINE
  pub plain : is_comment (take at text) ≡ false
  pub src_field : List ℕ
  pub dst_field : List ℕ
  pub number_field : List ℕ
  pub fields : fields_of (take at text) ≡ (letter ∷ []) ∷ src_field ∷ dst_field ∷ number_field ∷ []
  pub src_digits : is_number src_field ≡ true
  pub src_value : value_of src_field ≡ src
  pub dst_digits : is_number dst_field ≡ true
  pub dst_value : value_of dst_field ≡ dst
  pub number_digits : is_number number_field ≡ true
  pub number_value : value_of number_field ≡ number
