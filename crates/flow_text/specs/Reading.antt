-- What a reader keeps of a text that comes in pieces, and what it answers.
use Rattle.std.specs.Prelude.{◌≡◌, ℕ, ◌+◌, ◌<◌, ◌≤◌, Bool, true, false, ◌||◌, ◌==◌, min, List, [], ◌∷◌, ◌++◌, length}
use Rattle.std.specs.Prelude.{take, Option, None, Some, Result, Ok, Err, if◌then◌else◌}
use Rattle.std.specs.Option.{option_map_or}
use Rattle.memchr.specs.Find.{IsFirstByte, is_byte}
use Rattle.flow_text.specs.Lines.{ended, rest, lines}
use Rattle.flow_text.specs.Fields.{fields_of}
use Rattle.flow_text.specs.Rules.{Rules, is_comment, fault_of, first_fault, early_fault, whole_fault}
use Rattle.flow_text.specs.declared.faults.FaultCode.{FaultCode}
use Rattle.flow_text.specs.declared.faults.FaultCode.TheVariants.{LineTooLong}
use Rattle.flow_text.specs.declared.faults.ReadFault.{ReadFault}
use Rattle.flow_text.specs.declared.faults.ReadFault.TheVariants.{Fault, OutOfMemory}
use Rattle.flow_text.specs.declared.machine.Refusal.{Refusal}
use Rattle.flow_text.specs.declared.machine.Refusal.TheVariants.{Code, Memory}
use Rattle.flow_text.specs.declared.limits.TheConstants.{LONGEST_LINE, GREATEST_LINE_NUMBER}

-- a line number as it is told
abbrev pub told : ℕ → ℕ
told k = min k GREATEST_LINE_NUMBER

-- what a text says, or its fault
abbrev pub accepted : {A : Type 0} → A → Option (ℕ × FaultCode) → Result A (ℕ × FaultCode)
accepted said fault = option_map_or Err fault (Ok said)

-- what a reader keeps: its refusal, how many lines have ended, what they say, whether the line that goes on is a
-- comment, and the bytes of that line
pub record State (K : Type 0) : Type 0 where
  pub refused : Option ReadFault
  pub count : ℕ
  pub known : K
  pub comment : Bool
  pub partial : List ℕ

-- what is buffered of a line that goes on: all of it, and nothing of a comment
abbrev pub partial_of : List ℕ → List ℕ
partial_of line = if is_comment line then [] else line

-- the reader has been fed these bytes and has refused none
pub record HasRead {K : Type 0} (rules : Rules K) (known_of : List (List ℕ) → K) (reader : State K) (b : List ℕ)
    : Type 0 where
  pub going : reader.refused ≡ None
  pub counts : reader.count ≡ told (length (ended b))
  pub knows : reader.known ≡ known_of (ended b)
  pub in_comment : reader.comment ≡ is_comment (rest b)
  pub buffered : reader.partial ≡ partial_of (rest b)
  pub fine : early_fault rules known_of b ≡ None

-- the reader answers this refusal from now on
abbrev pub Refuses : {K : Type 0} → State K → ReadFault → Type 0
Refuses reader fault = reader.refused ≡ Some fault

-- what a refusal says of the first fault: want of memory says nothing
abbrev pub Tells : ReadFault → Option (ℕ × FaultCode) → Type 0
Tells (Fault line code) fault = fault ≡ Some (line, code)
Tells OutOfMemory fault = Unit {0}

-- what `feed` answers, with these bytes fed in all
abbrev pub FeedsBy : {K : Type 0} → Rules K → (List (List ℕ) → K) → List ℕ → Result (Unit {0}) ReadFault
    → State K → Type 0
FeedsBy rules known_of b (Ok done) new = HasRead rules known_of new b
FeedsBy rules known_of b (Err fault) new = Tells fault (early_fault rules known_of b) × Refuses new fault

-- what the end of a text answers: all that its lines say, or its first fault
abbrev pub ClosesBy : {K : Type 0} → Rules K → (List (List ℕ) → K) → List ℕ → Result K ReadFault → Type 0
ClosesBy rules known_of b (Ok known) = (whole_fault rules known_of b ≡ None) × (known ≡ known_of (lines b))
ClosesBy rules known_of b (Err fault) = Tells fault (whole_fault rules known_of b)

-- what the end of a text answers, by what the text says or by its fault
abbrev pub AnswersAs : {A : Type 0} → Result A (ℕ × FaultCode) → Result A ReadFault → Type 0
AnswersAs answer (Ok found) = answer ≡ Ok found
AnswersAs answer (Err (Fault line code)) = answer ≡ Err (line, code)
AnswersAs answer (Err OutOfMemory) = Unit {0}

-- what a line adds, where `with_record` tells what fields add: a comment and a line without fields add nothing
unfoldable pub with_line : {K : Type 0} → (K → List (List ℕ) → K) → K → List ℕ → K
with_line with_record known line =
    if is_comment line || length (fields_of line) == 0 then known else with_record known (fields_of line)

-- a line without a fault adds to what is known what it adds to what the lines say
abbrev pub Adds : {K : Type 0} → Rules K → (List (List ℕ) → K) → (K → List (List ℕ) → K) → Type 0
Adds rules known_of with_record = (before : List (List ℕ)) (line : List ℕ)
    → fault_of rules (known_of before) line ≡ None
    → known_of (before ++ line ∷ []) ≡ with_line with_record (known_of before) line

-- what a refusal of a line says of the line's fault
abbrev pub IsRefusal : Refusal → Option FaultCode → Type 0
IsRefusal (Code code) fault = fault ≡ Some code
IsRefusal Memory fault = Unit {0}

-- what the judge of a line or of its fields answers, by their fault and by what is known after them
abbrev pub Judges : {K : Type 0} → Option FaultCode → K → Result (Unit {0}) Refusal → K → Type 0
Judges fault after (Ok done) new = (fault ≡ None) × (new ≡ after)
Judges fault after (Err refusal) new = IsRefusal refusal fault

-- what the judge of a text's first line answers: the place of its byte 10 where it has judged the line, or nothing
abbrev pub JudgesFirst : {K : Type 0} → Rules K → (K → List (List ℕ) → K) → K → List ℕ → Result (Option ℕ) Refusal
    → K → Type 0
JudgesFirst rules with_record old text (Ok (Some at)) new =
    IsFirstByte (is_byte 10) text (Some at) × (fault_of rules old (take at text) ≡ None)
    × (new ≡ with_line with_record old (take at text))
JudgesFirst rules with_record old text (Ok None) new = new ≡ old
JudgesFirst rules with_record old text (Err refusal) new = (at : ℕ) × IsFirstByte (is_byte 10) text (Some at)
    × IsRefusal refusal (fault_of rules old (take at text))

-- a line has ended with these bytes: it was judged, or it is a comment
pub record Ends {K : Type 0} (rules : Rules K) (with_record : K → List (List ℕ) → K) (old : State K)
    (tail : List ℕ) (count : ℕ) (new : State K) : Type 0 where
  pub going : new.refused ≡ old.refused
  pub counts : new.count ≡ count
  pub in_comment : new.comment ≡ false
  pub buffered : new.partial ≡ []
  pub skipped : old.comment ≡ true → new.known ≡ old.known
  pub judged : old.comment ≡ false → (fault_of rules old.known (old.partial ++ tail) ≡ None)
      × (new.known ≡ with_line with_record old.known (old.partial ++ tail))

-- a line that ends with these bytes is refused
pub record Fails {K : Type 0} (rules : Rules K) (old : State K) (tail : List ℕ) (refusal : Refusal) (new : State K)
    : Type 0 where
  pub plain : old.comment ≡ false
  pub counts : new.count ≡ old.count
  pub tells : IsRefusal refusal (fault_of rules old.known (old.partial ++ tail))

abbrev pub EndsLine : {K : Type 0} → Rules K → (K → List (List ℕ) → K) → State K → List ℕ → ℕ
    → Result (Unit {0}) Refusal → State K → Type 0
EndsLine rules with_record old tail count (Ok done) new = Ends rules with_record old tail count new
EndsLine rules with_record old tail count (Err refusal) new = Fails rules old tail refusal new

-- the line that ends at the first byte 10 of these bytes, if there is one, has ended
abbrev pub EndsFirst : {K : Type 0} → Rules K → (K → List (List ℕ) → K) → State K → List ℕ → Result (Option ℕ) Refusal
    → State K → Type 0
EndsFirst rules with_record old text (Ok (Some at)) new =
    IsFirstByte (is_byte 10) text (Some at) × Ends rules with_record old (take at text) (told (old.count + 1)) new
EndsFirst rules with_record old text (Ok None) new = IsFirstByte (is_byte 10) text None × (new ≡ old)
EndsFirst rules with_record old text (Err refusal) new =
    (at : ℕ) × IsFirstByte (is_byte 10) text (Some at) × Fails rules old (take at text) refusal new

-- a line that goes on with these bytes
pub record Buffers {K : Type 0} (old : State K) (tail : List ℕ) (new : State K) : Type 0 where
  pub going : new.refused ≡ old.refused
  pub counts : new.count ≡ old.count
  pub knows : new.known ≡ old.known
  pub skipped : old.comment ≡ true → (new.comment ≡ true) × (new.partial ≡ old.partial)
  pub in_comment : old.comment ≡ false → new.comment ≡ is_comment (old.partial ++ tail)
  pub buffered : old.comment ≡ false → new.partial ≡ partial_of (old.partial ++ tail)
  pub short : length new.partial ≤ LONGEST_LINE

abbrev pub BuffersTail : {K : Type 0} → State K → List ℕ → Result (Unit {0}) Refusal → State K → Type 0
BuffersTail old tail (Ok done) new = Buffers old tail new
BuffersTail old tail (Err refusal) new = (old.comment ≡ false) × (new.count ≡ old.count)
    × (is_comment (old.partial ++ tail) ≡ false) × (LONGEST_LINE < length (old.partial ++ tail))
    × (refusal ≡ Code LineTooLong)

-- what a refusal says of the first fault, where so many lines have ended
abbrev pub TellsAt : ℕ → Refusal → Option (ℕ × FaultCode) → Type 0
TellsAt count (Code code) fault = fault ≡ Some (told (count + 1), code)
TellsAt count Memory fault = Unit {0}

-- the refusal that is answered
abbrev pub fault_from : ℕ → Refusal → ReadFault
fault_from count (Code code) = Fault (told (count + 1)) code
fault_from count Memory = OutOfMemory

-- all lines that end in a piece have been judged
abbrev pub Takes : {K : Type 0} → Rules K → (List (List ℕ) → K) → List ℕ → Result (Unit {0}) Refusal → State K → Type 0
Takes rules known_of b (Ok done) new = HasRead rules known_of new b
Takes rules known_of b (Err refusal) new = TellsAt new.count refusal (early_fault rules known_of b)

-- the last line has been judged too, if no byte 10 ends it
abbrev pub Finals : {K : Type 0} → Rules K → (List (List ℕ) → K) → List ℕ → Result (Unit {0}) Refusal → State K → Type 0
Finals rules known_of b (Ok done) new =
    (first_fault rules known_of [] (lines b) ≡ None) × (new.known ≡ known_of (lines b))
    × (new.count ≡ told (length (lines b)))
Finals rules known_of b (Err refusal) new = TellsAt new.count refusal (first_fault rules known_of [] (lines b))
