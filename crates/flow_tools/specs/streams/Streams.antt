-- What the calls of a stream move, and when it has failed.
use Rattle.std.specs.Prelude.{◌≡◌, ℕ, Bool, true, List, ◌++◌, MatchResult, Result, Option}
use Rattle.std.specs.Io.KnownBytes.{IsAtEnd}

-- What contracts see of a stream: its bytes, those left of an input or those taken by an output, where anyone can know
-- them, and whether a call has failed.
pub record StreamState : Type 0 where
  pub bytes : Option (List ℕ)
  pub failed : Bool

-- A stream over a call: its states before and after.
pub record Stream : Type 0 where
  pub before : StreamState
  pub after : StreamState

abbrev pub over : StreamState → StreamState → Stream
over before after = record { before = before; after = after }

-- no call of the stream failed
abbrev pub IsKept : Stream → Type 0
IsKept s = s.after.failed ≡ s.before.failed

-- a call of the stream failed
abbrev pub HasFailed : Stream → Type 0
HasFailed s = s.after.failed ≡ true

-- nothing is left of the input, and no pull failed
abbrev pub HasEnded : Stream → Type 0
HasEnded s = IsKept s × IsAtEnd s.after.bytes

-- a stream's flag turns true at a call that fails, and stays as it was at any other
abbrev pub Flags : {T E : Type 0} → Bool → Bool → Result T E → Type 0
Flags old new r = MatchResult r (λ _. new ≡ old) (λ _. new ≡ true)

-- a text begins with this part
abbrev pub IsBeginning : List ℕ → List ℕ → Type 0
IsBeginning part text = (rest : List ℕ) × (text ≡ part ++ rest)
