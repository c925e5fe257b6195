-- How bytes are put into an output.
use Rattle.std.specs.Prelude.{◌≡◌, List, ℕ, ◌++◌, OnOk, OnErr, Result, Option}
use Rattle.std.specs.Io.KnownBytes.{Appends}
use Rattle.flow_tools.specs.streams.Streams.{Stream, Flags, IsBeginning}

-- So much of a text was taken, and this much of it waits.
pub record Sends (before after : Option (List ℕ)) (waiting text : List ℕ) : Type 0 where
  pub sent : List ℕ
  pub taken : Appends before after sent
  pub whole : text ≡ sent ++ waiting

-- A beginning of a text was taken.
pub record Stops (before after : Option (List ℕ)) (text : List ℕ) : Type 0 where
  pub sent : List ℕ
  pub taken : Appends before after sent
  pub part : IsBeginning sent text

-- A text was put: all of it was taken, or the stream failed and took a beginning of it.
pub record IsPut {T E : Type 0} (text : List ℕ) (out : Stream) (r : Result T E) : Type 0 where
  pub ok : OnOk r (Appends out.before.bytes out.after.bytes text)
  pub err : OnErr r (Stops out.before.bytes out.after.bytes text)
  pub flag : Flags out.before.failed out.after.failed r

-- A text was gathered: all of it was taken or waits, or the stream failed and took a beginning of it.
pub record IsGathered {T E : Type 0} (waiting text : List ℕ) (out : Stream) (r : Result T E) : Type 0 where
  pub ok : OnOk r (Sends out.before.bytes out.after.bytes waiting text)
  pub err : OnErr r (Stops out.before.bytes out.after.bytes text)
  pub flag : Flags out.before.failed out.after.failed r
