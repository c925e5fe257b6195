-- A stream over a call, from its parts.
use Rattle.std.proofs.Common.{ℕ, Bool, List, Option}
use Rattle.flow_tools.specs.streams.Streams.{Stream, StreamState, over}

-- a state of these bytes, failed or not
abbrev pub state : Option (List ℕ) → Bool → StreamState
state bytes failed = record { bytes = bytes; failed = failed }

-- the bytes before and after, and whether it had failed before and after
abbrev pub stream : Option (List ℕ) → Option (List ℕ) → Bool → Bool → Stream
stream before after failed_before failed_after = over (state before failed_before) (state after failed_after)
