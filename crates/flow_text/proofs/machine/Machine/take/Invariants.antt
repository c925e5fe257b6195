-- `take`: what has been read is the text so far with the piece's front; what is left of the piece gets shorter.
use Rattle.std.proofs.Common.{ℕ, List, ◌≤◌, ◌-◌, ◌++◌, length, take}
use Rattle.flow_text.specs.Reading.{HasRead, Adds}
use Rattle.flow_text.proofs.machine.Machine.take.Given as goal

abbrev pub invariant-loop-at : goal.invariant-loop-at
invariant-loop-at g l = record {
  within : l.start ≤ length l.piece;
  reads : (known_of : List (List ℕ) → _) → Adds g.J.Judge.rules known_of g.J.Judge.with_record → (b : List ℕ)
      → HasRead g.J.Judge.rules known_of l.fn.self b
      → HasRead g.J.Judge.rules known_of l.self (b ++ take l.start l.piece);
}

abbrev pub decreases-loop-at : goal.decreases-loop-at
decreases-loop-at g l = length l.piece - l.start
