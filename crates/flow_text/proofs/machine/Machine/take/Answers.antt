-- `take`: each ended line of the piece goes on with what is buffered and is judged; the rest of the piece is
-- buffered.
use Rattle.std.proofs.Common.{arith, subst, ◌+◌, drop, List, ℕ}
use Rattle.std.proofs.lemmas.List.{take_rest, length-drop}
use Rattle.flow_text.specs.Rules.{early_fault}
use Rattle.flow_text.specs.Reading.{TellsAt, HasRead, BuffersTail, Takes}
use Rattle.flow_text.proofs.ReaderLemmas.{HasRead-ends, Tells-ends}
use Rattle.flow_text.proofs.PieceLemmas.{LineEndsAt-from, no_end_left, text-more, text-all, text-last, Takes-from}
use Rattle.flow_text.proofs.machine.Machine.take.Goals as goal

-- a line ends, and is accepted
pub loop-at-preserved : goal.loop-at-preserved
loop-at-preserved g c =
    let ends = rw (c.in-Ok-Some.field-0-is, take_rest c.args.piece.now c.loop-at.start) at c.in-Ok-Some.ensures in
    let f = LineEndsAt-from (drop c.loop-at.start c.args.piece.now) c.in-Ok-Some.at ends.0 in
    record {
      within = omega (arith, f.within, length-drop c.loop-at.start c.args.piece.now);
      reads = λ known_of adds b r.
          subst (λ (text : List ℕ). HasRead g.J.Judge.rules known_of c.end_first.new.self text)
          (text-more b c.args.piece.now c.loop-at.start c.in-Ok-Some.at f)
          (HasRead-ends g.J.Judge.rules known_of g.J.Judge.with_record adds _ _ _ _ f.none
          (c.loop-at.invariant.reads known_of adds b r) ends.1);
    }

-- no line ends any more
pub returns-in-Ok-None : goal.returns-in-Ok-None
returns-in-Ok-None g c = λ known_of adds b r.
    let none = rw (c.in-Ok-None.field-0-is, take_rest c.args.piece.now c.loop-at.start) at c.in-Ok-None.ensures in
    let rest = subst (λ (tail : List ℕ). BuffersTail c.end_first.new.self tail c.buffer.result c.buffer.new.self)
    (take_rest c.args.piece.now c.loop-at.start) c.buffer.ensures in
    let kept = rw none.1 at rest in
    subst (λ (text : List ℕ). Takes g.J.Judge.rules known_of text c.buffer.result c.buffer.new.self)
    (text-last b c.args.piece.now c.loop-at.start)
    (Takes-from g.J.Judge.rules known_of c.loop-at.self _ _ _ _ (no_end_left _ none.0)
    (c.loop-at.invariant.reads known_of adds b r) kept)

-- a line ends, and is refused
pub returns-in-Err : goal.returns-in-Err
returns-in-Err g c = λ known_of adds b r.
    let fails = rw (take_rest c.args.piece.now c.loop-at.start) at c.in-Err.ensures in
    let f = LineEndsAt-from (drop c.loop-at.start c.args.piece.now) fails.0 fails.1 in
    subst (λ (text : List ℕ). TellsAt c.end_first.new.self.count c.in-Err.refusal
    (early_fault g.J.Judge.rules known_of text)) (text-all b c.args.piece.now c.loop-at.start fails.0 f)
    (Tells-ends g.J.Judge.rules known_of c.loop-at.self c.end_first.new.self _ _
    (drop (c.loop-at.start + (fails.0 + 1)) c.args.piece.now) _ f.none
    (c.loop-at.invariant.reads known_of adds b r) fails.2)
