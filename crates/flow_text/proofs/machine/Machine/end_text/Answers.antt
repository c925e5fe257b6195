-- `end_text`: the rest of the text is a line if it has a byte; a comment's rest, nothing, or what is buffered.
use Rattle.std.proofs.Common.{arith, sym, ◌∙◌, ◌≡◌, ◌<◌, ap, length, ℕ, List, ◌==◌, false, true}
use Rattle.flow_text.specs.Lines.{rest}
use Rattle.flow_text.specs.Rules.{Rules}
use Rattle.flow_text.specs.Reading.{State, HasRead}
use Rattle.flow_text.proofs.EndLemmas.{Finals-line, Finals-none, comment-some}
use Rattle.flow_text.proofs.ReaderLemmas.{partial_plain}
use Rattle.flow_text.proofs.machine.Machine.end_text.Goals as goal

some : (n : ℕ) → false ≡ (n == 0) → 0 < n
some n h = grind arith

none : (n : ℕ) → true ≡ (n == 0) → n ≡ 0
none n h = grind arith

-- what is buffered, where the line is no comment
partial_len : {K : Type 0} (rules : Rules K) (known_of : List (List ℕ) → K) (old : State K)
    (b : List ℕ) (items : List ℕ) → HasRead rules known_of old b → old.comment ≡ false → items ≡ old.partial
    → length items ≡ length (rest b)
partial_len rules known_of old b items r plain same = ap length (same ∙ partial_plain rules known_of old b r plain)

-- the rest is a comment, which has a byte
pub returns-then-self : goal.returns-then-self
returns-then-self g c = λ known_of adds b r.
    let comment : c.args.self.now.comment ≡ true = rw (← c.self.view_is) c.if-self.true in
    Finals-line g.J.Judge.rules known_of g.J.Judge.with_record adds _ _ b _ r
    (comment-some (rest b) (sym r.in_comment ∙ comment)) c.end_line.ensures

-- nothing is buffered, so the text has ended with a line
pub returns-then-is_empty : goal.returns-then-is_empty
returns-then-is_empty g c = λ known_of adds b r.
    let plain : c.args.self.now.comment ≡ false = rw (← c.self.view_is) c.if-self.false in
    let len = partial_len g.J.Judge.rules known_of _ b _ r plain (ap (λ s. s.partial) c.self.view_is) in
    Finals-none g.J.Judge.rules known_of _ b r (sym len ∙ none _ c.if-is_empty.ensures)

-- what is buffered is the last line
pub returns : goal.returns
returns g c = λ known_of adds b r.
    let plain : c.args.self.now.comment ≡ false = rw (← c.self.view_is) c.if-self.false in
    let len = partial_len g.J.Judge.rules known_of _ b _ r plain (ap (λ s. s.partial) c.self.view_is) in
    Finals-line g.J.Judge.rules known_of g.J.Judge.with_record adds _ _ b _ r
    (rw (← len) (some _ c.if-is_empty.ensures)) c.end_line-2.ensures
