-- `judge_rest`: what is buffered and what follows are too long together, and the line is no comment.
use Rattle.std.proofs.Common.{refl, sym, ◌∙◌, arith, length, ◌<◌, ◌≡◌, ◌≤◌, ◌==◌, ◌+◌, ℕ, true, false, length-append}
use Rattle.std.proofs.Common.{inl, inr, true≢false}
use Rattle.std.proofs.lemmas.Bool.{cases_lt}
use Rattle.flow_text.proofs.ReaderLemmas.{comment-append}
use Rattle.flow_text.proofs.RuleLemmas.{of_long}
use Rattle.flow_text.proofs.machine.Machine.judge_rest.Goals as goal
use Rattle.flow_text.specs.declared.limits.TheConstants.{LONGEST_LINE}

-- a list that isn't empty
some : (n : ℕ) → false ≡ (n == 0) → 0 < n
some n h = grind arith

above : (n m : ℕ) → (n ≤ m → false ≡ true) → m < n
above n m h = elim (cases_lt m n) [ inl lt ↦ lt | inr le ↦ absurd (true≢false (sym (h le))) ]

pub returns-in-Err : goal.returns-in-Err
returns-in-Err g c =
    let long : LONGEST_LINE < length c.self.inside.partial.items + length c.args.tail.now =
    above _ LONGEST_LINE c.in-Err.ensures.variant.1 in
    rw (← c.self.view_is) (record {
      plain = c.if-self.false;
      counts = refl;
      tells =
          of_long g.J.Judge.rules _ _ (comment-append c.self.inside.partial.items c.args.tail.now
          (some _ c.if-is_empty.ensures) ∙ c.self.invariant.plain)
          (rw length-append long);
    })
