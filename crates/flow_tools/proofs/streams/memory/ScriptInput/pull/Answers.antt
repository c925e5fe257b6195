-- `pull`: what it delivers is the front of what was left, and the rest is left.
use Rattle.std.proofs.Common.{◌≡◌, ◌≤◌, ◌<◌, ℕ, List, [], ◌++◌, length, take, drop, ◌∙◌, arith}
use Rattle.std.proofs.lemmas.Grind.{common_steps}
use Rattle.flow_tools.proofs.streams.memory.ScriptInput.pull.Goals as goal

moved : (rest piece back post : List ℕ) (n : ℕ) → piece ≡ take n rest → back ≡ drop n rest → n ≤ length rest
    → rest ≡ take n (piece ++ post) ++ back
moved rest piece back post n p b l = grind (arith, common_steps)

at_end : (rest back : List ℕ) (n : ℕ) → back ≡ drop n rest → (0 < length rest → 0 < n) → n ≡ 0 → back ≡ []
at_end rest back n b some none = grind (arith, common_steps)

pub returns-clause-bytes : goal.returns-clause-bytes
returns-clause-bytes c = (
  moved c.args.self.now.rest.now c.copy_from_slice.new.self c.split_at.result.1.now _ c.next_len-count.result
      (c.copy_from_slice.ensures.after ∙ c.split_at.ensures.front) c.split_at.ensures.back
      c.next_len-count.ensures.within,
  λ none long.
      at_end c.args.self.now.rest.now c.split_at.result.1.now c.next_len-count.result c.split_at.ensures.back
      c.next_len-count.ensures.some none,
)
