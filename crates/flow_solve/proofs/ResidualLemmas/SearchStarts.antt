-- How a search begins: nothing is seen, and some nodes are looked out for.
use Rattle.std.proofs.Common.{◌≡◌, ℕ, suc, ◌+◌, ◌-◌, ◌≤◌, ◌<◌, Bool, true, false, cond, List}
use Rattle.std.proofs.Common.{length, get_or, set, take, ◌∙◌, sym, ap, inl, inr, add-one, get_or-set_same}
use Rattle.std.proofs.Common.{get_or-set_other, arith}
use Rattle.std.proofs.lemmas.Bool.{cases_eq}
use Rattle.flow_net.specs.NodeSets.{one_of}
use Rattle.flow_net.proofs.NodeLists.{one_of-here, one_of-other}
use Rattle.flow_solve.specs.declared.residual.searching.TheConstants.{FAR, WANTED}
use Rattle.flow_solve.specs.residual.Searches.{unseen_cell, wanted_at, IsCount}
use Rattle.flow_solve.proofs.ResidualLemmas.Queues.{spread_none}

-- one more node is looked out for
pub look_more : (until dist : List ℕ) (k p : ℕ) → k < length until → 1 ≤ get_or until k 0
    → get_or until k 0 ≤ length dist → get_or dist p 0 ≡ unseen_cell (take k until) p
    → get_or (set dist (get_or until k 0 - 1) WANTED) p 0 ≡ unseen_cell (take (k + 1) until) p
look_more until dist k p l low high e = elim (cases_eq p (get_or until k 0 - 1)) [
  | inl at ↦
      let node : p + 1 ≡ get_or until k 0 = omega arith in
      let yes : one_of (take (k + 1) until) (p + 1) ≡ true =
      ap (λ j. one_of (take j until) (p + 1)) (add-one k) ∙ ap (one_of (take (suc k) until)) node
      ∙ one_of-here until k l in
      let here : get_or (set dist (get_or until k 0 - 1) WANTED) p 0 ≡ WANTED =
      ap (λ i. get_or (set dist (get_or until k 0 - 1) WANTED) i 0) at
      ∙ get_or-set_same dist (get_or until k 0 - 1) WANTED 0 (omega arith) in
      here ∙ sym (ap (λ b. cond b WANTED FAR) yes)
  | inr n ↦
      let same : one_of (take (suc k) until) (p + 1) ≡ one_of (take k until) (p + 1) =
      one_of-other until k (p + 1) l (omega arith) in
      get_or-set_other dist (get_or until k 0 - 1) p WANTED 0 n ∙ e
      ∙ sym (ap (λ j. unseen_cell (take j until) p) (add-one k) ∙ ap (λ b. cond b WANTED FAR) same)
]

-- nothing is seen at first
unseen_high : (b : Bool) → WANTED ≤ cond b WANTED FAR
unseen_high true = omega arith
unseen_high false = omega arith

pub unseen_least : (until : List ℕ) (p : ℕ) → WANTED ≤ unseen_cell until p
unseen_least until p = unseen_high (one_of until (p + 1))

pub count_none : (until dist : List ℕ) → ((p : ℕ) → p < length dist → get_or dist p 0 ≡ unseen_cell until p)
    → IsCount until dist 0
count_none until dist u = record {
  cells = λ p l m. u p l;
  count = sym (spread_none (wanted_at until) dist (length dist) (λ p l. omega (arith, u p l, unseen_least until p)));
}
