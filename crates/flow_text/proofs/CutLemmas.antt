-- A text is cut into lines in one way only.
use Rattle.std.proofs.Common.{◌≡◌, ◌<◌, ℕ, false, List, [], ◌∷◌, length, refl, ap, ◌∙◌, sym, subst, arith, inl, inr}
use Rattle.std.proofs.Common.{rules as std_rules}
use Rattle.std.specs.List.{slice_split, onto_first, All}
use Rattle.std.proofs.lemmas.Bool.{cases_Bool, eqb-true}
use Rattle.std.proofs.lemmas.List.Splits.{slice_split_none, slice_split_at, slice_split-cons_yes, slice_split-cons_no}
use Rattle.std.proofs.lemmas.List.Elements.{All-cons, All-head, All-tail}
use Rattle.flow_text.specs.Lines.{ended, rest}
use Rattle.flow_text.specs.LineParts.{front, last_part, is_end, joined, HasNoEnd}
use Rattle.flow_text.proofs.LineLemmas.{front-cons, last-cons, some_part, rest_is}

pub ended-joined : (ls : List (List ℕ)) (r : List ℕ) → All HasNoEnd ls → HasNoEnd r
    → (ended (joined ls r) ≡ ls) × (rest (joined ls r) ≡ r)
unfolding ended rest
ended-joined [] r none last = (rw (slice_split_none is_end r last) refl, rw (slice_split_none is_end r last) refl)
ended-joined (l ∷ ls) r none last =
    let split = slice_split_at is_end l 10 (joined ls r) (All-head HasNoEnd l ls none) refl in
    let same = ended-joined ls r (All-tail HasNoEnd l ls none) last in (
      ap front split ∙ front-cons l (slice_split is_end (joined ls r)) (some_part (joined ls r))
          ∙ ap (λ parts. l ∷ parts) same.0,
      ap last_part split ∙ last-cons l (slice_split is_end (joined ls r)) (some_part (joined ls r)) ∙ same.1,
    )

-- a byte in front of the first part
joined-onto : (c : ℕ) (parts : List (List ℕ)) → 0 < length parts
    → joined (front (onto_first c parts)) (last_part (onto_first c parts)) ≡ c ∷ joined (front parts) (last_part parts)
joined-onto c [] h = absurd (omega arith)
joined-onto c (part ∷ []) h = refl
joined-onto c (part ∷ next ∷ parts) h =
    let more : 0 < length (next ∷ parts) = omega arith in
    rw (
      front-cons part (next ∷ parts) more,
      last-cons part (next ∷ parts) more,
      front-cons (c ∷ part) (next ∷ parts) more,
      last-cons (c ∷ part) (next ∷ parts) more,
    ) refl

pub joined-ended : (b : List ℕ) → joined (ended b) (rest b) ≡ b
unfolding ended rest
joined-ended [] = refl
joined-ended (c ∷ b) = elim (cases_Bool (is_end c)) [
  | inl yes' ↦
      rw (slice_split-cons_yes is_end c b yes', front-cons [] _ (some_part b), last-cons [] _ (some_part b))
      (ap (λ text. 10 ∷ text) (joined-ended b) ∙ ap (λ x. x ∷ b) (sym (eqb-true c 10 yes')))
  | inr no' ↦
      rw (slice_split-cons_no is_end c b no')
      (joined-onto c (slice_split is_end b) (some_part b) ∙ ap (λ text. c ∷ text) (joined-ended b))
]

onto-none : (c : ℕ) (parts : List (List ℕ)) → is_end c ≡ false → All HasNoEnd (front parts) → HasNoEnd (last_part parts)
    → All HasNoEnd (front (onto_first c parts))
onto-none c [] h none last = search std_rules
onto-none c (part ∷ []) h none last = search std_rules
onto-none c (part ∷ next ∷ parts) h none last =
    let more : 0 < length (next ∷ parts) = omega arith in
    let none' : All HasNoEnd (part ∷ front (next ∷ parts)) =
    subst (All HasNoEnd) (front-cons part (next ∷ parts) more) none in
    subst (All HasNoEnd) (sym (front-cons (c ∷ part) (next ∷ parts) more))
    (All-cons HasNoEnd (c ∷ part) (front (next ∷ parts))
    (All-cons (λ x. is_end x ≡ false) c part h (All-head HasNoEnd part (front (next ∷ parts)) none'))
    (All-tail HasNoEnd part (front (next ∷ parts)) none'))

pub ended_are : (b : List ℕ) → All HasNoEnd (ended b)
unfolding ended rest
ended_are [] = search std_rules
ended_are (c ∷ b) = elim (cases_Bool (is_end c)) [
  | inl yes' ↦
      rw (slice_split-cons_yes is_end c b yes', front-cons [] _ (some_part b))
      (All-cons HasNoEnd [] (ended b) (search std_rules) (ended_are b))
  | inr no' ↦ rw (slice_split-cons_no is_end c b no') (onto-none c (slice_split is_end b) no' (ended_are b) (rest_is b))
]
