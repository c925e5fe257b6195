-- The lines of a text that goes on.
use Rattle.std.proofs.Common.{◌≡◌, ◌<◌, ℕ, false, List, [], ◌∷◌, ◌++◌, length, refl, ap, ◌∙◌, sym, subst, suc, ◌-◌}
use Rattle.std.proofs.Common.{take, slice_index_or, arith, inl, inr, append_assoc, length-append, append-nil, rules}
use Rattle.std.specs.List.{slice_split, onto_first}
use Rattle.std.proofs.lemmas.Bool.{cases_Bool}
use Rattle.std.proofs.lemmas.List.Splits.{slice_split_none, slice_split_at, slice_split-cons_yes, slice_split-cons_no}
use Rattle.std.proofs.lemmas.List.Splits.{length-slice_split}
use Rattle.std.proofs.lemmas.List.Elements.{All-append, All-cons}
use Rattle.flow_text.specs.Lines.{ended, rest}
use Rattle.flow_text.specs.LineParts.{front, last_part, is_end, HasNoEnd}

pub front-cons : (part : List ℕ) (parts : List (List ℕ)) → 0 < length parts → front (part ∷ parts) ≡ part ∷ front parts
front-cons part parts h =
    let count : length (part ∷ parts) - 1 ≡ suc (length parts - 1) = omega arith in
    ap (λ (n : ℕ). take n (part ∷ parts)) count

pub last-cons : (part : List ℕ) (parts : List (List ℕ)) → 0 < length parts → last_part (part ∷ parts) ≡ last_part parts
last-cons part parts h =
    let count : length (part ∷ parts) - 1 ≡ suc (length parts - 1) = omega arith in
    ap (λ (n : ℕ). slice_index_or (part ∷ parts) n []) count

pub some_part : (b : List ℕ) → 0 < length (slice_split is_end b)
some_part b = omega (arith, length-slice_split is_end b)

front-append : (xs ys : List (List ℕ)) → 0 < length ys → front (xs ++ ys) ≡ xs ++ front ys
front-append [] ys h = refl
front-append (x ∷ xs) ys h =
    front-cons x (xs ++ ys) (omega (arith, length-append xs ys)) ∙ ap (λ rest. x ∷ rest) (front-append xs ys h)

last-append : (xs ys : List (List ℕ)) → 0 < length ys → last_part (xs ++ ys) ≡ last_part ys
last-append [] ys h = refl
last-append (x ∷ xs) ys h = last-cons x (xs ++ ys) (omega (arith, length-append xs ys)) ∙ last-append xs ys h

-- a byte in front of the first part
onto : (c : ℕ) (x : List ℕ) (parts : List (List ℕ)) → is_end c ≡ false → 0 < length parts
    → onto_first c (front parts ++ slice_split is_end (last_part parts ++ x))
    ≡ front (onto_first c parts) ++ slice_split is_end (last_part (onto_first c parts) ++ x)
onto c x [] h some = absurd (omega arith)
onto c x (part ∷ []) h some = sym (slice_split-cons_no is_end c (part ++ x) h)
onto c x (part ∷ next ∷ parts) h some =
    let more : 0 < length (next ∷ parts) = omega arith in
    rw (
      front-cons part (next ∷ parts) more,
      last-cons part (next ∷ parts) more,
      front-cons (c ∷ part) (next ∷ parts) more,
      last-cons (c ∷ part) (next ∷ parts) more,
    ) refl

-- the text goes on at its last part
split-append : (b x : List ℕ)
    → slice_split is_end (b ++ x)
    ≡ front (slice_split is_end b) ++ slice_split is_end (last_part (slice_split is_end b) ++ x)
split-append [] x = refl
split-append (c ∷ b) x = elim (cases_Bool (is_end c)) [
  | inl yes' ↦ slice_split-cons_yes is_end c (b ++ x) yes' ∙ ap (λ parts. [] ∷ parts) (split-append b x)
      ∙ rw (slice_split-cons_yes is_end c b yes', front-cons [] _ (some_part b), last-cons [] _ (some_part b)) refl
  | inr no' ↦ slice_split-cons_no is_end c (b ++ x) no' ∙ ap (onto_first c) (split-append b x)
      ∙ onto c x (slice_split is_end b) no' (some_part b) ∙ rw (slice_split-cons_no is_end c b no') refl
]

pub ended-append : (b x : List ℕ) → ended (b ++ x) ≡ ended b ++ ended (rest b ++ x)
unfolding ended rest
ended-append b x = ap front (split-append b x) ∙ front-append _ _ (some_part (last_part (slice_split is_end b) ++ x))

pub rest-append : (b x : List ℕ) → rest (b ++ x) ≡ rest (rest b ++ x)
unfolding ended rest
rest-append b x =
    ap last_part (split-append b x)
    ∙ last-append (front (slice_split is_end b)) (slice_split is_end (last_part (slice_split is_end b) ++ x))
    (some_part (last_part (slice_split is_end b) ++ x))

-- what follows the last byte 10 holds none
last-onto : (c : ℕ) (parts : List (List ℕ)) → is_end c ≡ false → HasNoEnd (last_part parts)
    → HasNoEnd (last_part (onto_first c parts))
last-onto c [] h none = All-cons (λ c. is_end c ≡ false) c [] h none
last-onto c (part ∷ []) h none = All-cons (λ c. is_end c ≡ false) c part h none
last-onto c (part ∷ next ∷ parts) h none =
    let more : 0 < length (next ∷ parts) = omega arith in
    subst HasNoEnd (last-cons part (next ∷ parts) more ∙ sym (last-cons (c ∷ part) (next ∷ parts) more)) none

pub rest_is : (b : List ℕ) → HasNoEnd (rest b)
unfolding rest
rest_is [] = search rules
rest_is (c ∷ b) = elim (cases_Bool (is_end c)) [
  | inl yes' ↦ rw (slice_split-cons_yes is_end c b yes', last-cons [] _ (some_part b)) (rest_is b)
  | inr no' ↦ rw (slice_split-cons_no is_end c b no') (last-onto c (slice_split is_end b) no' (rest_is b))
]

pub ended_none : (line : List ℕ) → HasNoEnd line → ended line ≡ []
unfolding ended
ended_none line none = rw (slice_split_none is_end line none) refl

pub rest_none : (line : List ℕ) → HasNoEnd line → rest line ≡ line
unfolding rest
rest_none line none = rw (slice_split_none is_end line none) refl

-- a text that goes on within its last line
pub ended_within : (b tail : List ℕ) → HasNoEnd tail → ended (b ++ tail) ≡ ended b
ended_within b tail none =
    ended-append b tail
    ∙ rw (ended_none (rest b ++ tail) (All-append (λ c. is_end c ≡ false) _ _ (rest_is b) none)) (append-nil _)

pub rest_within : (b tail : List ℕ) → HasNoEnd tail → rest (b ++ tail) ≡ rest b ++ tail
rest_within b tail none = rest-append b tail ∙ rest_none _ (All-append (λ c. is_end c ≡ false) _ _ (rest_is b) none)

ended_at : (line : List ℕ) → HasNoEnd line → ended (line ++ 10 ∷ []) ≡ line ∷ []
unfolding ended
ended_at line none = rw (slice_split_at is_end line 10 [] none refl) refl

rest_at : (line : List ℕ) → HasNoEnd line → rest (line ++ 10 ∷ []) ≡ []
unfolding rest
rest_at line none = rw (slice_split_at is_end line 10 [] none refl) refl

-- and one that goes on to its end
pub ended_by : (b tail : List ℕ) → HasNoEnd tail → ended (b ++ (tail ++ 10 ∷ [])) ≡ ended b ++ (rest b ++ tail) ∷ []
ended_by b tail none =
    ended-append b _
    ∙ ap (λ new. ended b ++ new) (ap ended (sym (append_assoc (rest b) tail (10 ∷ [])))
    ∙ ended_at _ (All-append (λ c. is_end c ≡ false) _ _ (rest_is b) none))

pub rest_by : (b tail : List ℕ) → HasNoEnd tail → rest (b ++ (tail ++ 10 ∷ [])) ≡ []
rest_by b tail none =
    rest-append b _ ∙ ap rest (sym (append_assoc (rest b) tail (10 ∷ [])))
    ∙ rest_at _ (All-append (λ c. is_end c ≡ false) _ _ (rest_is b) none)
