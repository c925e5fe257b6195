-- The lines of a kind: the first of them, and what all of them say, with one line more.
use Rattle.std.proofs.Common.{◌≡◌, ℕ, ◌==◌, Bool, true, false, cond, List, [], ◌∷◌, ◌++◌, length, refl, ap, ◌∙◌, sym}
use Rattle.std.proofs.Common.{Option, Some, None, inl, inr, is_some, map, filter, arith}
use Rattle.std.proofs.Common.{append-nil}
use Rattle.std.specs.List.{find, slice_split, onto_first}
use Rattle.std.specs.Option.{option_map, option_or}
use Rattle.std.specs.Str.{bytes_eq}
use Rattle.std.proofs.lemmas.Bool.{cases_Bool, true≢false}
use Rattle.std.proofs.lemmas.Grind.{common_steps}
use Rattle.std.proofs.lemmas.List.{map-append}
use Rattle.std.proofs.lemmas.List.Folds.{find-append}
use Rattle.std.proofs.lemmas.List.Elements.{filter-append}
use Rattle.std.proofs.lemmas.List.Splits.{slice_split-cons_no}
use Rattle.std.proofs.lemmas.Slice.Eq.{bytes_eq-Decides}
use Rattle.flow_text.specs.Fields.{fields_of}
use Rattle.flow_text.specs.LineParts.{has_bytes}
use Rattle.flow_text.specs.LineParts.{is_blank}
use Rattle.flow_text.specs.Rules.{is_comment, names}
use Rattle.flow_text.proofs.RuleLemmas.{has_some}

-- a field that is one word is no other
pub is_not_other : (field word other : List ℕ) → bytes_eq field word ≡ true → bytes_eq word other ≡ false
    → bytes_eq field other ≡ false
is_not_other field word other is apart = rw ((bytes_eq-Decides field word).0 is) apart

pub none_from : {A : Type 0} (o : Option A) → is_some o ≡ false → o ≡ None
none_from None h = refl
none_from (Some x) h = cc

-- a line of a kind has a field
pub has_field : (letter : ℕ) (fields : List (List ℕ)) → names (letter ∷ []) fields ≡ true
    → (length fields == 0) ≡ false
has_field letter [] h = cc
has_field letter (f ∷ fields) h = has_some f fields

-- a comment's first field begins with 'c'
onto_first-parts : (c : ℕ) (parts : List (List ℕ))
    → (field : List ℕ) × (others : List (List ℕ)) × (onto_first c parts ≡ (c ∷ field) ∷ others)
onto_first-parts c [] = ([], [], refl)
onto_first-parts c (part ∷ parts) = (part, parts, refl)

comment-field : (line : List ℕ) → is_comment line ≡ true
    → (field : List ℕ) × (others : List (List ℕ)) × (fields_of line ≡ (99 ∷ field) ∷ others)
unfolding fields_of
comment-field [] h = cc
comment-field (c ∷ line) h =
    let is : c ≡ 99 = grind (arith, common_steps, h) in
    let parts = onto_first-parts 99 (slice_split is_blank line) in
    let some : has_bytes (99 ∷ parts.0) ≡ true = search (arith) in (
      parts.0,
      filter has_bytes parts.1,
      rw is (ap (filter has_bytes) (slice_split-cons_no is_blank 99 line refl ∙ parts.2) ∙ rw some refl),
    )

-- so it is of no other kind
pub comment_is_none : (letter : ℕ) (line : List ℕ) → is_comment line ≡ true → (letter == 99) ≡ false
    → names (letter ∷ []) (fields_of line) ≡ false
comment_is_none letter line h other =
    let field = comment-field line h in
    rw field.2 (grind (arith, common_steps, other))

pub kind_is_plain : (letter : ℕ) (line : List ℕ) → names (letter ∷ []) (fields_of line) ≡ true
    → (letter == 99) ≡ false → is_comment line ≡ false
kind_is_plain letter line h other = elim (cases_Bool (is_comment line)) [
  | inl comment ↦ absurd (true≢false (sym h ∙ comment_is_none letter line comment other))
  | inr plain ↦ plain
]

or_none : {X : Type 0} (o : Option X) → option_or o None ≡ o
or_none None = refl
or_none (Some x) = refl

find-push : {X : Type 0} (p : X → Bool) (before : List X) (line : X) → p line ≡ false
    → find p (before ++ line ∷ []) ≡ find p before
find-push p before line h = find-append p before (line ∷ []) ∙ rw h (or_none (find p before))

find-push-first : {X : Type 0} (p : X → Bool) (before : List X) (line : X) → p line ≡ true → find p before ≡ None
    → find p (before ++ line ∷ []) ≡ Some line
find-push-first p before line h none = find-append p before (line ∷ []) ∙ rw (none, h) refl

map_none : {X A : Type 0} (f : X → A) (o : Option X) → option_map f o ≡ None → o ≡ None
map_none f None h = refl
map_none f (Some x) h = cc

-- what the first line of a kind says, with one line more, where a second of that kind isn't there
pub first-push : {X A : Type 0} (f : X → A) (p : X → Bool) (before : List X) (line : X)
    → (p line ≡ true → option_map f (find p before) ≡ None)
    → option_map f (find p (before ++ line ∷ [])) ≡ cond (p line) (Some (f line)) (option_map f (find p before))
first-push f p before line only = elim (cases_Bool (p line)) [
  | inl is ↦ rw (find-push-first p before line is (map_none f (find p before) (only is)), is) refl
  | inr isnt ↦ rw (find-push p before line isnt, isnt) refl
]

-- what the lines of a kind say, with one line more
pub list-push : {X A : Type 0} (f : X → A) (q : X → Bool) (before : List X) (line : X)
    → map f (filter q (before ++ line ∷ []))
    ≡ cond (q line) (map f (filter q before) ++ f line ∷ []) (map f (filter q before))
list-push f q before line = elim (cases_Bool (q line)) [
  | inl is ↦ rw (filter-append q before (line ∷ []), is) (map-append f (filter q before) (line ∷ []))
  | inr is ↦ rw (filter-append q before (line ∷ []), is) (ap (map f) (append-nil (filter q before)))
]
