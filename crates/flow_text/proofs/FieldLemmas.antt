-- What the fields of a line are, from its front.
use Rattle.std.proofs.Common.{◌≡◌, ◌<◌, ◌≤◌, ℕ, inl, inr, ◌+◌, ◌-◌, true, false, List, [], ◌∷◌, ◌++◌, length, get_or}
use Rattle.std.proofs.Common.{drop, refl, ap, ◌∙◌, sym, arith, add-one, drop-cons}
use Rattle.std.specs.List.{filter, All, slice_range}
use Rattle.std.proofs.lemmas.List.Splits.{slice_split_none, slice_split_at, slice_split-cons_yes}
use Rattle.std.proofs.lemmas.List.Folds.{drop_split}
use Rattle.std.proofs.lemmas.List.{drop_all, append-nil}
use Rattle.std.proofs.lemmas.List.Edits.{length-between, get_or-between}
use Rattle.std.proofs.lemmas.List.Elements.{All-from_get_or}
use Rattle.std.proofs.lemmas.Bool.{cases_lt}
use Rattle.flow_text.specs.Fields.{fields_of}
use Rattle.flow_text.specs.LineParts.{has_bytes}
use Rattle.flow_text.specs.LineParts.{is_blank}

-- a blank in front changes nothing
pub fields_of-blank : (c : ℕ) (line : List ℕ) → is_blank c ≡ true → fields_of (c ∷ line) ≡ fields_of line
unfolding fields_of
fields_of-blank c line h = ap (filter has_bytes) (slice_split-cons_yes is_blank c line h)

-- a blank at a place
pub fields_of-drop : (line : List ℕ) (i : ℕ) → i < length line → is_blank (get_or line i 0) ≡ true
    → fields_of (drop (i + 1) line) ≡ fields_of (drop i line)
fields_of-drop line i h blank =
    sym (ap fields_of (drop-cons line i 0 h) ∙ rw (← add-one) (fields_of-blank _ _ blank))

has_bytes-yes : (bytes : List ℕ) → 0 < length bytes → has_bytes bytes ≡ true
has_bytes-yes bytes h = search (arith)

pub fields_of-last : (field : List ℕ) → 0 < length field → All (λ c. is_blank c ≡ false) field
    → fields_of field ≡ field ∷ []
unfolding fields_of
fields_of-last field h none =
    ap (filter has_bytes) (slice_split_none is_blank field none) ∙ rw (has_bytes-yes field h) refl

pub fields_of-field : (field : List ℕ) (c : ℕ) (line : List ℕ) → 0 < length field → All (λ c. is_blank c ≡ false) field
    → is_blank c ≡ true → fields_of (field ++ c ∷ line) ≡ field ∷ fields_of (c ∷ line)
unfolding fields_of
fields_of-field field c line h none blank =
    ap (filter has_bytes) (slice_split_at is_blank field c line none blank)
    ∙ rw (has_bytes-yes field h) (ap (λ fs. field ∷ fs) (sym (fields_of-blank c line blank)))

-- the field that stands from place i up to place j
pub fields_of-at : (line : List ℕ) (i j : ℕ) → i < j → j ≤ length line
    → ((k : ℕ) → i ≤ k → k < j → is_blank (get_or line k 0) ≡ false)
    → (j < length line → is_blank (get_or line j 0) ≡ true)
    → fields_of (drop i line) ≡ slice_range line i j ∷ fields_of (drop j line)
unfolding fields_of
fields_of-at line i j low high none blank =
    let span : length (slice_range line i j) ≡ j - i = length-between line i j high in
    let some : 0 < length (slice_range line i j) = omega arith in
    let none' : All (λ c. is_blank c ≡ false) (slice_range line i j) =
    All-from_get_or (λ c. is_blank c ≡ false) _ 0
    (λ k h. rw (get_or-between line i j k 0 (omega arith)) (none (i + k) (omega arith) (omega arith))) in
    ap fields_of (drop_split line i j (omega arith)) ∙ elim (cases_lt j (length line)) [
      | inl more ↦ rw (drop-cons line j 0 more) (fields_of-field _ _ _ some none' (blank more))
      | inr end ↦ rw (drop_all j line end) (rw (append-nil (slice_range line i j)) (fields_of-last _ some none'))
    ]

-- no field is left at the end
pub fields_of-none : (line : List ℕ) (n : ℕ) → length line ≤ n → fields_of (drop n line) ≡ fields_of line
    → fields_of line ≡ []
unfolding fields_of
fields_of-none line n h same = sym same ∙ rw (drop_all n line h) refl
