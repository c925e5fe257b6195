-- Terminals stay different where a new one is added.
use Rattle.std.proofs.Common.{◌≡◌, ◌≢◌, ◌<◌, ℕ, suc, ◌-◌, ◌==◌, true, false, List, [], ◌∷◌, ◌++◌, length, get_or, refl}
use Rattle.std.proofs.Common.{ap, ◌∙◌, sym, arith, inl, inr, append_assoc, append-nil, length-append}
use Rattle.std.specs.List.{list_any}
use Rattle.std.proofs.lemmas.Bool.{cases_lt, true≢false}
use Rattle.std.proofs.lemmas.List.{get_or_append_left, get_or-append_right}
use Rattle.std.proofs.lemmas.List.Folds.{list_any_at, list_any-append}
use Rattle.std.proofs.Math.Seq.{get_or-append_seam}
use Rattle.flow_net.specs.Limits.{AreDistinct}
use Rattle.flow_text.specs.Terminals.{Marks, is_marked}

-- the number stands nowhere in the list
abbrev pub IsNowhere : List ℕ → ℕ → Type 0
IsNowhere xs n = (k : ℕ) → k < length xs → get_or xs k 0 ≢ n

-- what stands before and after a number that is put between two lists
before : (xs ys : List ℕ) (n k : ℕ) → k < length xs → get_or (xs ++ n ∷ ys) k 0 ≡ get_or (xs ++ ys) k 0
before xs ys n k h = get_or_append_left xs (n ∷ ys) 0 k h ∙ sym (get_or_append_left xs ys 0 k h)

after : (xs ys : List ℕ) (n k : ℕ) → length xs < k → get_or (xs ++ n ∷ ys) k 0 ≡ get_or (xs ++ ys) (k - 1) 0
after xs ys n k h =
    let at : k - length xs ≡ suc (k - 1 - length xs) = omega arith in
    get_or-append_right xs (n ∷ ys) (length xs) k 0 refl (omega arith) ∙ ap (λ m. get_or (n ∷ ys) m 0) at
    ∙ sym (get_or-append_right xs ys (length xs) (k - 1) 0 refl (omega arith))

seam : (xs ys : List ℕ) (n k : ℕ) → k ≡ length xs → get_or (xs ++ n ∷ ys) k 0 ≡ n
seam xs ys n k is = ap (λ m. get_or (xs ++ n ∷ ys) m 0) is ∙ get_or-append_seam xs n ys 0

pub AreDistinct-between : (xs ys : List ℕ) (n : ℕ) → AreDistinct (xs ++ ys) → IsNowhere (xs ++ ys) n
    → AreDistinct (xs ++ n ∷ ys)
AreDistinct-between xs ys n distinct nowhere = λ i j lt high same.
    let len = length-append xs (n ∷ ys) in
    let len' = length-append xs ys in
    elim (cases_lt j (length xs)) [
      | inl j_low ↦ distinct i j lt (omega arith) (sym (before xs ys n i (omega arith)) ∙ same ∙ before xs ys n j j_low)
      | inr j_not ↦ elim (cases_lt (length xs) j) [
        | inr j_at ↦
            nowhere i (omega arith) (sym (before xs ys n i (omega arith)) ∙ same ∙ seam xs ys n j (omega arith))
        | inl j_high ↦ elim (cases_lt i (length xs)) [
          | inl i_low ↦
              distinct i (j - 1) (omega arith) (omega arith)
              (sym (before xs ys n i i_low) ∙ same ∙ after xs ys n j j_high)
          | inr i_not ↦ elim (cases_lt (length xs) i) [
            | inl i_high ↦
                distinct (i - 1) (j - 1) (omega arith) (omega arith)
                (sym (after xs ys n i i_high) ∙ same ∙ after xs ys n j j_high)
            | inr i_at ↦
                nowhere (j - 1) (omega arith) (sym (after xs ys n j j_high) ∙ sym same ∙ seam xs ys n i (omega arith))
          ]
        ]
      ]
    ]

pub nowhere-unmarked : (marks : Marks) (n : ℕ) → is_marked marks n ≡ false → IsNowhere (marks.sources ++ marks.sinks) n
nowhere-unmarked marks n unmarked = λ k h same.
    let is : (get_or (marks.sources ++ marks.sinks) k 0 == n) ≡ true = grind arith in
    let any : list_any (λ t. t == n) (marks.sources ++ marks.sinks) ≡ true =
    list_any_at (λ t. t == n) (marks.sources ++ marks.sinks) k 0 h is in
    absurd (true≢false (sym any ∙ list_any-append (λ t. t == n) marks.sources marks.sinks ∙ unmarked))

-- one source more, one sink more
pub AreDistinct-source : (marks : Marks) (n : ℕ) → AreDistinct (marks.sources ++ marks.sinks)
    → is_marked marks n ≡ false → AreDistinct ((marks.sources ++ n ∷ []) ++ marks.sinks)
AreDistinct-source marks n distinct unmarked =
    rw (append_assoc marks.sources (n ∷ []) marks.sinks)
    (AreDistinct-between marks.sources marks.sinks n distinct (nowhere-unmarked marks n unmarked))

pub AreDistinct-sink : (marks : Marks) (n : ℕ) → AreDistinct (marks.sources ++ marks.sinks) → is_marked marks n ≡ false
    → AreDistinct (marks.sources ++ (marks.sinks ++ n ∷ []))
AreDistinct-sink marks n distinct unmarked =
    rw (← append_assoc marks.sources marks.sinks (n ∷ []))
    (AreDistinct-between (marks.sources ++ marks.sinks) [] n (rw (append-nil (marks.sources ++ marks.sinks)) distinct)
    (rw (append-nil (marks.sources ++ marks.sinks)) (nowhere-unmarked marks n unmarked)))
