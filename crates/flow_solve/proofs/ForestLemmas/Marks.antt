-- Marks of nodes, in bits of cells: one is set, and the others stay.
use Rattle.std.proofs.Common.{◌≡◌, ◌≢◌, ℕ, zero, suc, ◌-◌, ◌*◌, ◌/◌, ◌%◌, ◌^◌, ◌≤◌, ◌<◌, ◌⊎◌, Bool, true, false}
use Rattle.std.proofs.Common.{eqb, not, ◌&&◌, List, length, get_or, set, refl, ◌∙◌, sym, ap, subst, inl, inr, arith}
use Rattle.std.proofs.Common.{get_or-set_same, get_or-set_other, eq-eqb}
use Rattle.std.specs.Int.{bit_at, w32}
use Rattle.std.specs.Int.RustNames.{bit_or}
use mir.Val.{bits}
use Rattle.std.proofs.lemmas.Bool.{cases_eq}
use Rattle.std.proofs.lemmas.Nat.Bits.{bit_at_set_same, bit_at_set_other}
use Rattle.flow_solve.specs.Forests.{marked_in, seen_in, HasMarked}

-- a bit of a cell is set
abbrev pub with_bit : List ℕ → ℕ → List ℕ
with_bit cells b =
    set cells (b / 32) (bit_or (get_or cells (b / 32) 0) (1 * 2 ^ (b % 32) % 2 ^ bits w32))

module _ (cells : List ℕ) (b : ℕ) (l : b / 32 < length cells) where
  abbrev old : ℕ
  old = get_or cells (b / 32) 0

  abbrev number : ℕ
  number = bit_or old (1 * 2 ^ (b % 32) % 2 ^ bits w32)

  -- that bit, and the others
  bit_here : eqb (bit_at (get_or (with_bit cells b) (b / 32) 0) (b % 32)) 1 ≡ true
  bit_here =
      ap (λ z. eqb (bit_at z (b % 32)) 1) (get_or-set_same cells (b / 32) number 0 l)
      ∙ eq-eqb (bit_at number (b % 32)) 1 (bit_at_set_same w32 old (b % 32) (omega arith))

  bit_other : (c : ℕ) → c ≢ b
      → eqb (bit_at (get_or (with_bit cells b) (c / 32) 0) (c % 32)) 1
      ≡ eqb (bit_at (get_or cells (c / 32) 0) (c % 32)) 1
  bit_other c d = elim (cases_eq (c / 32) (b / 32)) [
    | inl e ↦
        ap (λ z. eqb (bit_at (get_or (with_bit cells b) z 0) (c % 32)) 1) e
        ∙ ap (λ z. eqb (bit_at z (c % 32)) 1) (get_or-set_same cells (b / 32) number 0 l)
        ∙ ap (λ z. eqb z 1)
        (bit_at_set_other w32 old (b % 32) (omega arith) (c % 32) (λ f. d (omega (arith, e, f))))
        ∙ sym (ap (λ z. eqb (bit_at (get_or cells z 0) (c % 32)) 1) e)
    | inr n ↦ ap (λ z. eqb (bit_at z (c % 32)) 1) (get_or-set_other cells (b / 32) (c / 32) number 0 n)
  ]

-- a node is marked
pub marked : (cells : List ℕ) (w : ℕ) → 1 ≤ w → w ≤ 32 * length cells → HasMarked w cells (with_bit cells (w - 1))
marked cells zero l m = absurd (omega arith)
marked cells (suc b) l m =
    subst (λ z. HasMarked (suc b) cells (with_bit cells z)) (omega arith)
    (record { here = bit_here cells b (omega arith); others = λ v d. other v d })
  where
    other : (v : ℕ) → v ≢ suc b → marked_in (with_bit cells b) v ≡ marked_in cells v
    other zero d = refl
    other (suc c) d = bit_other cells b (omega arith) c (λ e. d (omega (arith, e)))

-- a node that is marked, beside those that were before
pub mark_set : (w : ℕ) (before after : List ℕ) (v : ℕ) → HasMarked w before after → marked_in after v ≡ true
    → (v ≡ w) ⊎ (marked_in before v ≡ true)
mark_set w before after v m h = elim (cases_eq v w) [
  | inl e ↦ inl e
  | inr d ↦ inr (sym (m.others v d) ∙ h)
]

pub mark_kept : (w : ℕ) (before after : List ℕ) (v : ℕ) → HasMarked w before after → marked_in before v ≡ true
    → marked_in after v ≡ true
mark_kept w before after v m h = elim (cases_eq v w) [
  | inl e ↦ ap (marked_in after) e ∙ m.here
  | inr d ↦ m.others v d ∙ h
]

-- what a search sees, the forest hasn't come to
pub seen_apart : (done seen : List ℕ) (v : ℕ) → marked_in done v ≡ true → seen_in done seen v ≡ false
seen_apart done seen v h = ap (λ b. marked_in seen v && not b) h ∙ none (marked_in seen v)
  where
    none : (b : Bool) → (b && not true) ≡ false
    none b = grind arith
