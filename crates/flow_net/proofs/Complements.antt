-- A set and the other nodes: what leaves the one enters the other.
use Rattle.std.proofs.Common.{◌≡◌, ℕ, Bool, true, false, cond, not, ◌&&◌, ◌||◌, List, [], ◌∷◌, map, refl, ◌∙◌, sym}
use Rattle.std.proofs.Common.{◌+◌, ◌≤◌, ◌⊎◌, min, inl, inr, arith}
use Rattle.std.proofs.Math.Nat.{min-eq_left, min-eq_right}
use Rattle.std.specs.List.{count_by}
use Rattle.std.proofs.lemmas.Bool.{cases_lt}
use Rattle.std.proofs.lemmas.List.Sums.{sum_by-cons}
use Rattle.flow_net.specs.declared.networks.Arc.{Arc}
use Rattle.flow_net.specs.Nets.{Net}
use Rattle.flow_net.specs.DerivedNets.{reversed}
use Rattle.flow_net.specs.Cuts.{leaves}
use Rattle.flow_net.specs.Arcs.{enters}
use Rattle.flow_net.specs.Connectivity.{leaving, IsProper}

turned : (p q : Bool) → (not p && not (not q)) ≡ (q && not p)
turned true true = refl
turned true false = refl
turned false true = refl
turned false false = refl

-- what leaves the other nodes enters the set, and what enters them leaves it
pub leaves_others : (X : ℕ → Bool) (a : Arc) → leaves (λ v. not (X v)) a ≡ enters X a
leaves_others X a = turned (X a.src) (X a.dst)

pub enters_others : (X : ℕ → Bool) (a : Arc) → enters (λ v. not (X v)) a ≡ leaves X a
enters_others X a = turned (X a.dst) (X a.src)

-- as many arcs pass a test as pass one that agrees with it
pub count_by_agree : (p q : Arc → Bool) (arcs : List Arc) → ((a : Arc) → p a ≡ q a) → count_by p arcs ≡ count_by q arcs
count_by_agree p q [] e = refl
count_by_agree p q (a ∷ arcs) e =
    rw (
      sum_by-cons (λ b. cond (p b) 1 0) a arcs,
      sum_by-cons (λ b. cond (q b) 1 0) a arcs,
      e a,
      count_by_agree p q arcs e,
    ) refl

-- what leaves a set enters it in the arcs turned round, and what enters it leaves it there
count_reversed : (p q : Arc → Bool) (arcs : List Arc) → ((a : Arc) → p (reversed a) ≡ q a)
    → count_by p (map reversed arcs) ≡ count_by q arcs
count_reversed p q [] e = refl
count_reversed p q (a ∷ arcs) e =
    rw (
      sum_by-cons (λ b. cond (p b) 1 0) (reversed a) (map reversed arcs),
      sum_by-cons (λ b. cond (q b) 1 0) a arcs,
      e a,
      count_reversed p q arcs e,
    ) refl

pub leaves_reversed : (X : ℕ → Bool) (arcs : List Arc)
    → count_by (leaves X) (map reversed arcs) ≡ count_by (enters X) arcs
leaves_reversed X arcs = count_reversed (leaves X) (enters X) arcs (λ a. refl)

pub enters_reversed : (X : ℕ → Bool) (arcs : List Arc)
    → count_by (enters X) (map reversed arcs) ≡ count_by (leaves X) arcs
enters_reversed X arcs = count_reversed (enters X) (leaves X) arcs (λ a. refl)

-- the arcs with exactly one end in a set are those that leave it and those that enter it
crosses_either : (p q : Bool) (c l e : ℕ) → c ≡ l + e
    → cond ((p && not q) || (q && not p)) 1 0 + c ≡ (cond (p && not q) 1 0 + l) + (cond (q && not p) 1 0 + e)
crosses_either true true c l e h = omega arith
crosses_either true false c l e h = omega arith
crosses_either false true c l e h = omega arith
crosses_either false false c l e h = omega arith

pub crossing_sum : (X : ℕ → Bool) (arcs : List Arc)
    → count_by (λ a. leaves X a || enters X a) arcs ≡ count_by (leaves X) arcs + count_by (enters X) arcs
crossing_sum X [] = refl
crossing_sum X (a ∷ arcs) =
    omega (
      arith,
      sum_by-cons (λ b. cond (leaves X b || enters X b) 1 0) a arcs,
      sum_by-cons (λ b. cond (leaves X b) 1 0) a arcs,
      sum_by-cons (λ b. cond (enters X b) 1 0) a arcs,
      crosses_either (X a.src) (X a.dst) _ _ _ (crossing_sum X arcs),
    )

-- the lesser of two numbers that proper sets have
pub lesser_proper : (net : Net) (a b k : ℕ) → k ≡ min a b → ((X : ℕ → Bool) × IsProper net X × (leaving net X ≡ a))
    → ((X : ℕ → Bool) × IsProper net X × (leaving net X ≡ b)) → (X : ℕ → Bool) × IsProper net X × (leaving net X ≡ k)
lesser_proper net a b k e p q = elim (cases_le a b) [
  | inl l ↦ (let same : k ≡ a = e ∙ min-eq_left l in (p.0, p.1, p.2 ∙ sym same))
  | inr l ↦ (let same : k ≡ b = e ∙ min-eq_right l in (q.0, q.1, q.2 ∙ sym same))
]
  where
    cases_le : (m n : ℕ) → (m ≤ n) ⊎ (n ≤ m)
    cases_le m n = elim (cases_lt n m) [ inl l ↦ inr (omega arith) | inr l ↦ inl l ]
