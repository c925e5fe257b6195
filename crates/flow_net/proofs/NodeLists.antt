-- The nodes of a list, as a set.
use Rattle.std.proofs.Common.{◌≡◌, ◌≢◌, ℕ, zero, suc, ◌+◌, ◌<◌, true, eqb, List, [], ◌∷◌}
use Rattle.std.proofs.Common.{length, length-append, get_or, take, refl, ◌∙◌, sym, inl, inr, eq-eqb, arith}
use Rattle.std.proofs.lemmas.Bool.{cases_Bool, ne_eqb, eqb-true, or_cases, or_left, or_right}
use Rattle.std.proofs.lemmas.List.{get_or_append_left, get_or-append-add}
use Rattle.flow_net.specs.Nets.{Net}
use Rattle.flow_net.specs.Limits.{AreTerminals}
use Rattle.flow_net.specs.NodeSets.{one_of}
use Rattle.flow_net.specs.Laws.{AreApart}

-- one element more: it is in the set, and no other node is new there
pub one_of-here : (ws : List ℕ) (k : ℕ) → k < length ws → one_of (take (suc k) ws) (get_or ws k 0) ≡ true
one_of-here [] k l = absurd (omega arith)
one_of-here (w ∷ ws) zero l = or_left (eqb w w) (one_of (take 0 ws) w) (eq-eqb w w refl)
one_of-here (w ∷ ws) (suc k) l =
    or_right (eqb w (get_or ws k 0)) (one_of (take (suc k) ws) (get_or ws k 0)) (one_of-here ws k (omega arith))

pub one_of-other : (ws : List ℕ) (k v : ℕ) → k < length ws → v ≢ get_or ws k 0
    → one_of (take (suc k) ws) v ≡ one_of (take k ws) v
one_of-other [] k v l n = absurd (omega arith)
one_of-other (w ∷ ws) zero v l n = grind (arith, ne_eqb w v)
one_of-other (w ∷ ws) (suc k) v l n = let old = one_of-other ws k v (omega arith) n in cc

-- a list's elements are in its set
pub one_of-at : (ws : List ℕ) (k : ℕ) → k < length ws → one_of ws (get_or ws k 0) ≡ true
one_of-at [] k l = absurd (omega arith)
one_of-at (w ∷ ws) zero l = or_left (eqb w w) (one_of ws w) (eq-eqb w w refl)
one_of-at (w ∷ ws) (suc k) l =
    or_right (eqb w (get_or ws k 0)) (one_of ws (get_or ws k 0)) (one_of-at ws k (omega arith))

-- and the set has no other nodes
pub place_in : (ws : List ℕ) (v : ℕ) → one_of ws v ≡ true → (k : ℕ) × (k < length ws) × (get_or ws k 0 ≡ v)
place_in [] v e = cc
place_in (w ∷ ws) v e = elim (or_cases (eqb w v) (one_of ws v) e) [
  | inl h ↦ (0, omega arith, eqb-true w v h)
  | inr h ↦ let p = place_in ws v h in (suc p.0, omega (arith, p.1), p.2)
]

-- no node is a source and a sink
pub terminals_apart : (net : Net) (s t : List ℕ) → AreTerminals net s t → AreApart (one_of s) (one_of t)
terminals_apart net s t a v i = elim (cases_Bool (one_of t v)) [
  | inl both ↦
      let p = place_in s v i in let q = place_in t v both in
      let left = get_or_append_left s t 0 p.0 p.1 in
      let right = get_or-append-add s t q.0 0 in
      let size = length-append s t in
      absurd
      (a.distinct p.0 (length s + q.0) (omega (arith, p.1)) (omega (arith, q.1)) (left ∙ p.2 ∙ sym q.2 ∙ sym right))
  | inr out ↦ out
]
