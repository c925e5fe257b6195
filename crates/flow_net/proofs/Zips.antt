-- Arcs by their places, and what holds of each arc beside its flow.
use Rattle.std.proofs.Common.{◌≡◌, ℕ, zero, suc, ◌+◌, ◌*◌, ◌-◌, ◌/◌, ◌%◌, ◌≤◌, ◌<◌, Bool, true, false, cond, eqb, List}
use Rattle.std.proofs.Common.{[], ◌∷◌, length, get_or, refl, ◌∙◌, sym, ap, arith}
use Rattle.std.specs.List.{AllZip}
use Rattle.std.proofs.lemmas.List.Elements.{All-get_or}
use Rattle.flow_net.specs.declared.networks.Arc.{Arc}
use Rattle.flow_net.specs.Nets.{Net, IsNode, arc_at}
use Rattle.flow_net.specs.Arcs.{no_arc}
use Rattle.flow_net.specs.Limits.{IsNet, IsArcWithin}
use Rattle.flow_net.specs.Flows.{Fits}
use Rattle.flow_net.specs.Residual.{tail_of, head_of, residual, IsClosed}

pub length-AllZip : (R : Arc → ℕ → Type 0) (arcs : List Arc) (xs : List ℕ) → AllZip R arcs xs → length xs ≡ length arcs
length-AllZip R [] [] h = refl
length-AllZip R [] (x ∷ xs) h = absurd h
length-AllZip R (a ∷ arcs) [] h = absurd h
length-AllZip R (a ∷ arcs) (x ∷ xs) h = omega (arith, length-AllZip R arcs xs h.1)

-- from each place
pub AllZip-from : (R : Arc → ℕ → Type 0) (arcs : List Arc) (xs : List ℕ) → length xs ≡ length arcs
    → ((i : ℕ) → i < length arcs → R (get_or arcs i no_arc) (get_or xs i 0)) → AllZip R arcs xs
AllZip-from R [] [] l h = tt
AllZip-from R [] (x ∷ xs) l h = absurd (omega arith)
AllZip-from R (a ∷ arcs) [] l h = absurd (omega arith)
AllZip-from R (a ∷ arcs) (x ∷ xs) l h =
    (h 0 (omega arith), AllZip-from R arcs xs (omega arith) (λ i k. h (suc i) (omega arith)))

-- at a place
pub AllZip-at : (R : Arc → ℕ → Type 0) (arcs : List Arc) (xs : List ℕ) (i : ℕ) → i < length arcs → AllZip R arcs xs
    → R (get_or arcs i no_arc) (get_or xs i 0)
AllZip-at R [] xs i l h = absurd (omega arith)
AllZip-at R (b ∷ arcs) [] i l h = absurd h
AllZip-at R (b ∷ arcs) (x ∷ xs) zero l h = h.0
AllZip-at R (b ∷ arcs) (x ∷ xs) (suc i) l h = AllZip-at R arcs xs i (omega arith) h.1

-- the flow on each arc is at most its capacity
pub zip_from_fits : (net : Net) (xs : List ℕ) → Fits net xs → AllZip (λ a x. x ≤ a.cap) net.arcs xs
zip_from_fits net xs f = AllZip-from (λ a x. x ≤ a.cap) net.arcs xs f.count f.within

pub fits_from_zip : (net : Net) (xs : List ℕ) → AllZip (λ a x. x ≤ a.cap) net.arcs xs → Fits net xs
fits_from_zip net xs z = record {
  count = length-AllZip (λ a x. x ≤ a.cap) net.arcs xs z;
  within = λ i l. AllZip-at (λ a x. x ≤ a.cap) net.arcs xs i l z;
}

-- the ends of an arc and of a half-arc are nodes
pub arc_within : (net : Net) (i : ℕ) → IsNet net → i < length net.arcs → IsArcWithin net.nodes (arc_at net i)
arc_within net i n l = All-get_or (IsArcWithin net.nodes) net.arcs i no_arc l n.arcs_within

end_is_node : (n : ℕ) (b : Bool) (p q : ℕ) → 1 ≤ p → p ≤ n → 1 ≤ q → q ≤ n → (1 ≤ cond b p q) × (cond b p q ≤ n)
end_is_node n true p q a c d e = (a, c)
end_is_node n false p q a c d e = (d, e)

pub head_is_node : (net : Net) (h : ℕ) → IsNet net → h < 2 * length net.arcs → IsNode net (head_of net h)
head_is_node net h n l =
    let w = arc_within net (h / 2) n (omega arith) in
    end_is_node net.nodes (eqb (h % 2) 0) _ _ w.dst_least w.dst_most w.src_least w.src_most

pub tail_is_node : (net : Net) (h : ℕ) → IsNet net → h < 2 * length net.arcs → IsNode net (tail_of net h)
tail_is_node net h n l =
    let w = arc_within net (h / 2) n (omega arith) in
    end_is_node net.nodes (eqb (h % 2) 0) _ _ w.src_least w.src_most w.dst_least w.dst_most

-- no arc out of the set has room, and no arc into it has flow
abbrev pub IsClosedByArcs : List Arc → List ℕ → (ℕ → Bool) → Type 0
IsClosedByArcs arcs xs X =
    AllZip (λ a x. (X a.src ≡ true → x < a.cap → X a.dst ≡ true) × (X a.dst ≡ true → 0 < x → X a.src ≡ true)) arcs xs

-- a half-arc with the number 2·i or 2·i + 1
pub along : (net : Net) (xs : List ℕ) (i : ℕ)
    → (tail_of net (2 * i) ≡ (arc_at net i).src) × (head_of net (2 * i) ≡ (arc_at net i).dst)
    × (residual net xs (2 * i) ≡ (arc_at net i).cap - get_or xs i 0)
along net xs i = parts (2 * i) (omega arith) (omega arith)
  where
    parts : (h : ℕ) → h / 2 ≡ i → h % 2 ≡ 0
        → (tail_of net h ≡ (arc_at net i).src) × (head_of net h ≡ (arc_at net i).dst)
        × (residual net xs h ≡ (arc_at net i).cap - get_or xs i 0)
    parts h e z = rw (e, z) (refl, refl, refl)

pub against : (net : Net) (xs : List ℕ) (i : ℕ)
    → (tail_of net (2 * i + 1) ≡ (arc_at net i).dst) × (head_of net (2 * i + 1) ≡ (arc_at net i).src)
    × (residual net xs (2 * i + 1) ≡ get_or xs i 0)
against net xs i = parts (2 * i + 1) (omega arith) (omega arith)
  where
    parts : (h : ℕ) → h / 2 ≡ i → h % 2 ≡ 1
        → (tail_of net h ≡ (arc_at net i).dst) × (head_of net h ≡ (arc_at net i).src)
        × (residual net xs h ≡ get_or xs i 0)
    parts h e z = rw (e, z) (refl, refl, refl)

-- closed by half-arcs is closed by arcs
pub closed_by_arcs : (net : Net) (xs : List ℕ) (X : ℕ → Bool) → length xs ≡ length net.arcs → IsClosed net xs X
    → IsClosedByArcs net.arcs xs X
closed_by_arcs net xs X l c =
    AllZip-from (λ a x. (X a.src ≡ true → x < a.cap → X a.dst ≡ true) × (X a.dst ≡ true → 0 < x → X a.src ≡ true))
    net.arcs xs l here
  where
    here : (i : ℕ) → i < length net.arcs
        → (X (arc_at net i).src ≡ true → get_or xs i 0 < (arc_at net i).cap → X (arc_at net i).dst ≡ true)
        × (X (arc_at net i).dst ≡ true → 0 < get_or xs i 0 → X (arc_at net i).src ≡ true)
    here i k =
        let p = along net xs i in
        let q = against net xs i in (
          (λ u r. sym (ap X p.1) ∙ c (2 * i) (omega arith) (ap X p.0 ∙ u) (omega (arith, p.2))),
          (λ u r. sym (ap X q.1) ∙ c (2 * i + 1) (omega arith) (ap X q.0 ∙ u) (omega (arith, q.2))),
        )

closed_half : (b : Bool) (X : ℕ → Bool) (a : Arc) (x : ℕ)
    → (X a.src ≡ true → x < a.cap → X a.dst ≡ true) × (X a.dst ≡ true → 0 < x → X a.src ≡ true)
    → X (cond b a.src a.dst) ≡ true → 1 ≤ cond b (a.cap - x) x → X (cond b a.dst a.src) ≡ true
closed_half true X a x c i r = c.0 i (omega arith)
closed_half false X a x c i r = c.1 i r

pub closed_by_halves : (net : Net) (xs : List ℕ) (X : ℕ → Bool) → IsClosedByArcs net.arcs xs X → IsClosed net xs X
closed_by_halves net xs X c h l i r =
    closed_half (eqb (h % 2) 0) X (arc_at net (h / 2)) (get_or xs (h / 2) 0)
    (AllZip-at (λ a x. (X a.src ≡ true → x < a.cap → X a.dst ≡ true) × (X a.dst ≡ true → 0 < x → X a.src ≡ true))
    net.arcs xs (h / 2) (omega arith) c) i r
