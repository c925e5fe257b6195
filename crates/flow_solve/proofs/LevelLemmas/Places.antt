-- The places of packed half-arcs.
use Rattle.std.proofs.Common.{◌≡◌, ◌≢◌, ℕ, zero, suc, ◌+◌, ◌-◌, ◌*◌, ◌≤◌, ◌<◌, cond, eq-eqb, List, [], ◌∷◌, length}
use Rattle.std.proofs.Common.{get_or, set, refl, ◌∙◌, sym, ap, subst, inl, inr, add-one, arith, get_or-set_same}
use Rattle.std.proofs.Common.{get_or-set_other}
use Rattle.std.proofs.lemmas.Bool.{cases_eq, ne_eqb}
use Rattle.flow_net.specs.Nets.{Net, IsNode}
use Rattle.flow_net.specs.Limits.{IsNet}
use Rattle.flow_net.specs.Residual.{tail_of, head_of}
use Rattle.flow_net.proofs.Zips.{tail_is_node}
use Rattle.flow_solve.specs.residual.Packs.{IsPacked}
use Rattle.flow_solve.specs.levels.Phases.{cell_of, first_at}
use Rattle.flow_solve.proofs.ResidualLemmas.Crossings.{group_tail, tail_group}

pub cell_at : (cells : List ℕ) (x : ℕ) → 1 ≤ x → get_or cells (x - 1) 0 ≡ cell_of cells x
cell_at cells zero o = absurd (omega arith)
cell_at cells (suc i) o = let at : suc i - 1 ≡ i = omega arith in ap (λ j. get_or cells j 0) at

-- a write to a node's cell
pub cell_set : (cells : List ℕ) (x p : ℕ) → 1 ≤ x → x ≤ length cells → cell_of (set cells (x - 1) p) x ≡ p
cell_set cells zero p o l = absurd (omega arith)
cell_set cells (suc i) p o l = let at : suc i - 1 ≡ i = omega arith in rw at (get_or-set_same cells i p 0 (omega arith))

pub cell_other : (cells : List ℕ) (x p v : ℕ) → 1 ≤ x → v ≢ x → cell_of (set cells (x - 1) p) v ≡ cell_of cells v
cell_other cells zero p v o n = absurd (omega arith)
cell_other cells (suc i) p zero o n = refl
cell_other cells (suc i) p (suc j) o n =
    let at : suc i - 1 ≡ i = omega arith in
    rw at (get_or-set_other cells i j p 0 (λ q. n (ap suc q)))

-- where a half-arc first stands
pub record IsFirst (halves : List ℕ) (p h : ℕ) : Type 0 where
  pub most : first_at halves h ≤ p
  pub there : get_or halves (first_at halves h) 0 ≡ h

first_here : (halves : List ℕ) (g h : ℕ) → g ≡ h → first_at (g ∷ halves) h ≡ 0
first_here halves g h e = ap (λ b. cond b 0 (first_at halves h + 1)) (eq-eqb g h e)

first_on : (halves : List ℕ) (g h : ℕ) → g ≢ h → first_at (g ∷ halves) h ≡ suc (first_at halves h)
first_on halves g h n = ap (λ b. cond b 0 (first_at halves h + 1)) (ne_eqb g h n) ∙ add-one (first_at halves h)

place_first : (halves : List ℕ) (p h : ℕ) → p < length halves → get_or halves p 0 ≡ h → IsFirst halves p h
place_first [] p h l e = absurd (omega arith)
place_first (g ∷ halves) zero h l e =
    let here = first_here halves g h e in
    record { most = omega arith; there = ap (λ i. get_or (g ∷ halves) i 0) here ∙ e }
place_first (g ∷ halves) (suc p) h l e = elim (cases_eq g h) [
  | inl same ↦
      let here = first_here halves g h same in
      record { most = omega arith; there = ap (λ i. get_or (g ∷ halves) i 0) here ∙ same }
  | inr n ↦
      let on = first_on halves g h n in
      let rest = place_first halves p h (omega arith) e in
      record { most = omega (arith, on, rest.most); there = ap (λ i. get_or (g ∷ halves) i 0) on ∙ rest.there }
]

-- the first places of the nodes rise
pub firsts_rise : (net : Net) (first halves : List ℕ) (v w : ℕ) → IsPacked net first halves → v ≤ w → w ≤ net.nodes
    → get_or first v 0 ≤ get_or first w 0
firsts_rise net first halves v zero p l m = let e : v ≡ 0 = omega arith in rw e (omega arith)
firsts_rise net first halves v (suc w) p l m = elim (cases_eq v (suc w)) [
  | inl e ↦ rw e (omega arith)
  | inr n ↦
      let old = firsts_rise net first halves v w p (omega arith) (omega arith) in
      let here = p.rises w (omega arith) in
      let same : get_or first (w + 1) 0 ≡ get_or first (suc w) 0 = ap (λ i. get_or first i 0) (add-one w) in
      omega arith
]

-- a half-arc in a node's range is at its place there
pub place_at : (net : Net) (first halves : List ℕ) (v p : ℕ) → IsPacked net first halves → v < net.nodes
    → get_or first v 0 ≤ p → p < get_or first (v + 1) 0 → first_at halves (get_or halves p 0) ≡ p
place_at net first halves v p k l a b =
    let most = k.most (v + 1) (omega arith) in
    let last = firsts_rise net first halves (v + 1) net.nodes k (omega arith) (omega arith) in
    let f = place_first halves p (get_or halves p 0) (omega (arith, k.halves_size)) refl in
    k.once (first_at halves (get_or halves p 0)) p (omega (arith, f.most)) (omega arith) f.there

-- what stands at a place among a node's
pub record IsMine (net : Net) (halves : List ℕ) (v p h : ℕ) : Type 0 where
  pub half : h < 2 * length net.arcs
  pub tail : tail_of net h ≡ v
  pub place : first_at halves h ≡ p

-- where a half-arc to another node stands
pub record IsStanding (net : Net) (first halves : List ℕ) (h : ℕ) : Type 0 where
  pub least : get_or first (tail_of net h - 1) 0 ≤ first_at halves h
  pub most : first_at halves h < get_or first (tail_of net h) 0
  pub there : get_or halves (first_at halves h) 0 ≡ h

-- packed half-arcs
module _ {net : Net} {first halves : List ℕ} (n : IsNet net) (k : IsPacked net first halves) where
  pub mine : (v p : ℕ) → IsNode net v → get_or first (v - 1) 0 ≤ p → p < get_or first v 0
      → IsMine net halves v p (get_or halves p 0)
  mine v p i a b =
      let up : v - 1 + 1 ≡ v = omega (arith, i) in
      let b' : p < get_or first (v - 1 + 1) 0 = subst (λ w. p < get_or first w 0) (sym up) b in
      let h = k.holds (v - 1) p (omega (arith, i)) a b' in
      record {
        half = h.0;
        tail = group_tail net (get_or halves p 0) (v - 1) n h.0 h.1 (omega (arith, i)) ∙ up;
        place = place_at net first halves (v - 1) p k (omega (arith, i)) a b';
      }

  pub standing : (h : ℕ) → h < 2 * length net.arcs → tail_of net h ≢ head_of net h → IsStanding net first halves h
  standing h l o =
      let t = tail_is_node net h n l in
      let up : tail_of net h - 1 + 1 ≡ tail_of net h = omega (arith, t.0) in
      let s = k.stands (tail_of net h - 1) h (omega (arith, t)) l (tail_group net h o) in
      let at : first_at halves h ≡ s.0 =
      ap (first_at halves) (sym s.3)
      ∙ place_at net first halves (tail_of net h - 1) s.0 k (omega (arith, t)) s.1 s.2 in
      let below : s.0 < get_or first (tail_of net h) 0 = subst (λ w. s.0 < get_or first w 0) up s.2 in
      record {
        least = omega (arith, at, s.1);
        most = omega (arith, at, below);
        there = ap (λ i. get_or halves i 0) at ∙ s.3;
      }

  -- so no other half-arc that falls has its place
  pub one_place : (g h : ℕ) → g < 2 * length net.arcs → tail_of net g ≢ head_of net g
      → get_or halves (first_at halves h) 0 ≡ h → first_at halves g ≡ first_at halves h → h ≡ g
  one_place g h l o at e = sym at ∙ ap (λ i. get_or halves i 0) (sym e) ∙ (standing g l o).there

pub falls_apart : (net : Net) (rank : ℕ → ℕ) (h : ℕ) → rank (head_of net h) < rank (tail_of net h)
    → tail_of net h ≢ head_of net h
falls_apart net rank h f e = let same : rank (tail_of net h) ≡ rank (head_of net h) = ap rank e in omega arith
