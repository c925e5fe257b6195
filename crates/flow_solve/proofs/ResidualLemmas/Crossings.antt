-- Half-arcs as a search meets them: packed by the node that they leave, and crossed in the search's direction.
use Rattle.std.proofs.Common.{◌≡◌, ◌≢◌, ℕ, ◌+◌, ◌-◌, ◌*◌, ◌/◌, ◌%◌, ◌≤◌, ◌<◌, Bool, true, false, IsTrue, cond, eqb}
use Rattle.std.proofs.Common.{List, length, get_or, refl, ◌∙◌, sym, ap, subst, inl, inr, eq-eqb, arith}
use Rattle.std.proofs.lemmas.Bool.{cases_eq, ne_eqb}
use Rattle.flow_net.specs.Nets.{Net, arc_at}
use Rattle.flow_net.specs.Limits.{IsNet}
use Rattle.flow_net.specs.Residual.{half_tail, half_head, tail_of, head_of, residual}
use Rattle.flow_net.proofs.Zips.{tail_is_node}
use Rattle.flow_solve.specs.declared.residual.half_arcs.Direction.{Direction}
use Rattle.flow_solve.specs.declared.residual.half_arcs.Direction.TheVariants.{Forwards, Backwards}
use Rattle.flow_solve.specs.residual.Packs.{group_of}
use Rattle.flow_solve.specs.residual.HalfArcs.{twin_of, near_end, far_end, crossed, IsClosedFor}
use Rattle.flow_solve.specs.residual.Searches.{IsMarked, IsCome}

pub twin_even : (h : ℕ) → h % 2 ≡ 0 → twin_of h ≡ h + 1
twin_even h e = ap (λ b. cond b (h + 1) (h - 1)) (eq-eqb (h % 2) 0 e)

pub twin_odd : (h : ℕ) → h % 2 ≢ 0 → twin_of h ≡ h - 1
twin_odd h n = ap (λ b. cond b (h + 1) (h - 1)) (ne_eqb (h % 2) 0 n)

twin_arc : (h : ℕ) → twin_of h / 2 ≡ h / 2
twin_arc h = elim (cases_eq (h % 2) 0) [
  | inl e ↦ omega (arith, twin_even h e)
  | inr n ↦ omega (arith, twin_odd h n)
]

pub twin_twin : (h : ℕ) → twin_of (twin_of h) ≡ h
twin_twin h = elim (cases_eq (h % 2) 0) [
  | inl e ↦ let a = twin_even h e in omega (arith, a, twin_odd (twin_of h) (omega arith))
  | inr n ↦ let a = twin_odd h n in omega (arith, a, twin_even (twin_of h) (omega arith))
]

-- it runs the other way
turned : (T : Type 0) (a b : T) (h : ℕ) → cond (eqb (twin_of h % 2) 0) a b ≡ cond (eqb (h % 2) 0) b a
turned T a b h = elim (cases_eq (h % 2) 0) [
  | inl e ↦
      let t = twin_even h e in
      ap (λ c. cond c a b) (ne_eqb (twin_of h % 2) 0 (omega arith)) ∙ sym (ap (λ c. cond c b a) (eq-eqb (h % 2) 0 e))
  | inr n ↦
      let t = twin_odd h n in
      ap (λ c. cond c a b) (eq-eqb (twin_of h % 2) 0 (omega arith)) ∙ sym (ap (λ c. cond c b a) (ne_eqb (h % 2) 0 n))
]

pub tail_twin : (net : Net) (h : ℕ) → tail_of net (twin_of h) ≡ head_of net h
tail_twin net h =
    ap (λ i. half_tail (arc_at net i) (twin_of h)) (twin_arc h)
    ∙ turned ℕ (arc_at net (h / 2)).src (arc_at net (h / 2)).dst h

pub head_twin : (net : Net) (h : ℕ) → head_of net (twin_of h) ≡ tail_of net h
head_twin net h =
    ap (λ i. half_head (arc_at net i) (twin_of h)) (twin_arc h)
    ∙ turned ℕ (arc_at net (h / 2)).dst (arc_at net (h / 2)).src h

-- the ends of the half-arc that is crossed
pub near_crossed : (dir : Direction) (net : Net) (h : ℕ) → near_end dir net (crossed dir h) ≡ tail_of net h
near_crossed Forwards net h = refl
near_crossed Backwards net h = head_twin net h

pub far_crossed : (dir : Direction) (net : Net) (h : ℕ) → far_end dir net (crossed dir h) ≡ head_of net h
far_crossed Forwards net h = refl
far_crossed Backwards net h = tail_twin net h

pub crossed_crossed : (dir : Direction) (h : ℕ) → crossed dir (crossed dir h) ≡ h
crossed_crossed Forwards h = refl
crossed_crossed Backwards h = twin_twin h

pub crossed_within : (dir : Direction) (h m : ℕ) → h < 2 * m → crossed dir h < 2 * m
crossed_within Forwards h m l = l
crossed_within Backwards h m l = omega (arith, twin_arc h)

-- a half-arc in a node's group leaves that node, and one that leaves it and is no self-loop is in its group
grouped : (b : Bool) (nodes tail p : ℕ) → cond b nodes (tail - 1) ≡ p → p < nodes → 1 ≤ tail → tail ≡ p + 1
grouped b nodes tail p e l t = grind arith

pub group_tail : (net : Net) (h p : ℕ) → IsNet net → h < 2 * length net.arcs → group_of net h ≡ p → p < net.nodes
    → tail_of net h ≡ p + 1
group_tail net h p n l e m =
    grouped (eqb (arc_at net (h / 2)).src (arc_at net (h / 2)).dst) net.nodes (tail_of net h) p e m
    (tail_is_node net h n l).0

loop_ends : (b : Bool) (u v : ℕ) → u ≡ v → cond b u v ≡ cond b v u
loop_ends true u v e = e
loop_ends false u v e = sym e

pub tail_group : (net : Net) (h : ℕ) → tail_of net h ≢ head_of net h → group_of net h ≡ tail_of net h - 1
tail_group net h n =
    ap (λ b. cond b net.nodes (tail_of net h - 1))
    (ne_eqb (arc_at net (h / 2)).src (arc_at net (h / 2)).dst
    (λ e. n (loop_ends (eqb (h % 2) 0) (arc_at net (h / 2)).src (arc_at net (h / 2)).dst e)))

-- a half-arc among those of a place
module _ {net : Net} (flows : List ℕ) (dir : Direction) (h : ℕ) {place : ℕ} (n : IsNet net)
    (l : h < 2 * length net.arcs) (inside : place < net.nodes) (e : group_of net h ≡ place) where
  -- a search came over a half-arc that leaves a marked place
  pub come_new : {dist via : List ℕ} {p : ℕ} → head_of net h ≡ p + 1 → 1 ≤ residual net flows (crossed dir h)
      → IsMarked dist place → get_or dist p 0 ≡ get_or dist place 0 + 1 → get_or via p 0 ≡ crossed dir h
      → IsCome net flows dir dist via p
  come_new {dist} {via} {p} leads r m level by =
      let near : near_end dir net (crossed dir h) ≡ place + 1 =
      near_crossed dir net h ∙ group_tail net h place n l e inside in
      let back : place + 1 - 1 ≡ place = omega arith in
      let at : near_end dir net (get_or via p 0) ≡ place + 1 = ap (near_end dir net) by ∙ near in
      let at_place : near_end dir net (get_or via p 0) - 1 ≡ place = ap (λ v. v - 1) at ∙ back in
      record {
        in_range = subst (λ g. g < 2 * length net.arcs) (sym by) (crossed_within dir h (length net.arcs) l);
        far = ap (far_end dir net) by ∙ far_crossed dir net h ∙ leads;
        remains = subst (λ g. 1 ≤ residual net flows g) (sym by) r;
        near = omega arith;
        within = omega arith;
        marked = subst (IsMarked dist) (sym at_place) m;
        level = ap (λ v. get_or dist v 0 + 1) at_place ∙ sym level;
      }

  -- a closed set takes in where it leads
  pub closed_step : (side : ℕ → Bool) → IsClosedFor dir net flows side → IsTrue (side (place + 1))
      → 1 ≤ residual net flows (crossed dir h) → IsTrue (side (head_of net h))
  closed_step side closed t r =
      let near : near_end dir net (crossed dir h) ≡ place + 1 =
      near_crossed dir net h ∙ group_tail net h place n l e inside in
      subst (λ v. IsTrue (side v)) (far_crossed dir net h)
      (closed (crossed dir h) (crossed_within dir h (length net.arcs) l) (subst (λ v. IsTrue (side v)) (sym near) t) r)
