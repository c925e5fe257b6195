-- What a search that has worked off its queue, or has come to a node that it looked out for, has found.
use Rattle.std.proofs.Common.{◌≡◌, ℕ, zero, suc, ◌+◌, ◌-◌, ◌≤◌, ◌<◌, Bool, true, false, IsTrue, cond, List, [], ◌∷◌}
use Rattle.std.proofs.Common.{length, get_or, refl, ◌∙◌, sym, ap, subst, inl, inr, arith}
use Rattle.std.specs.Prelude.{Option, Some, None, IfNone}
use Rattle.std.specs.List.{All}
use Rattle.std.proofs.lemmas.Bool.{cases_eq, cases_lt, cases_Bool, lt-ltb, ltb-true}
use Rattle.std.proofs.lemmas.Grind.{get_or_default_zero}
use Rattle.flow_net.specs.Nets.{Net, IsNode}
use Rattle.flow_net.specs.Limits.{IsNet}
use Rattle.flow_net.specs.NodeSets.{one_of}
use Rattle.flow_net.specs.Residual.{tail_of, head_of, residual}
use Rattle.flow_net.proofs.Zips.{head_is_node}
use Rattle.flow_solve.specs.declared.residual.searching.TheConstants.{FAR, WANTED}
use Rattle.flow_solve.specs.declared.residual.half_arcs.Direction.{Direction}
use Rattle.flow_solve.specs.residual.HalfArcs.{near_end, far_end, crossed, IsClosedFor}
use Rattle.flow_solve.specs.residual.Searches.{ContainsAll, IsMarked, seen, spread}
use Rattle.flow_solve.specs.residual.Searches.{IsCount, wanted_at, IsDone, IsSearched, IsWhole}
use Rattle.flow_net.proofs.NodeLists.{place_in}
use Rattle.flow_solve.proofs.ResidualLemmas.Queues.{spread_zero, spread_some, spread_more}
use Rattle.flow_solve.proofs.ResidualLemmas.Crossings.{near_crossed, crossed_crossed, crossed_within, far_crossed}
use Rattle.flow_solve.proofs.ResidualLemmas.Crossings.{tail_group}

get_or_last : (xs : List ℕ) (i d : ℕ) → length xs ≤ i → get_or xs i d ≡ d
get_or_last [] i d l = refl
get_or_last (x ∷ xs) zero d l = absurd (omega arith)
get_or_last (x ∷ xs) (suc i) d l = get_or_last xs i d (omega arith)

-- a node is seen where its place is marked
pub seen_marked : (dist : List ℕ) (v : ℕ) → 1 ≤ v → v ≤ length dist → IsMarked dist (v - 1) → seen dist v ≡ true
seen_marked dist zero o l m = absurd (omega arith)
seen_marked dist (suc p) o l m =
    let back : suc p - 1 ≡ p = omega arith in let at : get_or dist p 0 < WANTED = subst (IsMarked dist) back m in
    let same = get_or_default_zero dist p FAR (omega arith) in lt-ltb (get_or dist p FAR) WANTED (omega arith)

pub marked_seen : (dist : List ℕ) (v : ℕ) → seen dist v ≡ true → (1 ≤ v) × (v ≤ length dist) × IsMarked dist (v - 1)
marked_seen dist zero e = cc
marked_seen dist (suc p) e =
    let l = ltb-true (get_or dist p FAR) WANTED e in
    elim (cases_lt p (length dist)) [
      | inl inside ↦ let back : suc p - 1 ≡ p = omega arith in let same = get_or_default_zero dist p FAR inside in
          (omega arith, omega arith, subst (IsMarked dist) (sym back) (omega arith))
      | inr out ↦ let none = get_or_last dist p FAR out in absurd (omega arith)
    ]

pub unmarked_unseen : (dist : List ℕ) (v : ℕ) → 1 ≤ v → WANTED ≤ get_or dist (v - 1) 0 → seen dist v ≡ false
unmarked_unseen dist v o l = elim (cases_Bool (seen dist v)) [
  | inl inside ↦ let at = marked_seen dist v inside in absurd (omega (arith, at.2))
  | inr out ↦ out
]

-- the starts are seen
pub starts_seen : (net : Net) (flows : List ℕ) (dir : Direction) (starts dist via : List ℕ) → All (IsNode net) starts
    → IsSearched net flows dir starts dist via → ContainsAll starts (seen dist)
starts_seen net flows dir starts dist via nodes s v e =
    let p = place_in starts v e in let node = nodes p.0 0 p.1 in
    subst (λ w. seen dist w ≡ true) p.2
    (seen_marked dist (get_or starts p.0 0) node.0 (omega (arith, s.size, node.1)) (s.begun p.0 p.1))

-- both ends of a self-loop are one
one_end : (dir : Direction) (net : Net) (h : ℕ) → tail_of net (crossed dir h) ≡ head_of net (crossed dir h)
    → near_end dir net h ≡ far_end dir net h
one_end dir net h e =
    ap (near_end dir net) (sym (crossed_crossed dir h)) ∙ near_crossed dir net (crossed dir h) ∙ e
    ∙ sym (far_crossed dir net (crossed dir h)) ∙ ap (far_end dir net) (crossed_crossed dir h)

-- a search
module _ {net : Net} {flows : List ℕ} {dir : Direction} {starts dist via : List ℕ}
    (s : IsSearched net flows dir starts dist via) where
  -- no half-arc with a residual capacity leads on
  pub seen_closed : IsNet net → ((p : ℕ) → p < net.nodes → IsMarked dist p → IsDone net flows dir dist p)
      → IsClosedFor dir net flows (seen dist)
  seen_closed is_net done h l near r =
      let g = crossed dir h in let inside = crossed_within dir h (length net.arcs) l in
      let tail : near_end dir net h ≡ tail_of net g =
      ap (near_end dir net) (sym (crossed_crossed dir h)) ∙ near_crossed dir net g in
      let head : far_end dir net h ≡ head_of net g =
      ap (far_end dir net) (sym (crossed_crossed dir h)) ∙ far_crossed dir net g in
      elim (cases_eq (tail_of net g) (head_of net g)) [
        | inl loop ↦ subst (λ v. seen dist v ≡ true) (one_end dir net h loop) near
        | inr ends ↦
            let at = marked_seen dist (tail_of net g) (subst (λ v. seen dist v ≡ true) tail near) in
            let node = head_is_node net g is_net inside in
            let next = done (tail_of net g - 1) (omega (arith, at.0, at.1, s.size)) at.2 g inside
            (tail_group net g ends)
            (subst (λ k. 1 ≤ residual net flows k) (sym (crossed_crossed dir h)) r) in
            subst (λ v. seen dist v ≡ true) (sym head)
            (seen_marked dist (head_of net g) node.0 (omega (arith, node.1, s.size)) next.0)
      ]

  pub seen_least : (X : ℕ → Bool) → ContainsAll starts X → IsClosedFor dir net flows X → (v : ℕ) → IsTrue (seen dist v)
      → IsTrue (X v)
  seen_least X all closed v e =
      let at = marked_seen dist v e in let node : v - 1 + 1 ≡ v = omega (arith, at.0) in
      subst (λ w. IsTrue (X w)) node (s.least X all closed (v - 1) (omega (arith, at.0, at.1, s.size)) at.2)

  pub whole_seen : IsNet net → All (IsNode net) starts
      → ((p : ℕ) → p < net.nodes → IsMarked dist p → IsDone net flows dir dist p)
      → IsWhole dir net flows starts (seen dist)
  whole_seen is_net nodes done = record {
    contains = starts_seen net flows dir starts dist via nodes s;
    closed = seen_closed is_net done;
    least = seen_least;
  }

-- by what is counted none of the nodes that the search looks out for is seen, or one of them is
wanted_yes : (until : List ℕ) (p : ℕ) → one_of until (p + 1) ≡ true → wanted_at until p ≡ 1
wanted_yes until p e = ap (λ b. cond b 1 0) e

pub none_seen : (until dist : List ℕ) (wanted v : ℕ) → IsCount until dist wanted → wanted ≡ 0 → one_of until v ≡ true
    → seen dist v ≡ false
none_seen until dist wanted v c e i = elim (cases_Bool (seen dist v)) [
  | inl inside ↦
      let at = marked_seen dist v inside in let node : v - 1 + 1 ≡ v = omega (arith, at.0) in
      let one = wanted_yes until (v - 1) (ap (one_of until) node ∙ i) in
      let none = spread_zero (wanted_at until) dist (length dist) (v - 1) (sym c.count ∙ e) (omega (arith, at.0, at.1))
      at.2 in
      absurd (omega arith)
  | inr out ↦ out
]

wanted_some : (b : Bool) → 0 < cond b 1 0 → b ≡ true
wanted_some true l = refl
wanted_some false l = absurd (omega arith)

pub some_seen : (until dist : List ℕ) (wanted : ℕ) → IsCount until dist wanted → 0 < wanted
    → (p : ℕ) × (p < length dist) × IsMarked dist p × IsTrue (one_of until (p + 1))
some_seen until dist wanted c l =
    let r = spread_some (wanted_at until) dist (length dist) (omega (arith, c.count)) in
    (r.0, r.1, r.2, wanted_some (one_of until (r.0 + 1)) r.3)

-- where more of them are counted, one of them is newly seen
pub new_seen : (until dist dist' : List ℕ) (wanted wanted' : ℕ) → IsCount until dist wanted
    → IsCount until dist' wanted' → length dist' ≡ length dist → wanted < wanted'
    → (p : ℕ) × (p < length dist) × IsMarked dist' p × (WANTED ≤ get_or dist p 0) × IsTrue (one_of until (p + 1))
new_seen until dist dist' wanted wanted' c d e l =
    let same : spread (wanted_at until) dist' (length dist') ≡ spread (wanted_at until) dist' (length dist) =
    ap (spread (wanted_at until) dist') e in
    let r = spread_more (wanted_at until) dist dist' (length dist) (omega (arith, c.count, d.count, same)) in
    (r.0, r.1, r.2, r.3, wanted_some (one_of until (r.0 + 1)) r.4)

pub none_wanted : (until dist : List ℕ) (wanted : ℕ) → IsCount until dist wanted
    → ((v : ℕ) → one_of until v ≡ true → seen dist v ≡ false) → wanted ≡ 0
none_wanted until dist wanted c out = elim (cases_lt 0 wanted) [
  | inl some ↦
      let r = some_seen until dist wanted c some in let back : r.0 + 1 - 1 ≡ r.0 = omega arith in let l = r.1 in
      let here = seen_marked dist (r.0 + 1) (omega arith) (omega arith) (subst (IsMarked dist) (sym back) r.2) in
      let there = out (r.0 + 1) r.3 in
      absurd (cc)
  | inr none ↦ omega arith
]

pub if_none : (o : Option ℕ) (P Q : Type 0) → (P → Q) → IfNone o P → IfNone o Q
if_none None P Q f p = f p
if_none (Some v) P Q f p = p
