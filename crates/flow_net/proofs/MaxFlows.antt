-- The theorem of Ford and Fulkerson: one number is the greatest value of a feasible flow and the least capacity of a
-- cut.
-- A search marks nodes to which one unit can be brought. It ends at a sink, and then a flow of greater value exists, or
-- with a closed cut.
use Rattle.std.proofs.Common.{◌≡◌, ◌≢◌, ℕ, zero, suc, ◌+◌, ◌*◌, ◌/◌, ◌%◌, ◌≤◌, ◌<◌, ◌⊎◌, Bool, true, false, ◌&&◌, ◌||◌}
use Rattle.std.proofs.Common.{cond, eqb, List, length, refl, ◌∙◌, sym, ap, subst, inl, inr, eq-eqb, get_or-set_other}
use Rattle.std.proofs.Common.{arith}
use Rattle.std.specs.Prelude.{slice_index}
use Rattle.std.proofs.lemmas.Bool.{cases_eq, cases_Bool, ne_eqb, eqb-true}
use Rattle.flow_net.specs.Nets.{Net, arc_at}
use Rattle.flow_net.specs.Limits.{IsNet}
use Rattle.flow_net.specs.Flows.{IsFeasible, IsGreatest, out_of, into}
use Rattle.flow_net.specs.Cuts.{IsCut, capacity}
use Rattle.flow_net.specs.LeastCuts.{IsLeastCapacity}
use Rattle.flow_net.specs.Residual.{tail_of, head_of, residual, pushed, half_pushed, IsClosed}
use Rattle.flow_net.specs.Paths.{IsMoreBy}
use Rattle.flow_net.specs.Laws.{AreApart}
use Rattle.flow_net.proofs.Zips.{head_is_node}
use Rattle.flow_net.proofs.Cuts.{weak_duality, closed_greatest, closed_minimum}
use Rattle.flow_net.proofs.Pushes.{IsMoved, moved_nothing, moved_on, moved_feasible, moved_value}
use Rattle.flow_net.proofs.ZeroFlows.{zeros_feasible, zeros_value}

-- one unit can be brought from a source to the node, by pushes on arcs inside the set alone
pub record IsBrought (net : Net) (s t : ℕ → Bool) (xs : List ℕ) (M : ℕ → Bool) (v : ℕ) : Type 0 where
  pub flow : List ℕ
  pub source : ℕ
  pub is_source : s source ≡ true
  pub moved : IsMoved net s t xs 1 source v flow
  pub same : (i : ℕ) → (M (arc_at net i).src && M (arc_at net i).dst) ≡ false → slice_index flow i ≡ slice_index xs i

and_kept : (p q p' q' : Bool) → (p ≡ true → p' ≡ true) → (q ≡ true → q' ≡ true) → (p' && q') ≡ false → (p && q) ≡ false
and_kept p q p' q' h k e = grind arith

end_out : (b : Bool) (M : ℕ → Bool) (p q : ℕ) → M (cond b q p) ≡ false → (M p && M q) ≡ false
end_out true M p q h = grind arith
end_out false M p q h = grind arith

ends_in : (b : Bool) (M : ℕ → Bool) (p q : ℕ) → M (cond b p q) ≡ true → M (cond b q p) ≡ true → (M p && M q) ≡ false → ⊥
ends_in true M p q h k e = grind arith
ends_in false M p q h k e = grind arith

-- the marks so far: the sources, and nodes that can be brought a unit and are no sinks
pub record IsMarking (net : Net) (s t : ℕ → Bool) (xs : List ℕ) (M : ℕ → Bool) : Type 0 where
  pub sources : (v : ℕ) → s v ≡ true → M v ≡ true
  pub brought : (v : ℕ) → M v ≡ true → IsBrought net s t xs M v
  pub sinks : (v : ℕ) → t v ≡ true → M v ≡ false

-- a half-arc with room leads out of the set
abbrev LeadsOut : Net → List ℕ → (ℕ → Bool) → ℕ → Type 0
LeadsOut net xs M h = (M (tail_of net h) ≡ true) × (1 ≤ residual net xs h) × (M (head_of net h) ≡ false)

leads_out : (net : Net) (xs : List ℕ) (M : ℕ → Bool) (h : ℕ) → LeadsOut net xs M h ⊎ (LeadsOut net xs M h → ⊥)
leads_out net xs M h = elim (cases_Bool (M (tail_of net h))) [
  | inr o ↦ inr (λ l. cc (l.0, o))
  | inl i ↦ elim (cases_eq (residual net xs h) 0) [
    | inl z ↦ inr (λ l. absurd (omega (arith, l.1, z)))
    | inr p ↦ elim (cases_Bool (M (head_of net h))) [
      | inl j ↦ inr (λ l. cc (l.2, j))
      | inr o ↦ inl (i, omega (arith, p), o)
    ]
  ]
]

-- one below a number, or none
find_out : (net : Net) (xs : List ℕ) (M : ℕ → Bool) (n : ℕ)
    → ((h : ℕ) × (h < n) × LeadsOut net xs M h) ⊎ ((h : ℕ) → h < n → LeadsOut net xs M h → ⊥)
find_out net xs M zero = inr (λ h l. absurd (omega arith))
find_out net xs M (suc n) = elim (leads_out net xs M n) [
  | inl o ↦ inl (n, omega arith, o)
  | inr none ↦ elim (find_out net xs M n) [
    | inl f ↦ inl (f.0, omega (arith, f.1), f.2)
    | inr below ↦ inr (λ h l o. elim (cases_eq h n) [
      | inl e ↦ none (subst (λ k. LeadsOut net xs M k) e o)
      | inr d ↦ below h (omega arith) o
    ])
  ]
]

-- the set with one node more
with_node : (ℕ → Bool) → ℕ → ℕ → Bool
with_node M w v = M v || eqb v w

with_node_more : (M : ℕ → Bool) (w v : ℕ) → M v ≡ true → with_node M w v ≡ true
unfolding with_node
with_node_more M w v h = rw h refl

with_node_self : (M : ℕ → Bool) (w : ℕ) → with_node M w w ≡ true
unfolding with_node
with_node_self M w = let e = eq-eqb w w refl in or_right (M w) (eqb w w) e
  where
    or_right : (p q : Bool) → q ≡ true → (p || q) ≡ true
    or_right p q h = grind arith

with_node_cases : (M : ℕ → Bool) (w v : ℕ) → with_node M w v ≡ true → (M v ≡ true) ⊎ (v ≡ w)
unfolding with_node
with_node_cases M w v h = elim (cases_Bool (M v)) [
  | inl i ↦ inl i
  | inr o ↦ inr (eqb-true v w (or_second (M v) (eqb v w) o h))
]
  where
    or_second : (p q : Bool) → p ≡ false → (p || q) ≡ true → q ≡ true
    or_second p q h k = grind arith

with_node_not : (M : ℕ → Bool) (w v : ℕ) → M v ≡ false → v ≢ w → with_node M w v ≡ false
unfolding with_node
with_node_not M w v h n = rw (h, ne_eqb v w n) refl

-- how many nodes have no mark: one fewer after a mark
unmarked : ℕ → (ℕ → Bool) → ℕ
unmarked zero M = 0
unmarked (suc n) M = unmarked n M + cond (M (suc n)) 0 1

unmarked_same : (n : ℕ) (M : ℕ → Bool) (w : ℕ) → n < w → unmarked n (with_node M w) ≡ unmarked n M
unfolding unmarked with_node
unmarked_same zero M w l = refl
unmarked_same (suc n) M w l =
    same_step (M (suc n)) (eqb (suc n) w) (unmarked n (with_node M w)) (unmarked n M) (ne_eqb (suc n) w (omega arith))
    (unmarked_same n M w (omega arith))
  where
    same_step : (b e : Bool) (k m : ℕ) → e ≡ false → k ≡ m → k + cond (b || e) 0 1 ≡ m + cond b 0 1
    same_step b e k m h q = grind arith

unmarked_fewer : (n : ℕ) (M : ℕ → Bool) (w : ℕ) → 1 ≤ w → w ≤ n → M w ≡ false
    → unmarked n (with_node M w) + 1 ≡ unmarked n M
unfolding unmarked with_node
unmarked_fewer zero M w a b o = absurd (omega arith)
unmarked_fewer (suc n) M w a b o = elim (cases_eq w (suc n)) [
  | inl e ↦
      let off : M (suc n) ≡ false = subst (λ v. M v ≡ false) e o in
      let on : eqb (suc n) w ≡ true = eq-eqb (suc n) w (sym e) in
      last_step (M (suc n)) (eqb (suc n) w) (unmarked n (with_node M w)) (unmarked n M) off on
      (unmarked_same n M w (omega arith))
  | inr d ↦
      rest_step (M (suc n)) (eqb (suc n) w) (unmarked n (with_node M w)) (unmarked n M)
      (ne_eqb (suc n) w (λ f. d (sym f))) (unmarked_fewer n M w a (omega arith) o)
]
  where
    last_step : (b e : Bool) (k m : ℕ) → b ≡ false → e ≡ true → k ≡ m → (k + cond (b || e) 0 1) + 1 ≡ m + cond b 0 1
    last_step b e k m f h q = grind arith

    rest_step : (b e : Bool) (k m : ℕ) → e ≡ false → k + 1 ≡ m → (k + cond (b || e) 0 1) + 1 ≡ m + cond b 0 1
    rest_step b e k m h q = grind arith

-- a flow whose value is greater by one, or a closed cut
abbrev Ends : Net → (ℕ → Bool) → (ℕ → Bool) → List ℕ → Type 0
Ends net s t xs =
    ((ys : List ℕ) × IsFeasible net s t ys × IsMoreBy net s xs 1 ys)
    ⊎ ((X : ℕ → Bool) × IsCut s t X × IsClosed net xs X)

closed_of : (net : Net) (xs : List ℕ) (M : ℕ → Bool) → ((h : ℕ) → h < 2 * length net.arcs → LeadsOut net xs M h → ⊥)
    → IsClosed net xs M
closed_of net xs M none h l i r = elim (cases_Bool (M (head_of net h))) [
  | inl j ↦ j
  | inr o ↦ absurd (none h l (i, r, o))
]

module _ (net : Net) (s t : ℕ → Bool) (xs : List ℕ) where
  brought_more : (M M' : ℕ → Bool) (v : ℕ) → ((u : ℕ) → M u ≡ true → M' u ≡ true) → IsBrought net s t xs M v
      → IsBrought net s t xs M' v
  brought_more M M' v more b = record {
    flow = b.flow;
    source = b.source;
    is_source = b.is_source;
    moved = b.moved;
    same = λ i o.
        b.same i (and_kept (M (arc_at net i).src) (M (arc_at net i).dst) (M' (arc_at net i).src) (M' (arc_at net i).dst)
        (more (arc_at net i).src) (more (arc_at net i).dst) o);
  }

  -- through a half-arc with room, from a marked node to one that was not
  brought_on : (M M' : ℕ → Bool) (h : ℕ) → ((u : ℕ) → M u ≡ true → M' u ≡ true) → M' (tail_of net h) ≡ true
      → M' (head_of net h) ≡ true → M (head_of net h) ≡ false → h < 2 * length net.arcs → 1 ≤ residual net xs h
      → IsBrought net s t xs M (tail_of net h) → IsBrought net s t xs M' (head_of net h)
  brought_on M M' h more begins ends new l r b =
      let kept : slice_index b.flow (h / 2) ≡ slice_index xs (h / 2) =
      b.same (h / 2) (end_out (eqb (h % 2) 0) M (arc_at net (h / 2)).src (arc_at net (h / 2)).dst new) in
      record {
        flow = pushed b.flow h 1;
        source = b.source;
        is_source = b.is_source;
        moved = moved_on net s t xs 1 b.source h b.flow l (rw kept r) b.moved;
        same = λ i o. elim (cases_eq i (h / 2)) [
          | inl at ↦
              absurd
              (ends_in (eqb (h % 2) 0) M' (arc_at net (h / 2)).src (arc_at net (h / 2)).dst begins ends
              (let P : ℕ → Type 0 = λ j. (M' (arc_at net j).src && M' (arc_at net j).dst) ≡ false in subst P at o))
          | inr off ↦
              get_or-set_other b.flow (h / 2) i (half_pushed (slice_index b.flow (h / 2)) h 1) 0 off
              ∙ b.same i (and_kept (M (arc_at net i).src) (M (arc_at net i).dst) (M' (arc_at net i).src)
              (M' (arc_at net i).dst) (more (arc_at net i).src) (more (arc_at net i).dst) o)
        ];
      }

  -- one more mark, at a node that is no sink
  marking_on : (M : ℕ → Bool) (h : ℕ) → h < 2 * length net.arcs → M (tail_of net h) ≡ true → 1 ≤ residual net xs h
      → M (head_of net h) ≡ false → t (head_of net h) ≡ false → IsMarking net s t xs M
      → IsMarking net s t xs (with_node M (head_of net h))
  marking_on M h l i r o no_sink m = record {
    sources = λ v e. with_node_more M w v (m.sources v e);
    brought = λ v e. elim (with_node_cases M w v e) [
      | inl k ↦ brought_more M (with_node M w) v (with_node_more M w) (m.brought v k)
      | inr k ↦
          subst (λ z. IsBrought net s t xs (with_node M w) z) (sym k)
          (brought_on M (with_node M w) h (with_node_more M w) (with_node_more M w (tail_of net h) i)
          (with_node_self M w) o l r (m.brought (tail_of net h) i))
    ];
    sinks = λ v e. with_node_not M w v (m.sinks v e) (λ k. (let same : t v ≡ t w = ap t k in cc));
  }
    where
      w : ℕ
      w = head_of net h

  -- a sink that a half-arc leads to
  raised : (M : ℕ → Bool) (h : ℕ) → AreApart s t → IsMarking net s t xs M → h < 2 * length net.arcs
      → LeadsOut net xs M h → t (head_of net h) ≡ true → Ends net s t xs
  raised M h apart m l o sink =
      let w = head_of net h in
      let b = brought_on M (with_node M w) h (with_node_more M w) (with_node_more M w (tail_of net h) o.0)
      (with_node_self M w) o.2 l o.1 (m.brought (tail_of net h) o.0) in
      let no_source : s w ≡ false = elim (cases_Bool (s w)) [ inl i ↦ absurd (let no = apart w i in cc) | inr n ↦ n ] in
      inl (
        b.flow,
        moved_feasible net s t xs 1 b.source w b.flow b.is_source sink b.moved,
        moved_value net s t xs 1 b.source w b.flow b.is_source no_source b.moved,
      )

search_from : (n : ℕ) (net : Net) (s t : ℕ → Bool) (xs : List ℕ) (M : ℕ → Bool) → IsNet net → AreApart s t
    → IsMarking net s t xs M → unmarked net.nodes M ≤ n → Ends net s t xs
search_from zero net s t xs M is_net apart m few = elim (find_out net xs M (2 * length net.arcs)) [
  | inr none ↦ inr (M, record { sources = m.sources; sinks = m.sinks }, closed_of net xs M none)
  | inl f ↦
      (let at = head_is_node net f.0 is_net f.1 in
      absurd (omega (arith, unmarked_fewer net.nodes M (head_of net f.0) at.0 at.1 f.2.2)))
]
search_from (suc n) net s t xs M is_net apart m few = elim (find_out net xs M (2 * length net.arcs)) [
  | inr none ↦ inr (M, record { sources = m.sources; sinks = m.sinks }, closed_of net xs M none)
  | inl f ↦ elim (cases_Bool (t (head_of net f.0))) [
    | inl sink ↦ raised net s t xs M f.0 apart m f.1 f.2 sink
    | inr no_sink ↦
        let at = head_is_node net f.0 is_net f.1 in
        search_from n net s t xs (with_node M (head_of net f.0)) is_net apart
        (marking_on net s t xs M f.0 f.1 f.2.0 f.2.1 f.2.2 no_sink m)
        (omega (arith, unmarked_fewer net.nodes M (head_of net f.0) at.0 at.1 f.2.2))
  ]
]

-- a search from the sources
searched : (net : Net) (s t : ℕ → Bool) (xs : List ℕ) → IsNet net → AreApart s t → IsFeasible net s t xs
    → Ends net s t xs
searched net s t xs is_net apart f = search_from (unmarked net.nodes s) net s t xs s is_net apart begun (omega arith)
  where
    begun : IsMarking net s t xs s
    begun = record {
      sources = λ v i. i;
      brought = λ v i.
          record { flow = xs; source = v; is_source = i; moved = moved_nothing net s t xs 1 v f; same = λ j o. refl };
      sinks = λ v i. elim (cases_Bool (s v)) [ inl j ↦ absurd (let no = apart v j in cc) | inr n ↦ n ];
    }

-- one number is the greatest value and the least capacity
abbrev Meets : Net → (ℕ → Bool) → (ℕ → Bool) → Type 0
Meets net s t = (k : ℕ) × IsGreatest net s t k × IsLeastCapacity net s t k

closed_meets : (net : Net) (s t X : ℕ → Bool) (xs : List ℕ) → IsNet net → IsFeasible net s t xs → IsCut s t X
    → IsClosed net xs X → Meets net s t
closed_meets net s t X xs is_net f c l =
    let m = closed_minimum net s t X xs is_net f c l in
    (capacity net X, closed_greatest net s t X xs is_net f c l, record { reached = (X, m.cut, refl); least = m.least })

-- no flow's value passes what may leave the sources
source_cut : (s t : ℕ → Bool) → AreApart s t → IsCut s t s
source_cut s t apart = record {
  sources = λ v i. i;
  sinks = λ v i. elim (cases_Bool (s v)) [ inl j ↦ absurd (let no = apart v j in cc) | inr n ↦ n ];
}

raise_from : (n : ℕ) (net : Net) (s t : ℕ → Bool) (xs : List ℕ) → IsNet net → AreApart s t → IsFeasible net s t xs
    → capacity net s + into s net.arcs xs ≤ n + out_of s net.arcs xs → Meets net s t
raise_from zero net s t xs is_net apart f full = elim (searched net s t xs is_net apart f) [
  | inr c ↦ closed_meets net s t c.0 xs is_net f c.1 c.2
  | inl m ↦ absurd (omega (arith, weak_duality net s t s m.0 is_net m.1 (source_cut s t apart), m.2))
]
raise_from (suc n) net s t xs is_net apart f full = elim (searched net s t xs is_net apart f) [
  | inr c ↦ closed_meets net s t c.0 xs is_net f c.1 c.2
  | inl m ↦ raise_from n net s t m.0 is_net apart m.1 (omega (arith, m.2))
]

pub max_flow_min_cut : (net : Net) (s t : ℕ → Bool) → IsNet net → AreApart s t
    → (k : ℕ) × IsGreatest net s t k × IsLeastCapacity net s t k
max_flow_min_cut net s t is_net apart =
    raise_from (capacity net s) net s t _ is_net apart (zeros_feasible net s t) (omega (arith, zeros_value net s))

-- so either is the other
pub greatest_is_least : (net : Net) (s t : ℕ → Bool) (k : ℕ) → IsNet net → AreApart s t → IsGreatest net s t k
    → IsLeastCapacity net s t k
greatest_is_least net s t k is_net apart g =
    let m = max_flow_min_cut net s t is_net apart in
    let there = m.1.reached in
    let here = g.reached in
    let same : m.0 ≡ k = omega (arith, g.most there.0 there.1, there.2, m.1.most here.0 here.1, here.2) in
    subst (λ j. IsLeastCapacity net s t j) same m.2

pub least_is_greatest : (net : Net) (s t : ℕ → Bool) (k : ℕ) → IsNet net → AreApart s t → IsLeastCapacity net s t k
    → IsGreatest net s t k
least_is_greatest net s t k is_net apart l =
    let m = max_flow_min_cut net s t is_net apart in
    let there = m.2.reached in
    let here = l.reached in
    let same : m.0 ≡ k = omega (arith, m.2.least here.0 here.1, here.2, l.least there.0 there.1, there.2) in
    subst (λ j. IsGreatest net s t j) same m.1
