-- Connectivity by solves with unit capacities.
use Rattle.std.proofs.Common.{◌≡◌, ℕ, ◌≤◌, Bool, true, false, cond, List, [], ◌∷◌, refl, ◌∙◌, sym}
use Rattle.std.proofs.Common.{ap, inl, inr, eq-eqb, ◌↔◌, ◌≢◌, ◌⊎◌, arith}
use Rattle.std.specs.Prelude.{map}
use Rattle.std.specs.List.{AllByRecursion, count_by}
use Rattle.std.proofs.lemmas.Bool.{cases_Bool, eqb-true, ne_eqb}
use Rattle.std.proofs.lemmas.List.Sums.{sum_by-cons, sum_by-append}
use Rattle.flow_net.specs.declared.networks.Arc.{Arc}
use Rattle.flow_net.specs.Nets.{Net, IsNode}
use Rattle.flow_net.specs.Limits.{IsNet}
use Rattle.flow_net.specs.DerivedNets.{unit, unit_arc, reversed, both_ways}
use Rattle.flow_net.specs.NodeSets.{just, IsLeastOver}
use Rattle.flow_net.specs.Flows.{IsGreatest}
use Rattle.flow_net.specs.Cuts.{cap_over, leaves, IsCut, capacity}
use Rattle.flow_net.specs.LeastCuts.{IsLeastCapacity}
use Rattle.flow_net.specs.Connectivity.{leaving, crossing, IsProper}
use Rattle.flow_net.specs.LeastCuts.{IsConnectivity, IsUndirectedConnectivity}
use Rattle.flow_net.specs.LeastCuts.{IsPairConnectivity, IsUndirectedPairConnectivity}
use Rattle.flow_net.specs.Laws.{AreApart, IsLeastOfPairs}
use Rattle.flow_net.proofs.Complements.{leaves_reversed, crossing_sum}
use Rattle.flow_net.proofs.KeptLimits.{IsNet-unit}
use Rattle.flow_net.proofs.MaxFlows.{max_flow_min_cut, greatest_is_least, least_is_greatest}

-- where each capacity is 1, capacities are numbers of arcs
pub cap_counts : (p : Arc → Bool) (arcs : List Arc) → AllByRecursion (λ a. a.cap ≡ 1) arcs
    → cap_over p arcs ≡ count_by p arcs
cap_counts p [] h = refl
cap_counts p (a ∷ arcs) h = let s = cap_counts p arcs h.1 in rw (sum_by-cons (λ b. cond (p b) 1 0) a arcs, h.0, s) refl

-- with unit capacities the capacity of a cut is the number of arcs that leave it
cap_over_unit : (X : ℕ → Bool) (arcs : List Arc) → cap_over (leaves X) (map unit_arc arcs) ≡ count_by (leaves X) arcs
cap_over_unit X [] = refl
cap_over_unit X (a ∷ arcs) = rw (sum_by-cons (λ b. cond (leaves X b) 1 0) a arcs, cap_over_unit X arcs) refl

pub capacity-unit : (net : Net) (X : ℕ → Bool) → capacity (unit net) X ≡ leaving net X
capacity-unit net X = cap_over_unit X net.arcs

-- the arcs that leave a set in both directions' network are those that cross it
pub leaving-both_ways : (net : Net) (X : ℕ → Bool) → leaving (both_ways net) X ≡ crossing net X
leaving-both_ways net X =
    omega (
      arith,
      sum_by-append (λ b. cond (leaves X b) 1 0) net.arcs (map reversed net.arcs),
      leaves_reversed X net.arcs,
      crossing_sum X net.arcs,
    )

-- a set is proper by the nodes of its network alone
proper_in : (net other : Net) (X : ℕ → Bool) → net.nodes ≡ other.nodes → IsProper net X → IsProper other X
proper_in net other X same p = record {
  inside = rw (← same) p.inside;
  outside = rw (← same) p.outside;
}

-- the least is the same over sets of the same kind by counts that agree
least_agrees : (K L : (ℕ → Bool) → Type 0) (f g : (ℕ → Bool) → ℕ) (k : ℕ) → ((X : ℕ → Bool) → K X → L X)
    → ((X : ℕ → Bool) → L X → K X) → ((X : ℕ → Bool) → f X ≡ g X) → IsLeastOver K f k → IsLeastOver L g k
least_agrees K L f g k to from e c = record {
  reached = (c.reached.0, to c.reached.0 c.reached.1, sym (e c.reached.0) ∙ c.reached.2);
  least = λ X p. omega (arith, c.least X (from X p), e X);
}

-- the same of proper sets, in two networks of the same nodes
least_proper : (net other : Net) (f g : (ℕ → Bool) → ℕ) (k : ℕ) → net.nodes ≡ other.nodes
    → ((X : ℕ → Bool) → f X ≡ g X) → IsLeastOver (IsProper net) f k → IsLeastOver (IsProper other) g k
least_proper net other f g k same =
    least_agrees (IsProper net) (IsProper other) f g k (λ X. proper_in net other X same)
    (λ X. proper_in other net X (sym same))

-- the same of the cuts of a pair
pub least_cut : (s t : ℕ → Bool) (f g : (ℕ → Bool) → ℕ) (k : ℕ) → ((X : ℕ → Bool) → f X ≡ g X)
    → IsLeastOver (IsCut s t) f k → IsLeastOver (IsCut s t) g k
least_cut s t f g k = least_agrees (IsCut s t) (IsCut s t) f g k (λ X c. c) (λ X c. c)

pub undirected : (net : Net) (k : ℕ) → IsConnectivity (both_ways net) k ↔ IsUndirectedConnectivity net k
undirected net k = (
  least_proper (both_ways net) net (leaving (both_ways net)) (crossing net) k refl (leaving-both_ways net),
  least_proper net (both_ways net) (crossing net) (leaving (both_ways net)) k refl (λ X. sym (leaving-both_ways net X)),
)

pub undirected_pair : (net : Net) (s t : ℕ → Bool) (k : ℕ)
    → IsPairConnectivity (both_ways net) s t k ↔ IsUndirectedPairConnectivity net s t k
undirected_pair net s t k = (
  least_cut s t (leaving (both_ways net)) (crossing net) k (leaving-both_ways net),
  least_cut s t (crossing net) (leaving (both_ways net)) k (λ X. sym (leaving-both_ways net X)),
)

-- the number of arcs that leave a set has nothing to do with capacities
count_by_unit : (X : ℕ → Bool) (arcs : List Arc) → count_by (leaves X) (map unit_arc arcs) ≡ count_by (leaves X) arcs
count_by_unit X [] = refl
count_by_unit X (a ∷ arcs) =
    rw (
      sum_by-cons (λ b. cond (leaves X b) 1 0) a arcs,
      sum_by-cons (λ b. cond (leaves X b) 1 0) (unit_arc a) (map unit_arc arcs),
      count_by_unit X arcs,
    ) refl

leaving-unit : (net : Net) (X : ℕ → Bool) → leaving (unit net) X ≡ leaving net X
leaving-unit net X = count_by_unit X net.arcs

-- so the connectivity is that of the network of unit capacities
pub connectivity_of_unit : (net : Net) (k : ℕ) → IsConnectivity (unit net) k → IsConnectivity net k
connectivity_of_unit net k = least_proper (unit net) net (leaving (unit net)) (leaving net) k refl (leaving-unit net)

pub pair_of_unit : (net : Net) (s t : ℕ → Bool) (k : ℕ) → IsPairConnectivity (unit net) s t k
    → IsPairConnectivity net s t k
pair_of_unit net s t k = least_cut s t (leaving (unit net)) (leaving net) k (leaving-unit net)

-- a set that holds one node and not another is a cut of the two
cut_of_two : (X : ℕ → Bool) (u v : ℕ) → X u ≡ true → X v ≡ false → IsCut (just u) (just v) X
cut_of_two X u v i o = record {
  sources = λ w e. ap X (eqb-true w u e) ∙ i;
  sinks = λ w e. ap X (eqb-true w v e) ∙ o;
}

-- what one solve of the unit network says of a pair
pair_by_solve : (net : Net) (s t : ℕ → Bool) (k : ℕ) → IsLeastCapacity (unit net) s t k
    → IsPairConnectivity net s t k
pair_by_solve net s t k = least_cut s t (capacity (unit net)) (leaving net) k (capacity-unit net)

pub just_self : (v : ℕ) → just v v ≡ true
just_self v = eq-eqb v v refl

-- a cut of two nodes is neither empty nor all
cut_proper : (net : Net) (u v : ℕ) (X : ℕ → Bool) → 1 ≤ u → u ≤ net.nodes → 1 ≤ v → v ≤ net.nodes
    → IsCut (just u) (just v) X → IsProper net X
cut_proper net u v X a b c d k = record {
  inside = (u, a, b, k.sources u (just_self u));
  outside = (v, c, d, k.sinks v (just_self v));
}

-- the pair connectivity is the greatest value at capacities of 1
pub pair_by_flow : (net : Net) (s t : ℕ → Bool) (k : ℕ) → IsNet net → AreApart s t
    → IsGreatest (unit net) s t k ↔ IsPairConnectivity net s t k
pair_by_flow net s t k n a = (
  (λ g. pair_by_solve net s t k (greatest_is_least (unit net) s t k (IsNet-unit net n) a g)),
  λ p. least_is_greatest (unit net) s t k (IsNet-unit net n) a
      (least_cut s t (leaving net) (capacity (unit net)) k (λ X. sym (capacity-unit net X)) p),
)

-- each pair of two nodes has a connectivity
pair_exists : (net : Net) (u v : ℕ) → IsNet net → u ≢ v → (k : ℕ) × IsPairConnectivity net (just u) (just v) k
pair_exists net u v n ne =
    let m = max_flow_min_cut (unit net) (just u) (just v) (IsNet-unit net n)
    (λ w e. ne_eqb w v (λ f. ne (sym (eqb-true w u e) ∙ f))) in
    (m.0, pair_by_solve net (just u) (just v) m.0 m.2)

-- a proper set parts any node from another, one way or the other: no fewer arcs leave it than any pair has
proper_parts : (net : Net) (r k : ℕ) (X : ℕ → Bool) → IsNet net
    → ((v j : ℕ) → IsNode net v → v ≢ r
    → IsPairConnectivity net (just r) (just v) j ⊎ IsPairConnectivity net (just v) (just r) j → k ≤ j)
    → IsProper net X → k ≤ leaving net X
proper_parts net r k X n least p = elim (cases_Bool (X r)) [
  | inl i ↦
      let v = p.outside.0 in
      let o : X v ≡ false = p.outside.3 in
      let ne : v ≢ r = λ e. (let same : X v ≡ X r = ap X e in cc) in
      let c = pair_exists net r v n (λ e. ne (sym e)) in
      omega (arith, least v c.0 (p.outside.1, p.outside.2) ne (inl c.1), c.1.least X (cut_of_two X r v i o))
  | inr o ↦
      let v = p.inside.0 in
      let i : X v ≡ true = p.inside.3 in
      let ne : v ≢ r = λ e. (let same : X v ≡ X r = ap X e in cc) in
      let c = pair_exists net v r n ne in
      omega (arith, least v c.0 (p.inside.1, p.inside.2) ne (inr c.1), c.1.least X (cut_of_two X v r i o))
]

-- a set of the least number of leaving arcs gives the least pair
parts_least : (net : Net) (r k : ℕ) → IsNode net r → IsConnectivity net k → IsLeastOfPairs net r k
parts_least net r k at c = record { reached = first; least = rest }
  where
    X : ℕ → Bool
    X = c.reached.0

    e : leaving net X ≡ k
    e = c.reached.2

    pair : (u v : ℕ) → IsNode net u → IsNode net v → X u ≡ true → X v ≡ false
        → IsPairConnectivity net (just u) (just v) k
    pair u v a b i o = record {
      reached = (X, cut_of_two X u v i o, e);
      least = λ Y d. c.least Y (cut_proper net u v Y a.0 a.1 b.0 b.1 d);
    }

    first : (v : ℕ)
        × IsNode net v
        × (v ≢ r)
        × (IsPairConnectivity net (just r) (just v) k ⊎ IsPairConnectivity net (just v) (just r) k)
    first = elim (cases_Bool (X r)) [
      | inl i ↦
          let p = c.reached.1.outside in
          let o : X p.0 ≡ false = p.3 in
          (p.0, (p.1, p.2), (λ f. (let same : X p.0 ≡ X r = ap X f in cc)), inl (pair r p.0 at (p.1, p.2) i o))
      | inr o ↦
          let p = c.reached.1.inside in
          let i : X p.0 ≡ true = p.3 in
          (p.0, (p.1, p.2), (λ f. (let same : X p.0 ≡ X r = ap X f in cc)), inr (pair p.0 r (p.1, p.2) at i o))
    ]

    rest : (v j : ℕ) → IsNode net v → v ≢ r
        → IsPairConnectivity net (just r) (just v) j ⊎ IsPairConnectivity net (just v) (just r) j → k ≤ j
    rest v j b ne d = elim d [
      | inl p ↦
          omega (arith, c.least p.reached.0 (cut_proper net r v p.reached.0 at.0 at.1 b.0 b.1 p.reached.1), p.reached.2)
      | inr p ↦
          omega (arith, c.least p.reached.0 (cut_proper net v r p.reached.0 b.0 b.1 at.0 at.1 p.reached.1), p.reached.2)
    ]

-- the connectivity is the least over one node and every other, both ways
pub connected_by_pairs : (net : Net) (r k : ℕ) → IsNet net → IsNode net r
    → IsConnectivity net k ↔ IsLeastOfPairs net r k
connected_by_pairs net r k n at = (
  parts_least net r k at,
  λ l. record { reached = proper_of l.reached; least = λ X p. proper_parts net r k X n l.least p },
)
  where
    proper_of : ((v : ℕ)
        × IsNode net v
        × (v ≢ r)
        × (IsPairConnectivity net (just r) (just v) k ⊎ IsPairConnectivity net (just v) (just r) k))
        → (X : ℕ → Bool) × IsProper net X × (leaving net X ≡ k)
    proper_of q = elim q.3 [
      | inl p ↦ (p.reached.0, cut_proper net r q.0 p.reached.0 at.0 at.1 q.1.0 q.1.1 p.reached.1, p.reached.2)
      | inr p ↦ (p.reached.0, cut_proper net q.0 r p.reached.0 q.1.0 q.1.1 at.0 at.1 p.reached.1, p.reached.2)
    ]
