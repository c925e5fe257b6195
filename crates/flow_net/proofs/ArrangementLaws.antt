-- What is asked of a network and its terminals is the same in each of its arrangements.
use Rattle.std.proofs.Common.{◌≡◌, ℕ, ◌≤◌, ◌<◌, ◌↔◌, Bool, false, not, ◌&&◌, List, ◌++◌}
use Rattle.std.proofs.Common.{length, map, get_or, refl, ◌∙◌, sym, ap, subst, arith}
use Rattle.std.specs.List.{All, AllByRecursion, range_with_len}
use Rattle.std.proofs.lemmas.List.{length-map, get_or-map, map-append}
use Rattle.std.proofs.lemmas.List.Elements.{recursion_from_All, All-weaker, All-from_get_or, All-map, All-append}
use Rattle.std.proofs.lemmas.List.FromFn.{length-range_with_len, get_or-range_with_len}
use Rattle.std.proofs.lemmas.List.Sorted.{All-permutation, length_permutation, IsPermutation-sym}
use Rattle.flow_net.specs.declared.networks.Arc.{Arc}
use Rattle.flow_net.specs.Nets.{Net, IsNode, arc_at}
use Rattle.flow_net.specs.Arcs.{no_arc}
use Rattle.flow_net.specs.Limits.{IsNet, IsArcWithin, AreTerminals, AreDistinct}
use Rattle.flow_net.specs.NodeSets.{one_of, just}
use Rattle.flow_net.specs.Flows.{flow_over, out_of, into, Fits, IsFeasible, IsGreatest}
use Rattle.flow_net.specs.Cuts.{leaves, IsCut, capacity, IsMinimumCut}
use Rattle.flow_net.specs.LeastCuts.{IsLeastCapacity}
use Rattle.flow_net.specs.Arrangements.{named, renamed, IsNaming, IsArranged, carried, all_named}
use Rattle.flow_net.specs.Arrangements.{AgreeOnFlow, AgreeOnNode, AgreeOnAll}
use Rattle.flow_net.proofs.Zips.{arc_within}
use Rattle.flow_net.proofs.Arrangements.{flow_over_carried, cap_over_arranged, flow_over_agree, cap_over_agree}
use Rattle.flow_net.proofs.Arrangements.{name_is_node, unnamed, unnamed_named, node_of, one_name, just_named, node_in}
use Rattle.flow_net.proofs.Arrangements.{is_among, node_among, among_named, carried_from}
use Rattle.flow_net.proofs.NodeLists.{terminals_apart}
use Rattle.flow_net.proofs.MaxFlows.{greatest_is_least, least_is_greatest}

-- a test of the ends of arcs
pub ends_agree : (p q : Arc → Bool) (net : Net) → IsNet net → ((b : Arc) → IsArcWithin net.nodes b → p b ≡ q b)
    → AllByRecursion (λ b. p b ≡ q b) net.arcs
ends_agree p q net r h =
    recursion_from_All (λ b. p b ≡ q b) net.arcs
    (All-weaker (IsArcWithin net.nodes) (λ b. p b ≡ q b) h net.arcs r.arcs_within)

-- the terminals under their new names are terminals of a network with as many nodes
pub named_terminals : (net other : Net) (names s t : List ℕ) → other.nodes ≡ net.nodes → IsNaming net names
    → AreTerminals net s t → AreTerminals other (all_named names s) (all_named names t)
named_terminals net other names s t same naming ends =
    let some_source = ends.some_source in
    let some_sink = ends.some_sink in
    record {
      some_source = omega (arith, length-map s (named names));
      some_sink = omega (arith, length-map t (named names));
      sources_within = all_nodes s ends.sources_within;
      sinks_within = all_nodes t ends.sinks_within;
      distinct = subst AreDistinct (map-append (named names) s t) apart;
    }
  where
    all_nodes : (vs : List ℕ) → All (IsNode net) vs → All (IsNode other) (all_named names vs)
    all_nodes vs h =
        All-map (IsNode other) (named names) vs
        (All-weaker (IsNode net) (λ v. IsNode other (named names v))
        (λ v k.
        let at = name_is_node net names naming v k in
        (at.0, omega (arith, at.1))) vs h)

    both : All (IsNode net) (s ++ t)
    both = All-append (IsNode net) s t ends.sources_within ends.sinks_within

    apart : AreDistinct (map (named names) (s ++ t))
    apart i j l k e =
        let size = length-map (s ++ t) (named names) in
        let in_j : j < length (s ++ t) = omega arith in
        let in_i : i < length (s ++ t) = omega arith in
        let here = get_or-map (named names) (s ++ t) i 0 0 in_i in
        let there = get_or-map (named names) (s ++ t) j 0 0 in_j in
        ends.distinct i j l in_j
        (one_name net names naming _ _ (both i 0 in_i) (both j 0 in_j) (sym here ∙ e ∙ there))

module _ (net other : Net) (names places : List ℕ) (a : IsArranged net other names places) (r : IsNet net) where
  arc_there : (j : ℕ) → j < length places → arc_at other j ≡ renamed names (arc_at net (get_or places j 0))
  arc_there j l =
      ap (λ arcs. get_or arcs j no_arc) a.arcs ∙ get_or-map (λ i. renamed names (arc_at net i)) places j 0 no_arc l

  count_places : length places ≡ length net.arcs
  count_places =
      length_permutation (range_with_len 0 (length net.arcs)) places a.once ∙ length-range_with_len 0 (length net.arcs)

  count_arcs : length other.arcs ≡ length net.arcs
  count_arcs = ap length a.arcs ∙ length-map places (λ i. renamed names (arc_at net i)) ∙ count_places

  -- what holds of each place holds in the other order, and the other way
  at_places : (P : ℕ → Type 0) → ((i : ℕ) → i < length net.arcs → P i) → All P places
  at_places P h =
      All-permutation P (range_with_len 0 (length net.arcs)) places a.once
      (All-from_get_or P (range_with_len 0 (length net.arcs)) 0
      (λ i l.
      let k : i < length net.arcs = omega (arith, length-range_with_len 0 (length net.arcs)) in
      subst P (sym (get_or-range_with_len 0 (length net.arcs) i 0 k ∙ omega arith)) (h i k)))

  at_all : (P : ℕ → Type 0) → ((j : ℕ) → j < length places → P (get_or places j 0)) → (i : ℕ) → i < length net.arcs
      → P i
  at_all P h i l =
      let all = range_with_len 0 (length net.arcs) in
      let back =
      All-permutation P places all (IsPermutation-sym all places a.once) (All-from_get_or P places 0 h) in
      subst P (get_or-range_with_len 0 (length net.arcs) i 0 l ∙ omega arith)
      (back i 0 (omega (arith, length-range_with_len 0 (length net.arcs))))

  place_below : (j : ℕ) → j < length places → get_or places j 0 < length net.arcs
  place_below j l = at_places (λ i. i < length net.arcs) (λ i k. k) j 0 l

  -- the other network keeps the limits
  pub arranged_net : IsNet other
  arranged_net =
      let nodes = a.nodes in
      let most = r.arcs_most in
      let least_nodes = r.nodes_least in
      let most_nodes = r.nodes_most in
      record {
        nodes_least = omega arith;
        nodes_most = omega arith;
        arcs_most = omega (arith, count_arcs);
        arcs_within = within;
      }
    where
      renamed_within : (b : Arc) → IsArcWithin net.nodes b → IsArcWithin other.nodes (renamed names b)
      renamed_within b w =
          let src = name_is_node net names a.naming b.src (w.src_least, w.src_most) in
          let dst = name_is_node net names a.naming b.dst (w.dst_least, w.dst_most) in
          let nodes = a.nodes in
          record {
            src_least = src.0;
            src_most = omega (arith, src.1);
            dst_least = dst.0;
            dst_most = omega (arith, dst.1);
            cap_fits = w.cap_fits;
          }

      within : All (IsArcWithin other.nodes) other.arcs
      within =
          let each : All (λ i. IsArcWithin other.nodes (renamed names (arc_at net i))) places =
          at_places (λ i. IsArcWithin other.nodes (renamed names (arc_at net i)))
          (λ i l. renamed_within (arc_at net i) (arc_within net i r l)) in
          subst (λ arcs. All (IsArcWithin other.nodes) arcs) (sym a.arcs)
          (All-map (IsArcWithin other.nodes) (λ i. renamed names (arc_at net i)) places each)

  -- a flow over the arcs, by a test of the new names and one of the old
  sums_agree : (p q : Arc → Bool) (xs : List ℕ) → length xs ≡ length net.arcs
      → ((b : Arc) → IsArcWithin net.nodes b → p (renamed names b) ≡ q b)
      → flow_over p other.arcs (carried places xs) ≡ flow_over q net.arcs xs
  sums_agree p q xs l h =
      flow_over_carried net other names places a p xs l
      ∙ flow_over_agree (λ b. p (renamed names b)) q net.arcs xs (ends_agree (λ b. p (renamed names b)) q net r h)

  out_agrees : (p q : ℕ → Bool) (xs : List ℕ) → length xs ≡ length net.arcs
      → ((v : ℕ) → IsNode net v → p (named names v) ≡ q v)
      → out_of p other.arcs (carried places xs) ≡ out_of q net.arcs xs
  out_agrees p q xs l h = sums_agree (λ b. p b.src) (λ b. q b.src) xs l (λ b w. h b.src (w.src_least, w.src_most))

  into_agrees : (p q : ℕ → Bool) (xs : List ℕ) → length xs ≡ length net.arcs
      → ((v : ℕ) → IsNode net v → p (named names v) ≡ q v) → into p other.arcs (carried places xs) ≡ into q net.arcs xs
  into_agrees p q xs l h = sums_agree (λ b. p b.dst) (λ b. q b.dst) xs l (λ b w. h b.dst (w.dst_least, w.dst_most))

  -- the capacity of a set of nodes and of their names
  both_leave : (p q p' q' : Bool) → p ≡ p' → q ≡ q' → p && not q ≡ p' && not q'
  both_leave p q p' q' e f = cc

  pub capacity_agrees : (X Y : ℕ → Bool) → ((v : ℕ) → IsNode net v → Y (named names v) ≡ X v)
      → capacity other Y ≡ capacity net X
  capacity_agrees X Y h =
      cap_over_arranged net other names places a (leaves Y)
      ∙ cap_over_agree (λ b. leaves Y (renamed names b)) (leaves X) net.arcs
      (ends_agree (λ b. leaves Y (renamed names b)) (leaves X) net r
      (λ b w.
      both_leave _ _ _ _ (h b.src (w.src_least, w.src_most)) (h b.dst (w.dst_least, w.dst_most))))

  module _ (s t : List ℕ) (ends : AreTerminals net s t) where
    source_agrees : (v : ℕ) → IsNode net v → one_of (all_named names s) (named names v) ≡ one_of s v
    source_agrees v h = among_named net names s v a.naming ends.sources_within h

    sink_agrees : (v : ℕ) → IsNode net v → one_of (all_named names t) (named names v) ≡ one_of t v
    sink_agrees v h = among_named net names t v a.naming ends.sinks_within h

    -- ---- cuts

    pub named_cut : (X Y : ℕ → Bool) → ((v : ℕ) → IsNode net v → Y (named names v) ≡ X v)
        → IsCut (one_of s) (one_of t) X
        → IsCut (one_of (all_named names s)) (one_of (all_named names t)) Y
    named_cut X Y h c = record {
      sources = λ w i.
          let v = node_in names s w i in
          ap Y (sym v.2) ∙ h v.0 (node_among net s v.0 ends.sources_within v.1) ∙ c.sources v.0 v.1;
      sinks = λ w i.
          let v = node_in names t w i in
          ap Y (sym v.2) ∙ h v.0 (node_among net t v.0 ends.sinks_within v.1) ∙ c.sinks v.0 v.1;
    }

    pub unnamed_cut : (X Y : ℕ → Bool) → ((v : ℕ) → IsNode net v → Y (named names v) ≡ X v)
        → IsCut (one_of (all_named names s)) (one_of (all_named names t)) Y → IsCut (one_of s) (one_of t) X
    unnamed_cut X Y h c = record {
      sources = λ v i.
          sym (h v (node_among net s v ends.sources_within i)) ∙ c.sources (named names v) (is_among names s v i);
      sinks = λ v i.
          sym (h v (node_among net t v ends.sinks_within i)) ∙ c.sinks (named names v) (is_among names t v i);
    }

    least_there : (X Y : ℕ → Bool) → ((v : ℕ) → IsNode net v → Y (named names v) ≡ X v)
        → IsMinimumCut net (one_of s) (one_of t) X
        → IsMinimumCut other (one_of (all_named names s)) (one_of (all_named names t)) Y
    least_there X Y h m = record {
      cut = named_cut X Y h m.cut;
      least = λ Z c.
          let less = m.least (λ v. Z (named names v)) (unnamed_cut (λ v. Z (named names v)) Z (λ v k. refl) c) in
          omega (arith, less, capacity_agrees X Y h, capacity_agrees (λ v. Z (named names v)) Z (λ v k. refl));
    }

    kept_names : (X : ℕ → Bool) (v : ℕ) → IsNode net v → X (unnamed names (named names v)) ≡ X v
    kept_names X v k = ap X (unnamed_named net names a.naming v k)

    least_here : (X Y : ℕ → Bool) → ((v : ℕ) → IsNode net v → Y (named names v) ≡ X v)
        → IsMinimumCut other (one_of (all_named names s)) (one_of (all_named names t)) Y
        → IsMinimumCut net (one_of s) (one_of t) X
    least_here X Y h m = record {
      cut = unnamed_cut X Y h m.cut;
      least = λ Z c.
          let W : ℕ → Bool = λ w. Z (unnamed names w) in
          let less = m.least W (named_cut Z W (kept_names Z) c) in
          omega (arith, less, capacity_agrees X Y h, capacity_agrees Z W (kept_names Z));
    }

    pub node_agrees : (v : ℕ) → IsNode net v
        → AgreeOnNode net other s t (all_named names s) (all_named names t) v (named names v)
    node_agrees v k = record {
      source = (
        (λ h Y m. h (λ u. Y (named names u)) (least_here (λ u. Y (named names u)) Y (λ u l. refl) m)),
        (λ h X m.
            sym (kept_names X v k)
            ∙ h (λ w. X (unnamed names w)) (least_there X (λ w. X (unnamed names w)) (kept_names X) m)),
      );
      sink = (
        (λ h Y m. h (λ u. Y (named names u)) (least_here (λ u. Y (named names u)) Y (λ u l. refl) m)),
        (λ h X m.
            sym (kept_names X v k)
            ∙ h (λ w. X (unnamed names w)) (least_there X (λ w. X (unnamed names w)) (kept_names X) m)),
      );
    }

    -- ---- the greatest value

    least_agrees : (k : ℕ) → IsLeastCapacity net (one_of s) (one_of t) k
        → IsLeastCapacity other (one_of (all_named names s)) (one_of (all_named names t)) k
    least_agrees k l = record {
      reached =
          let X = l.reached.0 in
          let Y : ℕ → Bool = λ w. X (unnamed names w) in
          (Y, named_cut X Y (kept_names X) l.reached.1, capacity_agrees X Y (kept_names X) ∙ l.reached.2);
      least = λ Z c.
          let less = l.least (λ v. Z (named names v)) (unnamed_cut (λ v. Z (named names v)) Z (λ v h. refl) c) in
          omega (arith, less, capacity_agrees (λ v. Z (named names v)) Z (λ v h. refl));
    }

    least_agrees_back : (k : ℕ) → IsLeastCapacity other (one_of (all_named names s)) (one_of (all_named names t)) k
        → IsLeastCapacity net (one_of s) (one_of t) k
    least_agrees_back k l = record {
      reached =
          let Y = l.reached.0 in
          let X : ℕ → Bool = λ v. Y (named names v) in
          (X, unnamed_cut X Y (λ v h. refl) l.reached.1, sym (capacity_agrees X Y (λ v h. refl)) ∙ l.reached.2);
      least = λ Z c.
          let W : ℕ → Bool = λ w. Z (unnamed names w) in
          let less = l.least W (named_cut Z W (kept_names Z) c) in
          omega (arith, less, capacity_agrees Z W (kept_names Z));
    }

    pub greatest_agrees : (k : ℕ) → IsGreatest net (one_of s) (one_of t) k
        ↔ IsGreatest other (one_of (all_named names s)) (one_of (all_named names t)) k
    greatest_agrees k =
        let here = terminals_apart net s t ends in
        let there =
        terminals_apart other (all_named names s) (all_named names t)
        (named_terminals net other names s t a.nodes a.naming ends) in
        let s' = one_of (all_named names s) in
        let t' = one_of (all_named names t) in (
          (λ g.
              least_is_greatest other s' t' k arranged_net there
              (least_agrees k (greatest_is_least net (one_of s) (one_of t) k r here g))),
          (λ g.
              least_is_greatest net (one_of s) (one_of t) k r here
              (least_agrees_back k (greatest_is_least other s' t' k arranged_net there g))),
        )

    -- ---- flows

    module _ (xs : List ℕ) (l : length xs ≡ length net.arcs) where
      sources_out : out_of (one_of (all_named names s)) other.arcs (carried places xs) ≡ out_of (one_of s) net.arcs xs
      sources_out = out_agrees (one_of (all_named names s)) (one_of s) xs l source_agrees

      sources_in : into (one_of (all_named names s)) other.arcs (carried places xs) ≡ into (one_of s) net.arcs xs
      sources_in = into_agrees (one_of (all_named names s)) (one_of s) xs l source_agrees

      node_out : (v : ℕ) → IsNode net v
          → out_of (just (named names v)) other.arcs (carried places xs) ≡ out_of (just v) net.arcs xs
      node_out v k = out_agrees (just (named names v)) (just v) xs l (λ u h. just_named net names a.naming v u k h)

      carried_at : (j : ℕ) → j < length places → get_or (carried places xs) j 0 ≡ get_or xs (get_or places j 0) 0
      carried_at j k = get_or-map (λ i. get_or xs i 0) places j 0 0 k

      -- ---- feasible flows

      fits_there : Fits net xs → Fits other (carried places xs)
      fits_there f = record {
        count = length-map places (λ i. get_or xs i 0) ∙ count_places ∙ sym count_arcs;
        within = λ j h.
            let k : j < length places = omega (arith, count_places, count_arcs) in
            let cap : (arc_at other j).cap ≡ (arc_at net (get_or places j 0)).cap = ap (λ b. b.cap) (arc_there j k) in
            omega (arith, carried_at j k, cap, f.within (get_or places j 0) (place_below j k));
      }

      fits_here : Fits other (carried places xs) → Fits net xs
      fits_here f = record {
        count = l;
        within = at_all (λ i. get_or xs i 0 ≤ (arc_at net i).cap)
            (λ j k.
            let cap : (arc_at other j).cap ≡ (arc_at net (get_or places j 0)).cap = ap (λ b. b.cap) (arc_there j k) in
            omega (arith, carried_at j k, cap, f.within j (omega (arith, count_places, count_arcs))));
      }

      conserved_at : (v : ℕ) → IsNode net v
          → (into (just (named names v)) other.arcs (carried places xs)
          ≡ out_of (just (named names v)) other.arcs (carried places xs))
          ↔ (into (just v) net.arcs xs ≡ out_of (just v) net.arcs xs)
      conserved_at v k =
          ((λ e. sym (node_in_flow v k) ∙ e ∙ node_out v k), (λ e. node_in_flow v k ∙ e ∙ sym (node_out v k)))
        where
          node_in_flow : (u : ℕ) → IsNode net u
              → into (just (named names u)) other.arcs (carried places xs) ≡ into (just u) net.arcs xs
          node_in_flow u h =
              into_agrees (just (named names u)) (just u) xs l (λ w g. just_named net names a.naming u w h g)

      feasible_there : IsFeasible net (one_of s) (one_of t) xs
          → IsFeasible other (one_of (all_named names s)) (one_of (all_named names t)) (carried places xs)
      feasible_there f = record {
        fits = fits_there f.fits;
        conserved = λ w least most o p.
            let nodes = a.nodes in
            let v = node_of net names a.naming w (least, omega arith) in
            let Is : ℕ → Type 0 =
            λ u. one_of (all_named names s) u ≡ false → one_of (all_named names t) u ≡ false
            → into (just u) other.arcs (carried places xs) ≡ out_of (just u) other.arcs (carried places xs) in
            let here : Is (named names v.0) =
            λ o' p'.
            (conserved_at v.0 v.1).1
            (f.conserved v.0 v.1.0 v.1.1 (sym (source_agrees v.0 v.1) ∙ o') (sym (sink_agrees v.0 v.1) ∙ p')) in
            subst Is v.2 here o p;
      }

      feasible_here : IsFeasible other (one_of (all_named names s)) (one_of (all_named names t)) (carried places xs)
          → IsFeasible net (one_of s) (one_of t) xs
      feasible_here f = record {
        fits = fits_here f.fits;
        conserved = λ v least most o p.
            let nodes = a.nodes in
            let k : IsNode net v = (least, most) in
            let at = name_is_node net names a.naming v k in
            (conserved_at v k).0
            (f.conserved (named names v) at.0 (omega (arith, at.1)) (source_agrees v k ∙ o) (sink_agrees v k ∙ p));
      }

      pub flow_agrees : AgreeOnFlow net other s t (all_named names s) (all_named names t) xs (carried places xs)
      flow_agrees = record {
        feasible = (feasible_there, feasible_here);
        value = λ k.
            ((λ e. omega (arith, e, sources_out, sources_in)), (λ e. omega (arith, e, sources_out, sources_in)));
        loops = (
          (λ h j k loop.
              let c : j < length places = omega (arith, count_places, count_arcs) in
              let i = get_or places j 0 in
              let w = arc_within net i r (place_below j c) in
              let b = arc_there j c in
              carried_at j c
              ∙ h i (place_below j c)
              (one_name net names a.naming (arc_at net i).src (arc_at net i).dst (w.src_least, w.src_most)
              (w.dst_least, w.dst_most) (sym (ap (λ x. x.src) b) ∙ loop ∙ ap (λ x. x.dst) b))),
          (λ h. at_all (λ i. (arc_at net i).src ≡ (arc_at net i).dst → get_or xs i 0 ≡ 0)
              (λ j c loop.
              let b = arc_there j c in
              sym (carried_at j c)
              ∙ h j (omega (arith, c, count_places, count_arcs))
              (ap (λ x. x.src) b ∙ ap (named names) loop ∙ sym (ap (λ x. x.dst) b)))),
        );
      }

pub same_arranged : (net other : Net) (names places s t : List ℕ) → IsNet net → AreTerminals net s t
    → IsArranged net other names places
    → AgreeOnAll net other names places s t (all_named names s) (all_named names t)
same_arranged net other names places s t r ends a = record {
  is_net = arranged_net net other names places a r;
  terminals = named_terminals net other names s t a.nodes a.naming ends;
  greatest = greatest_agrees net other names places a r s t ends;
  flows = flow_agrees net other names places a r s t ends;
  all_flows = λ ys l. carried_from (length net.arcs) places ys a.once l;
  cuts = λ X Y h. record {
    capacities = sym (capacity_agrees net other names places a r X Y h);
    minimum = (
      least_there net other names places a r s t ends X Y h,
      least_here net other names places a r s t ends X Y h,
    );
  };
  nodes = node_agrees net other names places a r s t ends;
}
