-- What holds of the copy in which a problem is arranged holds of the problem, in its own order.
use Rattle.std.proofs.Common.{◌≡◌, ◌↔◌, ℕ, ◌-◌, ◌<◌, ◌≤◌, Bool, true, false, not, List, length, map, get_or}
use Rattle.std.proofs.Common.{zero, suc, refl, sym, ◌∙◌, ap, subst, arith, Option, None, Some, IfSome}
use Rattle.std.specs.List.{All, range_with_len}
use Rattle.std.proofs.lemmas.List.{length-map, get_or-map}
use Rattle.std.proofs.lemmas.List.Elements.{All-from_get_or}
use Rattle.std.proofs.lemmas.List.FromFn.{length-range_with_len, get_or-range_with_len}
use Rattle.std.proofs.lemmas.List.Sorted.{All-permutation, length_permutation}
use Rattle.flow_net.specs.Nets.{Net, Instance, IsNode, arc_at}
use Rattle.flow_net.specs.Limits.{IsNet, AreTerminals}
use Rattle.flow_net.specs.Arrangements.{IsArranged, AgreeOnAll, AgreeOnNode, named, renamed, all_named, carried}
use Rattle.flow_net.specs.Namings.{AreInverse}
use Rattle.flow_net.specs.NodeSets.{one_of}
use Rattle.flow_net.specs.Cuts.{IsMinimumCut}
use Rattle.flow_net.specs.MarkedNodes.{marked}
use Rattle.flow_net.proofs.Arrangements.{name_is_node}
use Rattle.flow_net.proofs.ArrangementLaws.{same_arranged, named_terminals}
use Rattle.flow_net.proofs.MaxFlows.{greatest_is_least}
use Rattle.flow_net.proofs.Namings.{is_naming, names_within, all_named_back}
use Rattle.flow_net.proofs.NodeLists.{terminals_apart}
use Rattle.flow_solve.specs.Bounds.{work_cells}
use Rattle.flow_tools.specs.declared.solving.arranging.Arranged.{Arranged}
use Rattle.flow_tools.specs.running.Answers.{IsNearest}
use Rattle.flow_tools.specs.laws.CutTexts.{IsValueOf}
use Rattle.flow_tools.specs.solving.Solutions.{IsSolution, IsMarkedCut}
use Rattle.flow_tools.specs.solving.ArrangedProblems.{IsArrangedIn, solved_of, flows_of, side_of}
use Rattle.flow_tools.proofs.laws.CutTextLemmas.{marked_cut}

-- the terminals under their new names are terminals of the copy
pub copy_terminals : (p : Instance) (copy : Net) (names nodes spots s t : List ℕ) → AreTerminals p.net p.sources p.sinks
    → AreInverse p.net.nodes names nodes → IsArranged copy p.net nodes spots → s ≡ all_named names p.sources
    → t ≡ all_named names p.sinks → AreTerminals copy s t
copy_terminals p copy names nodes spots s t q inverse a s_is t_is =
    rw (s_is, t_is)
    (named_terminals p.net copy names p.sources p.sinks (sym a.nodes) (is_naming p.net names nodes inverse) q)

-- a problem that is arranged in a copy, from its parts
pub arranged_in : (p : Instance) (made : Arranged) (copy : Net) (names nodes spots s t : List ℕ)
    → AreTerminals p.net p.sources p.sinks → IsNet copy → AreInverse p.net.nodes names nodes
    → IsArranged copy p.net nodes spots → s ≡ all_named names p.sources → t ≡ all_named names p.sinks
    → made.network ≡ record { net = copy; sources = s; sinks = t }
    → made.names.items ≡ names → made.spots.items ≡ spots → IsArrangedIn p made
arranged_in p made copy names nodes spots s t q limits inverse a s_is t_is network_is names_is spots_is = record {
  nodes = nodes;
  inverse = rw names_is inverse;
  net = rw (network_is, spots_is) a;
  sources =
      rw network_is
      (sym (ap (all_named nodes) s_is ∙ all_named_back p.net names nodes inverse p.sources q.sources_within));
  sinks =
      rw network_is (sym (ap (all_named nodes) t_is ∙ all_named_back p.net names nodes inverse p.sinks q.sinks_within));
  limits = rw network_is limits;
  terminals = rw network_is (copy_terminals p copy names nodes spots s t q inverse a s_is t_is);
}

-- the law, with the terminals under their old names
agree_on_all : (net other : Net) (nodes spots s t s' t' : List ℕ) → IsNet net → AreTerminals net s t
    → IsArranged net other nodes spots → s' ≡ all_named nodes s → t' ≡ all_named nodes t
    → AgreeOnAll net other nodes spots s t s' t'
agree_on_all net other nodes spots s t s' t' limits ends a e f =
    rw (e, f) (same_arranged net other nodes spots s t limits ends a)

as_many_cells : (net other : Net) → length net.arcs ≡ length other.arcs → net.nodes ≡ other.nodes
    → work_cells other ≡ work_cells net
as_many_cells net other arcs nodes = rw (arcs, nodes) refl

module _ (p : Instance) (copy : Arranged) (a : IsArrangedIn p copy) where
  law : AgreeOnAll copy.network.net p.net a.nodes copy.spots.items copy.network.sources copy.network.sinks p.sources
      p.sinks
  law =
      agree_on_all copy.network.net p.net a.nodes copy.spots.items copy.network.sources copy.network.sinks p.sources
      p.sinks a.limits a.terminals a.net a.sources a.sinks

  abbrev all_spots : List ℕ
  all_spots = range_with_len 0 (length copy.network.net.arcs)

  spots_all : length copy.spots.items ≡ length copy.network.net.arcs
  spots_all =
      length_permutation all_spots copy.spots.items a.net.once ∙ length-range_with_len 0 (length copy.network.net.arcs)

  -- the copy has as many arcs, so that a solver works in as many cells
  arcs_all : length p.net.arcs ≡ length copy.network.net.arcs
  arcs_all =
      ap length a.net.arcs
      ∙ length-map copy.spots.items (λ i. renamed a.nodes (arc_at copy.network.net i))
      ∙ spots_all

  same_cells : work_cells copy.network.net ≡ work_cells p.net
  same_cells = as_many_cells p.net copy.network.net arcs_all a.net.nodes

  -- each spot is that of an arc of the copy
  spots_within : All (λ spot. spot < length copy.network.net.arcs) copy.spots.items
  spots_within =
      All-permutation (λ spot. spot < length copy.network.net.arcs) all_spots copy.spots.items a.net.once
      (All-from_get_or (λ spot. spot < length copy.network.net.arcs) all_spots 0
      (λ i l.
      let count = length-range_with_len 0 (length copy.network.net.arcs) in
      let at = get_or-range_with_len 0 (length copy.network.net.arcs) i 0 (omega arith) in
      omega arith))

  value_read : (k : ℕ) → IsValueOf copy.network k → IsValueOf p k
  value_read k h =
      let greatest = (law.greatest k).0 h.greatest in
      record {
        greatest = greatest;
        least =
            greatest_is_least p.net (one_of p.sources) (one_of p.sinks) k law.is_net
            (terminals_apart p.net p.sources p.sinks law.terminals) greatest;
      }

  copy_solution : (value : ℕ) (ys : List ℕ) → IsSolution copy.network value ys
      → IsSolution p value (carried copy.spots.items ys)
  copy_solution value ys h =
      let agree = law.flows ys h.feasible.fits.count in
      record {
        value_is = value_read value h.value_is;
        feasible = agree.feasible.0 h.feasible;
        valued = (agree.value value).0 h.valued;
        no_loops = agree.loops.0 h.no_loops;
      }

  -- a node and its name lie on the same sides of minimum cuts
  name_within : (v : ℕ) → IsNode p.net v → IsNode copy.network.net (named copy.names.items v)
  name_within v k =
      let nodes = a.net.nodes in
      let at = name_is_node p.net copy.names.items (is_naming p.net copy.names.items a.nodes a.inverse) v k in
      (at.0, omega (arith, at.1))

  node_again : (v : ℕ) → IsNode p.net v → named a.nodes (named copy.names.items v) ≡ v
  node_again v k =
      let least = k.0 in
      let most = k.1 in
      (a.inverse.of_node (v - 1) (omega arith)).2 ∙ omega arith

  name_agrees : (v : ℕ) → IsNode p.net v
      → AgreeOnNode copy.network.net p.net copy.network.sources copy.network.sinks p.sources p.sinks
      (named copy.names.items v) v
  name_agrees v k =
      subst
      (AgreeOnNode copy.network.net p.net copy.network.sources copy.network.sinks p.sources p.sinks
      (named copy.names.items v))
      (node_again v k) (law.nodes (named copy.names.items v) (name_within v k))

  held : (side : Bool) (v : ℕ) → IsNode p.net v
      → ((Y : ℕ → Bool) → IsMinimumCut p.net (one_of p.sources) (one_of p.sinks) Y → Y v ≡ side)
      ↔ ((Y : ℕ → Bool) → IsMinimumCut copy.network.net (one_of copy.network.sources) (one_of copy.network.sinks) Y
      → Y (named copy.names.items v) ≡ side)
  held true v k = let agree = (name_agrees v k).source in (agree.1, agree.0)
  held false v k = let agree = (name_agrees v k).sink in (agree.1, agree.0)

  nearest_read : (side : Bool) (X Y : ℕ → Bool)
      → ((v : ℕ) → IsNode p.net v → Y (named copy.names.items v) ≡ X v)
      → IsNearest copy.network.net (one_of copy.network.sources) (one_of copy.network.sinks) side Y
      → IsNearest p.net (one_of p.sources) (one_of p.sinks) side X
  nearest_read side X Y h n = λ v k.
      let there = n (named copy.names.items v) (name_within v k) in
      let agree = held side v k in
      ((λ e. agree.1 (there.0 (h v k ∙ e))), (λ e. sym (h v k) ∙ there.1 (agree.0 e)))

  -- a node is marked as its name is
  mark_read : (there : List Bool) (v : ℕ) → IsNode p.net v
      → marked there (named copy.names.items v) ≡ marked (map (marked there) copy.names.items) v
  mark_read there zero k = absurd (omega (arith, k.0))
  mark_read there (suc i) k =
      let count = a.inverse.names_count in
      let same : suc i - 1 ≡ i = omega arith in
      ap (λ j. marked there (get_or copy.names.items j 0)) same
      ∙ sym (get_or-map (marked there) copy.names.items i 0 false (omega (arith, k.1)))

  copy_cut : (sink : Bool) (value : ℕ) (there : List Bool) → IsMarkedCut copy.network sink value there
      → IsMarkedCut p sink value (map (marked there) copy.names.items)
  copy_cut sink value there m =
      marked_cut p sink value (map (marked there) copy.names.items) law.is_net law.terminals
      (value_read value m.value_is)
      (nearest_read (not sink) (marked (map (marked there) copy.names.items)) (marked there) (mark_read there)
      m.nearest)

-- Where the problem may have stayed as it is.
module _ (p : Instance) where
  -- a solver works in as many cells
  pub cells_of : (arranged : Option Arranged) → IfSome arranged (IsArrangedIn p)
      → work_cells (solved_of p arranged).net ≡ work_cells p.net
  cells_of None a = refl
  cells_of (Some copy) a = same_cells p copy a

  -- the lists by which flows and marks are read stay within these
  pub spots_of : (arranged : Option Arranged) (n : ℕ) → IfSome arranged (IsArrangedIn p)
      → n ≡ length (solved_of p arranged).net.arcs
      → IfSome arranged (λ copy. All (λ spot. spot < n) copy.spots.items)
  spots_of None n a e = tt
  spots_of (Some copy) n a e =
      subst (λ (k : ℕ). All (λ spot. spot < k) copy.spots.items) (sym e) (spots_within p copy a)

  pub names_of : (arranged : Option Arranged) (n : ℕ) → IfSome arranged (IsArrangedIn p) → n ≡ p.net.nodes
      → IfSome arranged (λ copy. All (λ w. (1 ≤ w) × (w ≤ n)) copy.names.items)
  names_of None n a e = tt
  names_of (Some copy) n a e =
      subst (λ (k : ℕ). All (λ w. (1 ≤ w) × (w ≤ k)) copy.names.items) (sym e)
      (names_within p.net copy.names.items a.nodes a.inverse)

  -- what is found is read as a solution and a cut of the problem
  pub solution_of : (arranged : Option Arranged) (value : ℕ) (ys : List ℕ) → IfSome arranged (IsArrangedIn p)
      → IsSolution (solved_of p arranged) value ys → IsSolution p value (flows_of arranged ys)
  solution_of None value ys a h = h
  solution_of (Some copy) value ys a h = copy_solution p copy a value ys h

  pub cut_of : (arranged : Option Arranged) (sink : Bool) (value : ℕ) (there : List Bool)
      → IfSome arranged (IsArrangedIn p) → IsMarkedCut (solved_of p arranged) sink value there
      → IsMarkedCut p sink value (side_of arranged there)
  cut_of None sink value there a m = m
  cut_of (Some copy) sink value there a m = copy_cut p copy a sink value there m

  pub count_of : (arranged : Option Arranged) (there : List Bool) → IfSome arranged (IsArrangedIn p)
      → length there ≡ p.net.nodes → length (side_of arranged there) ≡ p.net.nodes
  count_of None there a e = e
  count_of (Some copy) there a e = length-map copy.names.items (marked there) ∙ a.inverse.names_count
