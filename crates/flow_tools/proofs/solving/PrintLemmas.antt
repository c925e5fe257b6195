-- Which line is the next.
use Rattle.std.proofs.Common.{◌≡◌, ◌+◌, ◌<◌, ℕ, Bool, true, false, List, [], ◌∷◌, ◌++◌, length, filter, get_or}
use Rattle.std.proofs.Common.{slice_index, refl, sym, append-nil, ◌∙◌, arith, Option}
use Rattle.std.specs.List.{flat_map, zip, range_with_len}
use Rattle.std.proofs.lemmas.Slice.Zip.{get_or-zip, length-zip}
use Rattle.std.proofs.lemmas.List.FromFn.{get_or-range_with_len}
use Rattle.flow_net.specs.Nets.{Net, arc_at}
use Rattle.flow_net.specs.Arcs.{no_arc}
use Rattle.flow_net.specs.declared.networks.Arc.{Arc}
use Rattle.flow_net.specs.Cuts.{leaves}
use Rattle.flow_text.specs.Output.{flow_line, line_of}
use Rattle.flow_text.specs.ArcLines.{arc_line}
use Rattle.flow_tools.specs.solving.Sides.{nodes_inside}
use Rattle.flow_text.specs.Output.{solve_text, cut_text}
use Rattle.flow_tools.specs.streams.Sending.{Stops}
use Rattle.flow_tools.proofs.streams.SendLemmas.{stops_early}
use Rattle.flow_tools.proofs.solving.LineLemmas.{line_if, line_if-true, line_if-false}

module _ (net : Net) (flows : List ℕ) (same : length flows ≡ length net.arcs) where
  -- each arc has a flow
  pub length-arc_flows : length (zip net.arcs flows) ≡ length net.arcs
  length-arc_flows = let e = length-zip net.arcs flows in omega arith

  -- the line of an arc's flow is that of the arc and the flow at its place
  pub flow_line_is : (i : ℕ) (arc : Arc) (line : List ℕ) → i < length net.arcs → arc ≡ arc_at net i
      → line ≡ flow_line (arc, slice_index flows i)
      → line ≡ flow_line (get_or (zip net.arcs flows) i (no_arc, 0))
  flow_line_is i arc line within e is =
      let within_flows : i < length flows = omega arith in
      rw (get_or-zip net.arcs flows i (no_arc, 0) within within_flows, ← e) is

-- a node's line
abbrev pub node_line : ℕ → List ℕ
node_line node = line_of "n" (node ∷ [])

module _ (p : ℕ → Bool) (n i : ℕ) (within : i < n) where
  -- a node inside has its line, and a node outside none
  pub node_line_is : (line : List ℕ) → true ≡ p (i + 1) → line ≡ node_line (i + 1)
      → line ≡ line_if p node_line (get_or (range_with_len 1 n) i 0)
  node_line_is line inside is =
      let e : get_or (range_with_len 1 n) i 0 ≡ i + 1 = get_or-range_with_len 1 n i 0 within ∙ omega arith in
      rw e (is ∙ line_if-true p node_line (i + 1) inside)

  pub no_node_line : false ≡ p (i + 1) → line_if p node_line (get_or (range_with_len 1 n) i 0) ≡ []
  no_node_line outside =
      let e : get_or (range_with_len 1 n) i 0 ≡ i + 1 = get_or-range_with_len 1 n i 0 within ∙ omega arith in
      rw e (line_if-false p node_line (i + 1) outside)

module _ (p : Arc → Bool) (net : Net) (i : ℕ) (arc : Arc) where
  -- an arc that passes the test has its line, and another none
  pub arc_line_is : (line : List ℕ) → arc ≡ arc_at net i → true ≡ p arc → line ≡ arc_line arc
      → line ≡ line_if p arc_line (arc_at net i)
  arc_line_is line e inside is = rw (← e) (is ∙ line_if-true p arc_line arc inside)

  pub no_arc_line : arc ≡ arc_at net i → false ≡ p arc → line_if p arc_line (arc_at net i) ≡ []
  no_arc_line e outside = rw (← e) (line_if-false p arc_line arc outside)

-- the text of the value alone
pub value_text_is : (net : Net) (value : ℕ) (flows : List ℕ)
    → line_of "s" (value ∷ []) ≡ solve_text true net value flows
unfolding solve_text
value_text_is net value flows = sym (append-nil (line_of "s" (value ∷ [])))

-- The whole texts, from their first line.
module _ (net : Net) (value : ℕ) (first : List ℕ) (begun : first ≡ line_of "s" (value ∷ [])) where
  -- the value and the flows
  pub solution_text_is : (flows : List ℕ)
      → first ++ flat_map flow_line (zip net.arcs flows) ≡ solve_text false net value flows
  unfolding solve_text
  solution_text_is flows = rw begun refl

  module _ (X : ℕ → Bool) where
    pub without_arcs_is : (arcs : Bool) → arcs ≡ false
        → first ++ flat_map node_line (nodes_inside net X) ≡ cut_text arcs net value X
    unfolding cut_text
    without_arcs_is arcs e =
        rw (e, begun) (sym (append-nil (line_of "s" (value ∷ []) ++ flat_map node_line (nodes_inside net X))))

    pub with_arcs_is : (arcs : Bool) → arcs ≡ true
        → (first ++ flat_map node_line (nodes_inside net X)) ++ flat_map arc_line (filter (leaves X) net.arcs)
        ≡ cut_text arcs net value X
    unfolding cut_text
    with_arcs_is arcs e = rw (e, begun) refl

    -- a stream fails at some node
    pub nodes_stop : (arcs : Bool) (a b : Option (List ℕ))
        → Stops a b (first ++ flat_map node_line (nodes_inside net X)) → Stops a b (cut_text arcs net value X)
    nodes_stop true a b s = stops_early a b _ _ _ s (sym (with_arcs_is true refl))
    nodes_stop false a b s = rw (← without_arcs_is false refl) s
