-- What the flow lines add up to at each node, and at the sources.
use Rattle.std.proofs.Common.{◌≡◌, ◌≢◌, ℕ, zero, suc, ◌+◌, ◌-◌, ◌≤◌, ◌<◌, Bool, true, false, cond, eqb, ◌||◌, List}
use Rattle.std.proofs.Common.{[]}
use Rattle.std.proofs.Common.{◌∷◌, ◌++◌, length, get_or, set, take, refl, ◌∙◌, sym, ap, subst, inl, inr}
use Rattle.std.proofs.Common.{eq-eqb, sum_by, get_or-set_same, get_or-set_other, length-take, length-append}
use Rattle.std.proofs.Common.{length-set, Option}
use Rattle.std.proofs.Common.{Some, None, MatchOption, arith}
use Rattle.std.specs.List.{All}
use Rattle.std.proofs.lemmas.Bool.{cases_eq, ne_eqb, eqb-true, or_left, or_right}
use Rattle.std.proofs.lemmas.List.{get_or_default, get_or_append_left}
use Rattle.std.proofs.lemmas.List.Elements.{All-take}
use Rattle.std.proofs.lemmas.List.Sums.{sum_by-cons}
use Rattle.flow_net.specs.Nets.{Instance}
use Rattle.flow_net.specs.Limits.{AreDistinct}
use Rattle.flow_net.specs.NodeSets.{one_of, just}
use Rattle.flow_net.specs.MarkedNodes.{marked}
use Rattle.flow_net.proofs.Arrangements.{node_among}
use Rattle.flow_text.specs.SolutionReading.{IsLineWithin}
use Rattle.flow_text.specs.declared.solutions.FlowLine.{FlowLine}
use Rattle.flow_text.specs.declared.limits.TheConstants.{MOST_FLOW_LINES, GREATEST_VALUE}
use Rattle.flow_tools.specs.checking.SolutionFlows.{lines_into, lines_out_of}
use Rattle.flow_tools.specs.checking.LineFlows.{line_flow}
use Rattle.flow_tools.specs.checking.Verdicts.{IsInner, IsBalanced}
use Rattle.flow_tools.specs.checking.FirstFaults.{IsBalancedAt}
use Rattle.flow_tools.specs.checking.FirstFaults.{IsFirstUnbalanced}
use Rattle.flow_tools.specs.checking.NodeSums.{IsCellOf, at_node, AreNodeFlows, HaveOneMore}
use Rattle.flow_tools.specs.checking.NodeSums.{AreEqualUnless, IsFirstUnequal}
use Rattle.flow_tools.proofs.checking.LineSums.{line_flow-most, line_flow-cons, line_flow_agree}

-- ---- cells

-- a cell that is raised, and the others
raised : (cells : List ℕ) (v x k : ℕ) → IsCellOf (length cells) v
    → get_or (set cells (v - 1) (get_or cells (v - 1) 0 + x)) k 0 ≡ get_or cells k 0 + cond (just (k + 1) v) x 0
raised cells v x k at = elim (cases_eq k (v - 1)) [
  | inl here ↦
      let put : get_or (set cells (v - 1) (get_or cells (v - 1) 0 + x)) k 0 ≡ get_or cells (v - 1) 0 + x =
      ap (λ j. get_or (set cells (v - 1) (get_or cells (v - 1) 0 + x)) j 0) here
      ∙ get_or-set_same cells (v - 1) (get_or cells (v - 1) 0 + x) 0 (omega (arith, at.0, at.1)) in
      let cell : get_or cells k 0 ≡ get_or cells (v - 1) 0 = ap (λ j. get_or cells j 0) here in
      let part : cond (just (k + 1) v) x 0 ≡ x =
      ap (λ b. cond b x 0) (eq-eqb v (k + 1) (omega (arith, here, at.0))) in
      omega (arith, put, cell, part)
  | inr other ↦
      let kept = get_or-set_other cells (v - 1) k (get_or cells (v - 1) 0 + x) 0 other in
      let part : cond (just (k + 1) v) x 0 ≡ 0 =
      ap (λ b. cond b x 0) (ne_eqb v (k + 1) (λ s. other (omega (arith, s)))) in
      omega (arith, kept, part)
]

-- the sums with one line more
pub sums_more : (n : ℕ) (lines more : List FlowLine) (line : FlowLine) (into out : List ℕ)
    → IsCellOf (length into) line.dst → IsCellOf (length out) line.src → HaveOneMore lines line more
    → AreNodeFlows n lines into out
    → AreNodeFlows n more (set into (line.dst - 1) (get_or into (line.dst - 1) 0 + line.flow))
    (set out (line.src - 1) (get_or out (line.src - 1) 0 + line.flow))
sums_more n lines more line into out dst src h f = record {
  into_len = length-set into _ _ ∙ f.into_len;
  out_len = length-set out _ _ ∙ f.out_len;
  entering = λ k l.
      raised into line.dst line.flow k dst
      ∙ ap (λ m. m + cond (just (k + 1) line.dst) line.flow 0) (f.entering k l) ∙ sym (h (λ u v. just (k + 1) v));
  leaving = λ k l.
      raised out line.src line.flow k src
      ∙ ap (λ m. m + cond (just (k + 1) line.src) line.flow 0) (f.leaving k l) ∙ sym (h (λ u v. just (k + 1) u));
}

-- a sum over a part of the lines has room for one flow more
pub tally_room : (nodes : ℕ) (p : ℕ → ℕ → Bool) (lines : List FlowLine) (i : ℕ) → All (IsLineWithin nodes) lines
    → length lines ≤ MOST_FLOW_LINES → line_flow p (take i lines) ≤ GREATEST_VALUE
tally_room nodes p lines i w few =
    omega (arith, line_flow-most p nodes (take i lines) (All-take (IsLineWithin nodes) i lines w), length-take i lines)

-- ---- sums over nodes

-- one line more, which passes at most one of two tests
union_step : (b c : Bool) (f m j k : ℕ) → (b ≡ true → c ≡ false) → m ≡ j + k
    → cond (b || c) f 0 + m ≡ (cond b f 0 + j) + (cond c f 0 + k)
union_step b c f m j k apart e = grind arith

-- over two sets apart
union_flow : (P Q : ℕ → ℕ → Bool) (lines : List FlowLine) → ((u v : ℕ) → P u v ≡ true → Q u v ≡ false)
    → line_flow (λ u v. P u v || Q u v) lines ≡ line_flow P lines + line_flow Q lines
union_flow P Q [] apart = refl
union_flow P Q (x ∷ lines) apart =
    rw (line_flow-cons (λ u v. P u v || Q u v) x lines, line_flow-cons P x lines, line_flow-cons Q x lines)
    (union_step (P x.src x.dst) (Q x.src x.dst) x.flow _ _ _ (apart x.src x.dst) (union_flow P Q lines apart))

-- a node that differs from all of a list isn't one of it
pub not_one_of : (ws : List ℕ) (w : ℕ) → ((j : ℕ) → j < length ws → w ≢ get_or ws j 0) → one_of ws w ≡ false
not_one_of [] w h = refl
not_one_of (v ∷ ws) w h =
    both (eqb v w) (one_of ws w) (ne_eqb v w (λ e. h 0 (omega arith) (sym e)))
    (not_one_of ws w (λ j l. h (suc j) (omega arith)))
  where
    both : (b c : Bool) → b ≡ false → c ≡ false → (b || c) ≡ false
    both b c e f = grind arith

-- the test that no line passes
no_flow : (lines : List FlowLine) → line_flow (λ u v. false) lines ≡ 0
no_flow [] = refl
no_flow (x ∷ lines) = rw (line_flow-cons (λ u v. false) x lines) (omega (arith, no_flow lines))

-- a node that differs from all of a list is equal to none of it
apart_step : (ws : List ℕ) (w v : ℕ) → one_of ws w ≡ false → eqb w v ≡ true → one_of ws v ≡ false
apart_step ws w v n e = subst (λ z. one_of ws z ≡ false) (eqb-true w v e) n

-- a test of equality, either way round
pub turned : (w v : ℕ) → eqb w v ≡ just w v
turned w v = elim (cases_eq w v) [
  | inl e ↦ eq-eqb w v e ∙ sym (eq-eqb v w (sym e))
  | inr n ↦ ne_eqb w v n ∙ sym (ne_eqb v w (λ e. n (sym e)))
]

-- what begins, or ends, at the nodes of a list, none twice: `at` picks one of a line's two nodes
pub sum_of_all : (at : ℕ → ℕ → ℕ) (lines : List FlowLine) (f : ℕ → ℕ) (ws : List ℕ)
    → ((v : ℕ) → one_of ws v ≡ true → f v ≡ line_flow (λ a b. just v (at a b)) lines) → AreDistinct ws
    → sum_by f ws ≡ line_flow (λ a b. one_of ws (at a b)) lines
sum_of_all at lines f [] h d = sym (no_flow lines)
sum_of_all at lines f (w ∷ ws) h d =
    let none : one_of ws w ≡ false = not_one_of ws w (λ j l. d 0 (suc j) (omega arith) (omega arith)) in
    let rest = sum_of_all at lines f ws (λ v e. h v (or_right (eqb w v) (one_of ws v) e))
    (λ i j l k. d (suc i) (suc j) (omega arith) (omega arith)) in
    let both = union_flow (λ a b. eqb w (at a b)) (λ a b. one_of ws (at a b)) lines
    (λ a b e. apart_step ws w (at a b) none e) in
    let here = h w (or_left (eqb w w) (one_of ws w) (eq-eqb w w refl)) in
    let same = line_flow_agree (λ a b. eqb w (at a b)) (λ a b. just w (at a b)) lines (λ a b. turned w (at a b)) in
    omega (arith, sum_by-cons f w ws, rest, both, here, same)

-- ---- sums over lists of nodes

-- a node's cells
pub cell_into : (nodes : ℕ) (lines : List FlowLine) (into out : List ℕ) (v : ℕ) → AreNodeFlows nodes lines into out
    → IsCellOf nodes v → at_node into v ≡ lines_into (just v) lines
cell_into nodes lines into out v f at =
    let same : v - 1 + 1 ≡ v = omega (arith, at.0) in
    f.entering (v - 1) (omega (arith, at.0, at.1)) ∙ ap (λ w. lines_into (just w) lines) same

pub cell_out : (nodes : ℕ) (lines : List FlowLine) (into out : List ℕ) (v : ℕ) → AreNodeFlows nodes lines into out
    → IsCellOf nodes v → at_node out v ≡ lines_out_of (just v) lines
cell_out nodes lines into out v f at =
    let same : v - 1 + 1 ≡ v = omega (arith, at.0) in
    f.leaving (v - 1) (omega (arith, at.0, at.1)) ∙ ap (λ w. lines_out_of (just w) lines) same

-- the sums of the cells of nodes, none twice
pub out_at : (n : ℕ) (ws : List ℕ) (lines : List FlowLine) (into out : List ℕ) → All (IsCellOf n) ws → AreDistinct ws
    → AreNodeFlows n lines into out → sum_by (at_node out) ws ≡ lines_out_of (one_of ws) lines
out_at n ws lines into out w d f =
    sum_of_all (λ a b. a) lines (at_node out) ws (λ v e. cell_out n lines into out v f
    (node_among (record { nodes = n; arcs = [] }) ws v w e)) d

pub into_at : (n : ℕ) (ws : List ℕ) (lines : List FlowLine) (into out : List ℕ) → All (IsCellOf n) ws → AreDistinct ws
    → AreNodeFlows n lines into out → sum_by (at_node into) ws ≡ lines_into (one_of ws) lines
into_at n ws lines into out w d f =
    sum_of_all (λ a b. b) lines (at_node into) ws (λ v e. cell_into n lines into out v f
    (node_among (record { nodes = n; arcs = [] }) ws v w e)) d

-- a beginning of a list without repetition has none
pub distinct_front : (xs ys : List ℕ) → AreDistinct (xs ++ ys) → AreDistinct xs
distinct_front xs ys d i j l k e =
    d i j l (omega (arith, length-append xs ys))
    (get_or_append_left xs ys 0 i (omega arith) ∙ e ∙ sym (get_or_append_left xs ys 0 j k))

-- ---- the balance at the nodes

-- the cell of a node is its mark
mark_at : (marks : List Bool) (v : ℕ) → IsCellOf (length marks) v → get_or marks (v - 1) true ≡ marked marks v
mark_at marks zero at = absurd (omega (arith, at.0))
mark_at marks (suc i) at =
    let same : suc i - 1 ≡ i = omega arith in
    let low : i < length marks = omega (arith, at.1) in
    rw same (get_or_default marks i true false low)

-- neither of two
neither : (b c : Bool) → (b || c) ≡ false → (b ≡ false) × (c ≡ false)
neither false c e = (refl, e)
neither true c e = cc

none_of : (b c : Bool) → b ≡ false → c ≡ false → (b || c) ≡ false
none_of b c e f = grind arith

module _ (p : Instance) (lines : List FlowLine) (marks : List Bool) (into out : List ℕ)
    (many : length marks ≡ p.net.nodes) (m : (v : ℕ) → marked marks v ≡ (one_of p.sources v || one_of p.sinks v))
    (f : AreNodeFlows p.net.nodes lines into out) where
  -- where the cells before a place are equal unless marked, each inner node before it is balanced
  equal_at : (k v : ℕ) → AreEqualUnless marks into out k → IsInner p v → v - 1 < k → IsBalancedAt lines v
  equal_at k v h at l =
      let cell : IsCellOf (length marks) v = (at.0.0, omega (arith, at.0.1)) in
      let clear = mark_at marks v cell ∙ m v ∙ none_of (one_of p.sources v) (one_of p.sinks v) at.1 at.2 in
      sym (cell_into p.net.nodes lines into out v f at.0) ∙ h (v - 1) l clear
      ∙ cell_out p.net.nodes lines into out v f at.0

  -- what the cells say of the balance
  pub balance_found : (found : Option ℕ)
      → MatchOption found (AreEqualUnless marks into out (length marks)) (IsFirstUnequal marks into out)
      → MatchOption found (IsBalanced p lines) (IsFirstUnbalanced p lines)
  balance_found None h = λ v at. equal_at (length marks) v h at (omega (arith, many, at.0.0, at.0.1))
  balance_found (Some node) h =
      let at : IsCellOf p.net.nodes node = (h.cell.0, omega (arith, h.cell.1)) in
      let clear = neither (one_of p.sources node) (one_of p.sinks node)
      (sym (m node) ∙ sym (mark_at marks node h.cell) ∙ h.unmarked) in
      record {
        inner = (at, clear.0, clear.1);
        unbalanced = λ e.
            h.unequal
            (cell_into p.net.nodes lines into out node f at ∙ e ∙ sym (cell_out p.net.nodes lines into out node f at));
        least = λ v l inner. equal_at (node - 1) v h.least inner (omega (arith, inner.0.0));
      }
