-- How many arcs leave and enter each node, and what that says of sets of nodes.
use Rattle.std.proofs.Common.{◌≡◌, ◌≢◌, ℕ, ◌+◌, ◌-◌, ◌*◌, ◌≤◌, ◌<◌, Bool, true, false, cond, not, ◌&&◌, eqb}
use Rattle.std.proofs.Common.{List, length, take, drop, set, get_or, refl, ◌∙◌, sym, ap, inl, inr, eq-eqb}
use Rattle.std.proofs.Common.{get_or-set_same, get_or-set_other, length-take, length-drop, arith}
use Rattle.std.specs.Prelude.{slice_index}
use Rattle.std.specs.List.{count_by}
use Rattle.std.proofs.lemmas.Bool.{cases_eq, ne_eqb}
use Rattle.std.proofs.lemmas.List.{take_all}
use Rattle.std.proofs.lemmas.List.Elements.{All-take}
use Rattle.std.proofs.lemmas.List.Sums.{count_by_more_no, count_by_more_yes, sum_by_more, sum_by-take-drop}
use Rattle.flow_net.specs.declared.networks.Arc.{Arc}
use Rattle.flow_net.specs.Nets.{Net, IsNode}
use Rattle.flow_net.specs.Arcs.{no_arc, enters}
use Rattle.flow_net.specs.Limits.{IsNet, IsArcWithin}
use Rattle.flow_net.specs.NodeSets.{just}
use Rattle.flow_net.specs.Cuts.{leaves}
use Rattle.flow_net.specs.Connectivity.{leaving, IsProper}
use Rattle.flow_net.specs.Forests.{entering, IsEven}
use Rattle.flow_net.proofs.Complements.{count_by_agree, leaves_others, crossing_sum}
use Rattle.flow_net.proofs.Connections.{just_self}
use Rattle.flow_net.proofs.NodeCounts.{even_sets}
use Rattle.flow_solve.specs.Forests.{AreDegrees, AreEven, IsBothWays}

-- ---- degrees

-- a self-loop leaves no set
loop_stays : (a : Arc) (X : ℕ → Bool) → a.src ≡ a.dst → leaves X a ≡ false
loop_stays a X e = neither (X a.src) (X a.dst) (ap X e)
  where
    neither : (p q : Bool) → p ≡ q → (p && not q) ≡ false
    neither p q h = grind arith

module _ (p : Arc → Bool) (arcs : List Arc) (i : ℕ) (l : i < length arcs) where
  -- what one more arc between two nodes adds at a cell
  cell_more : (v w : ℕ) (cells : List ℕ) → w < length cells → slice_index cells v ≡ count_by p (take i arcs)
      → (v ≡ w → p (get_or arcs i no_arc) ≡ true) → (v ≢ w → p (get_or arcs i no_arc) ≡ false)
      → slice_index (set cells w (slice_index cells w + 1)) v ≡ count_by p (take (i + 1) arcs)
  cell_more v w cells k e on off = elim (cases_eq v w) [
    | inl h ↦
        let here : get_or (set cells w (get_or cells w 0 + 1)) w 0 ≡ get_or cells w 0 + 1 =
        get_or-set_same cells w (get_or cells w 0 + 1) 0 k in
        let at : get_or (set cells w (get_or cells w 0 + 1)) v 0 ≡ get_or cells v 0 + 1 = rw h here in
        omega (arith, at, e, count_by_more_yes p arcs i no_arc l (on h))
    | inr n ↦
        get_or-set_other cells w v (get_or cells w 0 + 1) 0 n ∙ e ∙ sym (count_by_more_no p arcs i no_arc l (off n))
  ]

-- an arc leaves the set of its first node alone
leaves_just : (a : Arc) (v : ℕ) → a.src ≢ a.dst
    → (v ≡ a.src → leaves (just v) a ≡ true) × (v ≢ a.src → leaves (just v) a ≡ false)
leaves_just a v ne = (
  (λ e. (let p : eqb a.src v ≡ true = eq-eqb a.src v (sym e) in
      let q : eqb a.dst v ≡ false = ne_eqb a.dst v (λ f. ne (sym e ∙ sym f)) in
      rw (p, q) refl)),
  λ n. (let p : eqb a.src v ≡ false = ne_eqb a.src v (λ f. n (sym f)) in rw p refl),
)

-- one arc more has been counted, where counts are those of the first arcs
abbrev pub AreCounted : ℕ → List Arc → ℕ → List ℕ → Type 0
AreCounted nodes arcs i counts =
    (v : ℕ) → v < nodes → slice_index counts v ≡ count_by (leaves (just (v + 1))) (take i arcs)

module _ (nodes : ℕ) (arcs : List Arc) (i : ℕ) (a : Arc) (counts : List ℕ) (l : i < length arcs)
    (at : a ≡ get_or arcs i no_arc) (counted : AreCounted nodes arcs i counts) where
  -- a self-loop adds to no degree
  pub counted_loop : a.src ≡ a.dst → AreCounted nodes arcs (i + 1) counts
  counted_loop e = λ v h.
      counted v h
      ∙ sym (count_by_more_no (leaves (just (v + 1))) arcs i no_arc l
      (ap (leaves (just (v + 1))) (sym at) ∙ loop_stays a (just (v + 1)) e))

  -- any other arc adds 1 to the degree of the node that it leaves
  pub counted_more : length counts ≡ nodes → IsArcWithin nodes a → a.src ≢ a.dst
      → AreCounted nodes arcs (i + 1) (set counts (a.src - 1) (slice_index counts (a.src - 1) + 1))
  counted_more size w ne = λ v h.
      (let src_least = w.src_least in
      let src_most = w.src_most in
      let j = leaves_just a (v + 1) ne in
      cell_more (leaves (just (v + 1))) arcs i l v (a.src - 1) counts (omega arith) (counted v h)
      (λ e. ap (leaves (just (v + 1))) (sym at) ∙ j.0 (omega arith))
      (λ n. ap (leaves (just (v + 1))) (sym at) ∙ j.1 (λ f. n (omega arith))))

-- ---- a node alone, and all but a node

-- beside each node there is another, so the set of one node is neither empty nor all, nor is the set of the others
another : (net : Net) (v : ℕ) → IsNet net → (w : ℕ) × (1 ≤ w) × (w ≤ net.nodes) × (w ≢ v)
another net v n = elim (cases_eq v 1) [
  | inl e ↦ (2, omega arith, n.nodes_least, (λ f. absurd (omega arith)))
  | inr d ↦ (1, omega arith, (let two = n.nodes_least in omega arith), (λ f. d (sym f)))
]

just_other : (v w : ℕ) → w ≢ v → just v w ≡ false
just_other v w n = ne_eqb w v n

pub node_is_proper : (net : Net) (v : ℕ) → IsNet net → IsNode net v → IsProper net (just v)
node_is_proper net v n at =
    let w = another net v n in
    record { inside = (v, at.0, at.1, just_self v); outside = (w.0, w.1, w.2, just_other v w.0 w.3) }

pub others_are_proper : (net : Net) (v : ℕ) → IsNet net → IsNode net v → IsProper net (λ w. not (just v w))
others_are_proper net v n at =
    let w = another net v n in
    record {
      inside = (w.0, w.1, w.2, (let e = just_other v w.0 w.3 in rw e refl));
      outside = (v, at.0, at.1, (let e = just_self v in rw e refl));
    }

-- what leaves all but a node enters the node
pub leaving_others : (net : Net) (v : ℕ) → leaving net (λ w. not (just v w)) ≡ entering net (just v)
leaving_others net v = count_by_agree (leaves (λ w. not (just v w))) (enters (just v)) net.arcs (leaves_others (just v))

-- a degree is what leaves a proper set
pub out_proper : (net : Net) (out into : List ℕ) (i k : ℕ) → IsNet net → i < net.nodes
    → AreDegrees net out into → slice_index out i ≡ k
    → (X : ℕ → Bool) × IsProper net X × (leaving net X ≡ k)
out_proper net out into i k n l d e =
    (just (i + 1), node_is_proper net (i + 1) n (omega arith, omega arith), sym (d.leaving i l) ∙ e)

pub into_proper : (net : Net) (out into : List ℕ) (i k : ℕ) → IsNet net → i < net.nodes
    → AreDegrees net out into → slice_index into i ≡ k
    → (X : ℕ → Bool) × IsProper net X × (leaving net X ≡ k)
into_proper net out into i k n l d e = (
  (λ w. not (just (i + 1) w)),
  others_are_proper net (i + 1) n (omega arith, omega arith),
  leaving_others net (i + 1) ∙ sym (d.entering i l) ∙ e,
)

-- a node's degrees in its cells
pub degree_at : (net : Net) (v : ℕ) (out into : List ℕ) → IsNode net v → AreDegrees net out into
    → slice_index out (v - 1) ≡ leaving net (just v)
degree_at net v out into at d =
    let low = at.0 in
    let high = at.1 in
    d.leaving (v - 1) (omega arith) ∙ ap (λ w. leaving net (just w)) (omega arith)

pub degree_into : (net : Net) (v : ℕ) (out into : List ℕ) → IsNode net v → AreDegrees net out into
    → slice_index into (v - 1) ≡ entering net (just v)
degree_into net v out into at d =
    let low = at.0 in
    let high = at.1 in
    d.entering (v - 1) (omega arith) ∙ ap (λ w. entering net (just w)) (omega arith)

-- ---- networks both ways

-- so many arcs and the next one more are opposite to so many others
pub opposite_more : (X : ℕ → Bool) (arcs others : List Arc) (i : ℕ) → i < length arcs → i < length others
    → (get_or arcs i no_arc).src ≡ (get_or others i no_arc).dst
    → (get_or arcs i no_arc).dst ≡ (get_or others i no_arc).src
    → count_by (leaves X) (take i others) ≡ count_by (enters X) (take i arcs)
    → count_by (leaves X) (take (i + 1) others) ≡ count_by (enters X) (take (i + 1) arcs)
opposite_more X arcs others i l m e f h =
    omega (
      arith,
      h,
      sum_by_more (λ a. cond (leaves X a) 1 0) others i no_arc m,
      sum_by_more (λ a. cond (enters X a) 1 0) arcs i no_arc l,
      ap {B = ℕ} (λ (b : Bool). cond b 1 0) (same (ap X e) (ap X f)),
    )
  where
    same : {p q r s : Bool} → p ≡ s → q ≡ r → (r && not s) ≡ (q && not p)
    same e f = cc

-- the arcs are a half and those opposite to it
pub both_ways : (net : Net) (h : ℕ) → IsNet net → length net.arcs ≡ 2 * h
    → ((X : ℕ → Bool) → count_by (leaves X) (take h (drop h net.arcs)) ≡ count_by (enters X) (take h net.arcs))
    → IsBothWays net
both_ways net h n even opposite = record {
  one_way = record { nodes = net.nodes; arcs = take h net.arcs };
  limits = record {
    nodes_least = n.nodes_least;
    nodes_most = n.nodes_most;
    arcs_most = omega (arith, n.arcs_most, length-take h net.arcs);
    arcs_within = All-take (IsArcWithin net.nodes) h net.arcs n.arcs_within;
  };
  nodes = refl;
  crossed = λ X. omega (
    arith,
    sum_by-take-drop (λ a. cond (leaves X a) 1 0) net.arcs h,
    ap (count_by (leaves X)) (take_all h (drop h net.arcs) (omega (arith, even, length-drop h net.arcs))),
    opposite X,
    crossing_sum X (take h net.arcs),
  );
}

-- an even number leaves each set if an even number leaves each node
pub both_even : (net : Net) → IsBothWays net → ((v : ℕ) → IsNode net v → IsEven (leaving net (just v))) → AreEven net
both_even net both even X =
    let sets = even_sets both.one_way both.limits
    (λ v at. (let d = even v (at.0, omega (arith, at.1, both.nodes)) in (d.0, sym (both.crossed (just v)) ∙ d.1))) X in
    (sets.0, both.crossed X ∙ sets.1)
