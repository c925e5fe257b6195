-- What the numbers of arcs at the nodes say of the numbers at all sets of nodes. The sums are those of a flow of one
-- unit on each arc.
use Rattle.std.proofs.Common.{◌≡◌, ℕ, zero, suc, ◌+◌, ◌-◌, ◌≤◌, Bool, true, false, cond}
use Rattle.std.proofs.Common.{List, [], ◌∷◌, length, replicate, refl, ◌∙◌, sym, arith}
use Rattle.std.specs.List.{count_by}
use Rattle.std.proofs.lemmas.List.Elements.{recursion_from_All, All-weaker}
use Rattle.std.proofs.lemmas.List.Sums.{sum_by-cons}
use Rattle.flow_net.specs.declared.networks.Arc.{Arc}
use Rattle.flow_net.specs.Nets.{Net, IsNode}
use Rattle.flow_net.specs.Limits.{IsNet, IsArcWithin}
use Rattle.flow_net.specs.NodeSets.{just}
use Rattle.flow_net.specs.Flows.{flow_over, out_of, into}
use Rattle.flow_net.specs.Cuts.{leaves}
use Rattle.flow_net.specs.Arcs.{enters}
use Rattle.flow_net.specs.Connectivity.{leaving, crossing}
use Rattle.flow_net.specs.Forests.{entering, IsEven, IsEitherWay}
use Rattle.flow_net.proofs.Complements.{crossing_sum}
use Rattle.flow_net.proofs.Sums.{exchange, over, by_node}

-- a unit on each arc
abbrev pub ones : List Arc → List ℕ
ones arcs = replicate (length arcs) 1

pub flow_over_ones : (p : Arc → Bool) (arcs : List Arc) → flow_over p arcs (ones arcs) ≡ count_by p arcs
flow_over_ones p [] = refl
flow_over_ones p (a ∷ arcs) = let s = flow_over_ones p arcs in rw (sum_by-cons (λ b. cond (p b) 1 0) a arcs, s) refl

-- the units that begin, and that end, at the nodes of a set
pub out_by_node : (net : Net) (X : ℕ → Bool) → IsNet net
    → over net.nodes X (λ v. out_of (just v) net.arcs (ones net.arcs)) ≡ out_of X net.arcs (ones net.arcs)
out_by_node net X n =
    by_node net.nodes X (λ a. a.src) net.arcs (ones net.arcs)
    (recursion_from_All (λ a. (1 ≤ a.src) × (a.src ≤ net.nodes)) net.arcs
    (All-weaker (IsArcWithin net.nodes) (λ a. (1 ≤ a.src) × (a.src ≤ net.nodes)) (λ a w. (w.src_least, w.src_most))
    net.arcs n.arcs_within))

pub into_by_node : (net : Net) (X : ℕ → Bool) → IsNet net
    → over net.nodes X (λ v. into (just v) net.arcs (ones net.arcs)) ≡ into X net.arcs (ones net.arcs)
into_by_node net X n =
    by_node net.nodes X (λ a. a.dst) net.arcs (ones net.arcs)
    (recursion_from_All (λ a. (1 ≤ a.dst) × (a.dst ≤ net.nodes)) net.arcs
    (All-weaker (IsArcWithin net.nodes) (λ a. (1 ≤ a.dst) × (a.dst ≤ net.nodes)) (λ a w. (w.dst_least, w.dst_most))
    net.arcs n.arcs_within))

-- sums over the same nodes, of amounts that agree at each
over_agree_step : (b : Bool) (x y m k : ℕ) → x ≡ y → m ≡ k → m + cond b x 0 ≡ k + cond b y 0
over_agree_step b x y m k h l = grind arith

over_agree : (n : ℕ) (X : ℕ → Bool) (f g : ℕ → ℕ) → ((v : ℕ) → 1 ≤ v → v ≤ n → f v ≡ g v) → over n X f ≡ over n X g
over_agree zero X f g h = refl
over_agree (suc n) X f g h =
    over_agree_step (X (suc n)) (f (suc n)) (g (suc n)) (over n X f) (over n X g)
    (h (suc n) (omega arith) (omega arith)) (over_agree n X f g (λ v l u. h v l (omega arith)))

-- no unit is lost or gained within a set, so as many leave it as enter it
pub balanced_sets : (net : Net) → IsNet net
    → ((v : ℕ) → IsNode net v → leaving net (just v) ≡ entering net (just v)) → IsEitherWay net
balanced_sets net n same X =
    omega (
      arith,
      exchange X net.arcs (ones net.arcs),
      out_by_node net X n,
      into_by_node net X n,
      over_agree net.nodes X (λ v. out_of (just v) net.arcs (ones net.arcs))
          (λ v. into (just v) net.arcs (ones net.arcs)) at_each,
      flow_over_ones (leaves X) net.arcs,
      flow_over_ones (enters X) net.arcs,
    )
  where
    at_each : (v : ℕ) → 1 ≤ v → v ≤ net.nodes
        → out_of (just v) net.arcs (ones net.arcs) ≡ into (just v) net.arcs (ones net.arcs)
    at_each v l u =
        omega (
          arith,
          same v (l, u),
          exchange (just v) net.arcs (ones net.arcs),
          flow_over_ones (leaves (just v)) net.arcs,
          flow_over_ones (enters (just v)) net.arcs,
        )

even_step : (b : Bool) (m k x y : ℕ) → IsEven (m + k) → IsEven (x + y) → IsEven ((m + cond b x 0) + (k + cond b y 0))
even_step true m k x y p q = (p.0 + q.0, omega (arith, p.1, q.1))
even_step false m k x y p q = (p.0, omega (arith, p.1))

-- sums over the same nodes of two amounts that are even together at each
even_over : (n : ℕ) (X : ℕ → Bool) (f g : ℕ → ℕ) → ((v : ℕ) → 1 ≤ v → v ≤ n → IsEven (f v + g v))
    → IsEven (over n X f + over n X g)
even_over zero X f g h = (0, refl)
even_over (suc n) X f g h =
    even_step (X (suc n)) (over n X f) (over n X g) (f (suc n)) (g (suc n))
    (even_over n X f g (λ v l u. h v l (omega arith))) (h (suc n) (omega arith) (omega arith))

even_moved : (o e i l : ℕ) → o + e ≡ i + l → IsEven (l + e) → IsEven (o + i)
even_moved o e i l h p = (i + l - p.0, omega (arith, p.1))

even_as : (a b : ℕ) → a ≡ b → IsEven a → IsEven b
even_as a b e p = (p.0, sym e ∙ p.1)

-- an even number of arcs have exactly one end in each set, if this is so of each node
pub even_sets : (net : Net) → IsNet net → ((v : ℕ) → IsNode net v → IsEven (crossing net (just v))) → (X : ℕ → Bool)
    → IsEven (crossing net X)
even_sets net n even X =
    even_as (flow_over (leaves X) net.arcs units + flow_over (enters X) net.arcs units) (crossing net X)
    (omega (arith, flow_over_ones (leaves X) net.arcs, flow_over_ones (enters X) net.arcs, crossing_sum X net.arcs))
    (even_moved (flow_over (leaves X) net.arcs units) (into X net.arcs units) (flow_over (enters X) net.arcs units)
    (out_of X net.arcs units) (omega (arith, exchange X net.arcs units)) all)
  where
    units : List ℕ
    units = ones net.arcs

    at_each : (v : ℕ) → 1 ≤ v → v ≤ net.nodes → IsEven (out_of (just v) net.arcs units + into (just v) net.arcs units)
    at_each v l u =
        even_moved (out_of (just v) net.arcs units) (flow_over (enters (just v)) net.arcs units)
        (into (just v) net.arcs units) (flow_over (leaves (just v)) net.arcs units) (exchange (just v) net.arcs units)
        (even_as (crossing net (just v))
        (flow_over (leaves (just v)) net.arcs units + flow_over (enters (just v)) net.arcs units)
        (omega (
          arith,
          flow_over_ones (leaves (just v)) net.arcs,
          flow_over_ones (enters (just v)) net.arcs,
          crossing_sum (just v) net.arcs,
        ))
        (even v (l, u)))

    all : IsEven (out_of X net.arcs units + into X net.arcs units)
    all =
        even_as
        (over net.nodes X (λ v. out_of (just v) net.arcs units) + over net.nodes X (λ v. into (just v) net.arcs units))
        (out_of X net.arcs units + into X net.arcs units)
        (omega (arith, out_by_node net X n, into_by_node net X n))
        (even_over net.nodes X (λ v. out_of (just v) net.arcs units) (λ v. into (just v) net.arcs units) at_each)
