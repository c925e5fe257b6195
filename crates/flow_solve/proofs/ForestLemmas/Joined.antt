-- Flows between a node and the nodes that a forest has come to.
use Rattle.std.proofs.Common.{◌≡◌, ℕ, ◌+◌, ◌*◌, ◌≤◌, ◌<◌, Bool, true, false, not}
use Rattle.std.proofs.Common.{List, [], ◌∷◌, length, refl, ◌∙◌, sym, ap, subst, inl, inr, arith}
use Rattle.std.specs.List.{All, AllByRecursion}
use Rattle.std.proofs.lemmas.Bool.{cases_Bool, false≢true, ne_eqb}
use Rattle.std.proofs.lemmas.List.Elements.{recursion_from_All}
use Rattle.flow_net.specs.declared.networks.Arc.{Arc}
use Rattle.flow_net.specs.Nets.{Net, IsNode}
use Rattle.flow_net.specs.Limits.{IsNet}
use Rattle.flow_net.specs.NodeSets.{just}
use Rattle.flow_net.specs.Flows.{flow_over, IsFeasible}
use Rattle.flow_net.specs.Cuts.{cap_over, leaves, IsCut}
use Rattle.flow_net.specs.Arcs.{enters}
use Rattle.flow_net.specs.Residual.{tail_of, head_of, residual, pushed, IsClosed}
use Rattle.flow_net.proofs.Connections.{just_self, cap_counts}
use Rattle.flow_net.proofs.Cuts.{across, contrary, flow_over-le-cap_over, closed_full, closed_empty}
use Rattle.flow_net.proofs.Zips.{zip_from_fits, closed_by_arcs}
use Rattle.flow_net.proofs.Pushes.{IsMoved, held_none, held_all, moved_nothing, moved_on, moved_before}
use Rattle.flow_net.proofs.Pushes.{moved_feasible, moved_value, other_node}
use Rattle.flow_net.proofs.Complements.{count_by_agree, leaves_others, enters_others}
use Rattle.flow_solve.specs.declared.residual.half_arcs.Direction.{Direction}
use Rattle.flow_solve.specs.declared.residual.half_arcs.Direction.TheVariants.{Forwards, Backwards}
use Rattle.flow_solve.specs.residual.HalfArcs.{near_end, far_end, IsClosedFor}
use Rattle.flow_solve.specs.Forests.{IsReached, IsRaised, parted, IsBelow}

-- ---- sums over arcs by tests that agree

flow_over_agree : (p q : Arc → Bool) (arcs : List Arc) (xs : List ℕ) → ((a : Arc) → p a ≡ q a)
    → flow_over p arcs xs ≡ flow_over q arcs xs
flow_over_agree p q [] xs e = refl
flow_over_agree p q (a ∷ arcs) [] e = refl
flow_over_agree p q (a ∷ arcs) (x ∷ xs) e = let s = flow_over_agree p q arcs xs e in rw (e a, s) refl

cap_over_agree : (p q : Arc → Bool) (arcs : List Arc) → ((a : Arc) → p a ≡ q a) → cap_over p arcs ≡ cap_over q arcs
cap_over_agree p q [] e = refl
cap_over_agree p q (a ∷ arcs) e = let s = cap_over_agree p q arcs e in rw (e a, s) refl

units : (net : Net) → All (λ a. a.cap ≡ 1) net.arcs → AllByRecursion (λ a. a.cap ≡ 1) net.arcs
units net h = recursion_from_All (λ a. a.cap ≡ 1) net.arcs h

-- ---- what a raised flow shows

-- its value is at most the number of any set that parts the node from the others
pub raised_below : (dir : Direction) (net : Net) (w : ℕ) (done : ℕ → Bool) (xs : List ℕ) (v : ℕ) → IsNet net
    → All (λ a. a.cap ≡ 1) net.arcs → IsRaised dir net w done xs v → IsBelow dir net w done v
raised_below Forwards net w done xs v n one r X c =
    omega (
      arith,
      r.sent,
      across net (just w) done X xs n r.feasible c,
      flow_over-le-cap_over (leaves X) net.arcs xs (zip_from_fits net xs r.feasible.fits),
      cap_counts (leaves X) net.arcs (units net one),
    )
raised_below Backwards net w done xs v n one r X c =
    omega (
      arith,
      r.sent,
      across net (just w) done X xs n r.feasible c,
      flow_over-le-cap_over (enters X) net.arcs xs (zip_from_fits net xs r.feasible.fits),
      cap_counts (enters X) net.arcs (units net one),
    )

-- where no half-arc with a residual capacity leads out of such a set, its number is the value
others_closed : (net : Net) (xs : List ℕ) (X : ℕ → Bool) → IsClosedFor Backwards net xs X
    → IsClosed net xs (λ v. not (X v))
others_closed net xs X c h l i r = contrary (X (head_of net h)) (X (tail_of net h)) (λ e. c h l e r) i

pub raised_parted : (dir : Direction) (net : Net) (w : ℕ) (done : ℕ → Bool) (xs : List ℕ) (v : ℕ) (X : ℕ → Bool)
    → IsNet net → All (λ a. a.cap ≡ 1) net.arcs → IsRaised dir net w done xs v → IsCut (just w) done X
    → IsClosedFor dir net xs X → parted dir net X ≡ v
raised_parted Forwards net w done xs v X n one r c closed =
    let z = zip_from_fits net xs r.feasible.fits in
    let b = closed_by_arcs net xs X r.feasible.fits.count closed in
    omega (
      arith,
      r.sent,
      across net (just w) done X xs n r.feasible c,
      closed_full X net.arcs xs z b,
      closed_empty X net.arcs xs b,
      cap_counts (leaves X) net.arcs (units net one),
    )
raised_parted Backwards net w done xs v X n one r c closed =
    let z = zip_from_fits net xs r.feasible.fits in
    let Y : ℕ → Bool = λ u. not (X u) in
    let b = closed_by_arcs net xs Y r.feasible.fits.count (others_closed net xs X closed) in
    let full = sym (flow_over_agree (leaves Y) (enters X) net.arcs xs (leaves_others X)) ∙ closed_full Y net.arcs xs z b
    ∙ cap_over_agree (leaves Y) (enters X) net.arcs (leaves_others X) in
    let empty = sym (flow_over_agree (enters Y) (leaves X) net.arcs xs (enters_others X))
    ∙ closed_empty Y net.arcs xs b in
    omega (
      arith,
      r.sent,
      across net (just w) done X xs n r.feasible c,
      full,
      empty,
      cap_counts (enters X) net.arcs (units net one),
    )

-- such a set is neither empty nor all, and so are the other nodes
pub parted_reached : (dir : Direction) (net : Net) (w r k : ℕ) (done X : ℕ → Bool) → IsNode net w → IsNode net r
    → done r ≡ true → IsCut (just w) done X → parted dir net X ≡ k → IsReached net k
parted_reached Forwards net w r k done X n m d c e = (
  X,
  record {
    inside = (w, n.0, n.1, c.sources w (just_self w));
    outside = (r, m.0, m.1, c.sinks r d);
  },
  e,
)
parted_reached Backwards net w r k done X n m d c e = (
  (λ v. not (X v)),
  record {
    inside = (r, m.0, m.1, ap not (c.sinks r d));
    outside = (w, n.0, n.1, ap not (c.sources w (just_self w)));
  },
  count_by_agree (leaves (λ v. not (X v))) (enters X) net.arcs (leaves_others X) ∙ e,
)

-- ---- from node to node

-- the flow where more nodes are done
pub balanced_more : (net : Net) (s done next : ℕ → Bool) (xs : List ℕ) → IsFeasible net s done xs
    → ((v : ℕ) → s v ≡ true → next v ≡ true) → ((v : ℕ) → done v ≡ true → next v ≡ true)
    → IsFeasible net next next xs
balanced_more net s done next xs f a b = record {
  fits = f.fits;
  conserved = λ v i j o _. f.conserved v i j (not_in s v o a) (not_in done v o b);
}
  where
    not_in : (X : ℕ → Bool) (v : ℕ) → next v ≡ false → ((u : ℕ) → X u ≡ true → next u ≡ true) → X v ≡ false
    not_in X v o h = elim (cases_Bool (X v)) [
      | inl e ↦ absurd (false≢true (sym o ∙ h v e))
      | inr e ↦ e
    ]

-- ---- a unit under way

-- one unit has gone from a node to another, forwards, or is wanted at the one and taken at the other, backwards
abbrev pub IsUnderWay : Direction → Net → (ℕ → Bool) → (ℕ → Bool) → List ℕ → ℕ → ℕ → List ℕ → Type 0
IsUnderWay Forwards net s t xs w x ys = IsMoved net s t xs 1 w x ys
IsUnderWay Backwards net s t xs w x ys = IsMoved net s t xs 1 x w ys

module _ (net : Net) (s t : ℕ → Bool) (xs : List ℕ) (x : ℕ) where
  pub way_begins : (dir : Direction) → IsFeasible net s t xs → IsUnderWay dir net s t xs x x xs
  way_begins Forwards f = moved_nothing net s t xs 1 x f
  way_begins Backwards f = moved_nothing net s t xs 1 x f

  pub way_back : (dir : Direction) (w h : ℕ) (ys : List ℕ) → h < 2 * length net.arcs → 1 ≤ residual net ys h
      → far_end dir net h ≡ w → IsUnderWay dir net s t xs w x ys
      → IsUnderWay dir net s t xs (near_end dir net h) x (pushed ys h 1)
  way_back Forwards w h ys l r e m =
      moved_before net s t xs 1 x h ys l r (subst (λ z. IsMoved net s t xs 1 z x ys) (sym e) m)
  way_back Backwards w h ys l r e m =
      moved_on net s t xs 1 x h ys l r (subst (λ z. IsMoved net s t xs 1 x z ys) (sym e) m)

pub way_ends : (dir : Direction) (net : Net) (w x : ℕ) (done : ℕ → Bool) (xs ys : List ℕ) (v : ℕ) → done w ≡ false
    → done x ≡ true → IsRaised dir net w done xs v → IsUnderWay dir net (just w) done xs w x ys
    → IsRaised dir net w done ys (v + 1)
way_ends dir net w x done xs ys v o i r m = ends dir r m
  where
    other : just w x ≡ false
    other = ne_eqb x w (λ e. false≢true (sym o ∙ sym (ap done e) ∙ i))

    ends : (d : Direction) → IsRaised d net w done xs v → IsUnderWay d net (just w) done xs w x ys
        → IsRaised d net w done ys (v + 1)
    ends Forwards r m = record {
      node = r.node;
      feasible = moved_feasible net (just w) done xs 1 w x ys (just_self w) i m;
      sent = omega (arith, r.sent, moved_value net (just w) done xs 1 w x ys (just_self w) other m);
    }
    ends Backwards r m = record {
      node = r.node;
      feasible = record {
        fits = m.fits;
        conserved = λ u a b s t.
            omega (
              arith,
              m.conserved u a b s t,
              held_none (just u) x 1 (other_node done x u i t),
              held_none (just u) w 1 (other_node (just w) w u (just_self w) s),
            );
      };
      sent = omega (arith, r.sent, m.value, held_all (just w) w 1 (just_self w), held_none (just w) x 1 other);
    }
