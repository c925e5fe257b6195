-- Flows across cuts.
use Rattle.std.proofs.Common.{◌≡◌, ℕ, zero, suc, ◌+◌, ◌≤◌, ◌<◌, Bool, true, false, cond, not, ◌&&◌, List, [], ◌∷◌, refl}
use Rattle.std.proofs.Common.{sym, arith}
use Rattle.std.specs.List.{All, AllByRecursion, AllZip}
use Rattle.flow_net.specs.declared.networks.Arc.{Arc}
use Rattle.flow_net.specs.Nets.{Net}
use Rattle.flow_net.specs.Limits.{IsNet, IsArcWithin}
use Rattle.flow_net.specs.NodeSets.{just}
use Rattle.flow_net.specs.Flows.{flow_over, out_of, into, IsFeasible, HasValue, IsGreatest}
use Rattle.flow_net.specs.Cuts.{cap_over, leaves, IsCut, capacity, IsMinimumCut}
use Rattle.flow_net.specs.Arcs.{enters}
use Rattle.flow_net.specs.Residual.{IsClosed}
use Rattle.flow_net.proofs.Zips.{zip_from_fits, closed_by_arcs, closed_by_halves, IsClosedByArcs}
use Rattle.std.proofs.lemmas.List.Elements.{recursion_from_All, All-weaker}
use Rattle.flow_net.proofs.Sums.{exchange, over, by_node}

balance_step : {x s : Bool} (a b c d f g : ℕ) → a + b ≡ c + d → (s ≡ true → x ≡ true) → (x ≡ true → s ≡ false → f ≡ g)
    → (a + cond x f 0) + (b + cond s g 0) ≡ (c + cond x g 0) + (d + cond s f 0)
balance_step a b c d f g h k e = grind arith

-- two amounts that agree at the nodes of X outside s
over_balance : (n : ℕ) (X s : ℕ → Bool) (f g : ℕ → ℕ) → ((v : ℕ) → s v ≡ true → X v ≡ true)
    → ((v : ℕ) → 1 ≤ v → v ≤ n → X v ≡ true → s v ≡ false → f v ≡ g v)
    → over n X f + over n s g ≡ over n X g + over n s f
over_balance zero X s f g h e = refl
over_balance (suc n) X s f g h e =
    balance_step _ _ _ _ (f (suc n)) (g (suc n)) (over_balance n X s f g h (λ v l u. e v l (omega arith))) (h (suc n))
    (e (suc n) (omega arith) (omega arith))

sources_in_range : (n : ℕ) (arcs : List Arc) → All (IsArcWithin n) arcs
    → AllByRecursion (λ a. (1 ≤ a.src) × (a.src ≤ n)) arcs
sources_in_range n arcs h =
    recursion_from_All (λ a. (1 ≤ a.src) × (a.src ≤ n)) arcs
    (All-weaker (IsArcWithin n) (λ a. (1 ≤ a.src) × (a.src ≤ n)) (λ a w. (w.src_least, w.src_most)) arcs h)

targets_in_range : (n : ℕ) (arcs : List Arc) → All (IsArcWithin n) arcs
    → AllByRecursion (λ a. (1 ≤ a.dst) × (a.dst ≤ n)) arcs
targets_in_range n arcs h =
    recursion_from_All (λ a. (1 ≤ a.dst) × (a.dst ≤ n)) arcs
    (All-weaker (IsArcWithin n) (λ a. (1 ≤ a.dst) × (a.dst ≤ n)) (λ a w. (w.dst_least, w.dst_most)) arcs h)

-- where one test holds wherever another does: where the one fails, the other fails
pub contrary : (b c : Bool) → (b ≡ true → c ≡ true) → not c ≡ true → not b ≡ true
contrary true c f e = let yes' = f refl in absurd (cc)
contrary false c f e = refl

-- a node of a set from which all of another stay away
pub apart : (b c : Bool) → (b ≡ true → c ≡ false) → c ≡ true → b ≡ false
apart b c h k = grind arith

-- what leaves a cut's nodes less what enters them is what leaves the sources less what enters them
cut_balance : (net : Net) (s t X : ℕ → Bool) (xs : List ℕ) → IsNet net → IsFeasible net s t xs → IsCut s t X
    → out_of X net.arcs xs + into s net.arcs xs ≡ into X net.arcs xs + out_of s net.arcs xs
cut_balance net s t X xs r f c =
    let agree : (v : ℕ) → 1 ≤ v → v ≤ net.nodes → X v ≡ true → s v ≡ false
    → out_of (just v) net.arcs xs ≡ into (just v) net.arcs xs =
    λ v l u i o. sym (f.conserved v l u o (apart (t v) (X v) (c.sinks v) i)) in
    let e : over net.nodes X (λ v. out_of (just v) net.arcs xs) + over net.nodes s (λ v. into (just v) net.arcs xs)
    ≡ over net.nodes X (λ v. into (just v) net.arcs xs) + over net.nodes s (λ v. out_of (just v) net.arcs xs) =
    over_balance net.nodes X s (λ v. out_of (just v) net.arcs xs) (λ v. into (just v) net.arcs xs) c.sources
    agree in
    let so = by_node net.nodes X (λ a. a.src) net.arcs xs (sources_in_range net.nodes net.arcs r.arcs_within) in
    let si = by_node net.nodes X (λ a. a.dst) net.arcs xs (targets_in_range net.nodes net.arcs r.arcs_within) in
    let oo = by_node net.nodes s (λ a. a.src) net.arcs xs (sources_in_range net.nodes net.arcs r.arcs_within) in
    let oi = by_node net.nodes s (λ a. a.dst) net.arcs xs (targets_in_range net.nodes net.arcs r.arcs_within) in
    omega arith

-- the flow that leaves a cut is the value and what enters the cut
pub across : (net : Net) (s t X : ℕ → Bool) (xs : List ℕ) → IsNet net → IsFeasible net s t xs → IsCut s t X
    → out_of s net.arcs xs + flow_over (enters X) net.arcs xs ≡ into s net.arcs xs + flow_over (leaves X) net.arcs xs
across net s t X xs r f c = omega (arith, cut_balance net s t X xs r f c, exchange X net.arcs xs)

over_le_step : (b : Bool) (x c m k : ℕ) → x ≤ c → m ≤ k → cond b x 0 + m ≤ cond b c 0 + k
over_le_step b x c m k h l = grind arith

-- a flow within the capacities is at most they are
pub flow_over-le-cap_over : (p : Arc → Bool) (arcs : List Arc) (xs : List ℕ) → AllZip (λ a x. x ≤ a.cap) arcs xs
    → flow_over p arcs xs ≤ cap_over p arcs
flow_over-le-cap_over p [] [] h = omega arith
flow_over-le-cap_over p [] (x ∷ xs) h = omega arith
flow_over-le-cap_over p (a ∷ arcs) [] h = absurd h
flow_over-le-cap_over p (a ∷ arcs) (x ∷ xs) h = over_le_step (p a) x a.cap _ _ h.0 (flow_over-le-cap_over p arcs xs h.1)

-- no flow passes a cut's capacity
pub weak_duality : (net : Net) (s t X : ℕ → Bool) (xs : List ℕ) → IsNet net → IsFeasible net s t xs → IsCut s t X
    → out_of s net.arcs xs ≤ capacity net X + into s net.arcs xs
weak_duality net s t X xs r f c =
    omega (arith, across net s t X xs r f c, flow_over-le-cap_over (leaves X) net.arcs xs (zip_from_fits net xs f.fits))

-- out of a closed set each arc is full, and into it each is empty
full_step : (p q : Bool) (x c m k : ℕ) → x ≤ c → (p ≡ true → x < c → q ≡ true) → m ≡ k
    → cond (p && not q) x 0 + m ≡ cond (p && not q) c 0 + k
full_step p q x c m k h l e = grind arith

empty_step : (p q : Bool) (x m : ℕ) → (q ≡ true → 0 < x → p ≡ true) → m ≡ 0 → cond (q && not p) x 0 + m ≡ 0
empty_step p q x m l e = grind arith

pub closed_full : (X : ℕ → Bool) (arcs : List Arc) (xs : List ℕ) → AllZip (λ a x. x ≤ a.cap) arcs xs
    → IsClosedByArcs arcs xs X → flow_over (leaves X) arcs xs ≡ cap_over (leaves X) arcs
closed_full X [] [] w h = refl
closed_full X [] (x ∷ xs) w h = refl
closed_full X (a ∷ arcs) [] w h = absurd h
closed_full X (a ∷ arcs) (x ∷ xs) w h =
    full_step (X a.src) (X a.dst) x a.cap _ _ w.0 h.0.0 (closed_full X arcs xs w.1 h.1)

pub closed_empty : (X : ℕ → Bool) (arcs : List Arc) (xs : List ℕ) → IsClosedByArcs arcs xs X
    → flow_over (enters X) arcs xs ≡ 0
closed_empty X [] [] h = refl
closed_empty X [] (x ∷ xs) h = refl
closed_empty X (a ∷ arcs) [] h = absurd h
closed_empty X (a ∷ arcs) (x ∷ xs) h = empty_step (X a.src) (X a.dst) x _ h.0.1 (closed_empty X arcs xs h.1)

-- a closed cut: the flow's value is its capacity
pub strong_duality : (net : Net) (s t X : ℕ → Bool) (xs : List ℕ) → IsNet net → IsFeasible net s t xs → IsCut s t X
    → IsClosed net xs X → HasValue net s xs (capacity net X)
strong_duality net s t X xs r f c h =
    omega (
      arith,
      across net s t X xs r f c,
      closed_full X net.arcs xs (zip_from_fits net xs f.fits) (closed_by_arcs net xs X f.fits.count h),
      closed_empty X net.arcs xs (closed_by_arcs net xs X f.fits.count h),
    )

-- then the flow is greatest, and the cut is minimum
pub closed_greatest : (net : Net) (s t X : ℕ → Bool) (xs : List ℕ) → IsNet net → IsFeasible net s t xs → IsCut s t X
    → IsClosed net xs X → IsGreatest net s t (capacity net X)
closed_greatest net s t X xs r f c h = record {
  reached = (xs, f, strong_duality net s t X xs r f c h);
  most = λ ys g. weak_duality net s t X ys r g c;
}

pub closed_minimum : (net : Net) (s t X : ℕ → Bool) (xs : List ℕ) → IsNet net → IsFeasible net s t xs → IsCut s t X
    → IsClosed net xs X → IsMinimumCut net s t X
closed_minimum net s t X xs r f c h = record {
  cut = c;
  least = λ Y d. omega (arith, strong_duality net s t X xs r f c h, weak_duality net s t Y xs r f d);
}

module _ (x c m k : ℕ) (h : x ≤ c) (l : m ≤ k) where
  -- the other way: where the value is a cut's capacity, the cut is closed
  tight_full : (p q : Bool) → cond (p && not q) x 0 + m ≡ cond (p && not q) c 0 + k → p ≡ true → x < c → q ≡ true
  tight_full p q e i r = grind arith

  tight_rest : (b : Bool) → cond b x 0 + m ≡ cond b c 0 + k → m ≡ k
  tight_rest b e = grind arith

tight_empty : (p q : Bool) (x m : ℕ) → cond (q && not p) x 0 + m ≡ 0 → q ≡ true → 0 < x → p ≡ true
tight_empty p q x m e i r = grind arith

pub tight_closed : (X : ℕ → Bool) (arcs : List Arc) (xs : List ℕ) → AllZip (λ a x. x ≤ a.cap) arcs xs
    → flow_over (leaves X) arcs xs ≡ cap_over (leaves X) arcs → flow_over (enters X) arcs xs ≡ 0
    → IsClosedByArcs arcs xs X
tight_closed X [] [] w l e = tt
tight_closed X [] (x ∷ xs) w l e = absurd w
tight_closed X (a ∷ arcs) [] w l e = absurd w
tight_closed X (a ∷ arcs) (x ∷ xs) w l e =
    let le = flow_over-le-cap_over (leaves X) arcs xs w.1 in (
      (tight_full x a.cap _ _ w.0 le (X a.src) (X a.dst) l, tight_empty (X a.src) (X a.dst) x _ e),
      tight_closed X arcs xs w.1 (tight_rest x a.cap _ _ w.0 le (leaves X a) l) (omega (arith, e)),
    )

pub value_closed : (net : Net) (s t X : ℕ → Bool) (xs : List ℕ) → IsNet net → IsFeasible net s t xs → IsCut s t X
    → HasValue net s xs (capacity net X) → IsClosed net xs X
value_closed net s t X xs r f c v =
    let le = flow_over-le-cap_over (leaves X) net.arcs xs (zip_from_fits net xs f.fits) in
    let b = across net s t X xs r f c in
    closed_by_halves net xs X
    (tight_closed X net.arcs xs (zip_from_fits net xs f.fits) (omega (arith, le, b, v)) (omega (arith, le, b, v)))
