-- What the sums over the arcs show of a flow.
use Rattle.std.proofs.Common.{◌≡◌, ℕ, zero, suc, ◌+◌, ◌-◌, ◌*◌, ◌%◌, ◌≤◌, ◌<◌, Bool, true, false, cond, eqb, nat_le, ◌&&◌}
use Rattle.std.proofs.Common.{List, [], ◌∷◌, length, get_or, take, refl, ◌∙◌, ap, subst, add-one, below_more, arith}
use Rattle.std.proofs.Common.{IsTrue}
use Rattle.std.proofs.lemmas.List.Elements.{All-weaker, recursion_from_All}
use Rattle.flow_net.specs.declared.limits.TheConstants.{GREATEST_CAPACITY}
use Rattle.flow_net.specs.declared.networks.Arc.{Arc}
use Rattle.flow_net.specs.Nets.{Net, arc_at}
use Rattle.flow_net.specs.Arcs.{no_arc}
use Rattle.flow_net.specs.Limits.{IsNet, IsArcWithin, AreTerminals}
use Rattle.flow_net.specs.NodeSets.{one_of, just}
use Rattle.flow_net.specs.Flows.{flow_over, Fits, IsGreatest}
use Rattle.flow_net.specs.Cuts.{IsCut, capacity}
use Rattle.flow_net.specs.LeastCuts.{IsLeastCapacity}
use Rattle.flow_net.specs.Residual.{IsClosed}
use Rattle.flow_net.proofs.Arrangements.{flow_over_agree, node_among}
use Rattle.flow_net.proofs.Cuts.{strong_duality, closed_greatest, closed_minimum}
use Rattle.flow_net.proofs.Zips.{AllZip-from, arc_within, closed_by_halves}
use Rattle.flow_solve.specs.declared.levels.testing.TheConstants.{EVEN, INNER, MARKED, SINK, SOURCE}
use Rattle.flow_solve.specs.Solving.{IsFlow}
use Rattle.flow_solve.specs.levels.Testing.{balance_at, is_source, in_set, AreRoles, AreSums, IsTight}

-- ---- sums

-- over one arc more
over_more : (p : Arc → Bool) (arcs : List Arc) (xs : List ℕ) (i : ℕ) → i < length arcs → length xs ≡ length arcs
    → flow_over p (take (suc i) arcs) (take (suc i) xs)
    ≡ flow_over p (take i arcs) (take i xs) + cond (p (get_or arcs i no_arc)) (get_or xs i 0) 0
over_more p [] xs i l e = absurd (omega arith)
over_more p (a ∷ arcs) [] i l e = absurd (omega arith)
over_more p (a ∷ arcs) (x ∷ xs) zero l e = omega arith
over_more p (a ∷ arcs) (x ∷ xs) (suc i) l e =
    let rest = over_more p arcs xs i (omega arith) (omega arith) in
    omega (arith, rest)

-- over all arcs
over_all : (p : Arc → Bool) (arcs : List Arc) (xs : List ℕ) → length xs ≡ length arcs
    → flow_over p (take (length arcs) arcs) (take (length arcs) xs) ≡ flow_over p arcs xs
over_all p [] xs e = refl
over_all p (a ∷ arcs) [] e = absurd (omega arith)
over_all p (a ∷ arcs) (x ∷ xs) e = let rest = over_all p arcs xs (omega arith) in omega (arith, rest)

few_more : (b : Bool) (out o x i : ℕ) → o ≡ cond b x 0 → x ≤ GREATEST_CAPACITY → out ≤ i * GREATEST_CAPACITY
    → out + o ≤ (i + 1) * GREATEST_CAPACITY
few_more true out o x i e l h = omega arith
few_more false out o x i e l h = omega arith

-- the flow x of an arc is taken from its source's balance and added to its target's, o and n are what of it leaves the
-- sources and enters them, and it is tight where that is said
pub record IsAdded (roles before after : List ℕ) (a : Arc) (x o n : ℕ) (tight : Bool) : Type 0 where
  pub size : length after ≡ length before
  pub balanced : (v : ℕ) → 1 ≤ v → get_or roles (v - 1) 0 % MARKED ≡ INNER
      → balance_at after (v - 1) + cond (eqb a.src v) x 0 ≡ balance_at before (v - 1) + cond (eqb a.dst v) x 0
  pub left : o ≡ cond (is_source roles a.src) x 0
  pub entered : n ≡ cond (is_source roles a.dst) x 0
  pub loop : a.src ≡ a.dst → x ≡ 0
  pub closed : IsTrue tight → IsTight (in_set roles) a x

both : (p q : Bool) → p && q ≡ true → (p ≡ true) × (q ≡ true)
both p q h = grind arith

-- what the balances and the sums are after one arc more
pub sums_more : {net : Net} {xs before after roles : List ℕ} {i out inward o n : ℕ} {is_closed tight : Bool} → IsNet net
    → Fits net xs → i < length net.arcs → IsAdded roles before after (arc_at net i) (get_or xs i 0) o n tight
    → AreSums net xs roles before i out inward is_closed
    → AreSums net xs roles after (i + 1) (out + o) (inward + n) (is_closed && tight)
sums_more {net} {xs} {roles = roles} {i = i} {out = out} {inward = inward} {o = o} {n = n} {is_closed = c} {tight = t}
    is_net fits l m old =
    let a = arc_at net i in let x = get_or xs i 0 in
    let most : x ≤ GREATEST_CAPACITY = omega (arith, fits.within i l, (arc_within net i is_net l).cap_fits) in
    let more : (p : Arc → Bool) → flow_over p (take (i + 1) net.arcs) (take (i + 1) xs)
    ≡ flow_over p (take i net.arcs) (take i xs) + cond (p a) x 0 =
    λ p. ap (λ j. flow_over p (take j net.arcs) (take j xs)) (add-one i) ∙ over_more p net.arcs xs i l fits.count in
    record {
      size = m.size ∙ old.size;
      balanced = λ v low high inner.
          omega (
            arith,
            old.balanced v low high inner,
            m.balanced v low inner,
            more (λ b. just v b.src),
            more (λ b. just v b.dst),
          );
      leaves = omega (arith, old.leaves, m.left, more (λ b. is_source roles b.src));
      enters = omega (arith, old.enters, m.entered, more (λ b. is_source roles b.dst));
      leaves_most = few_more (is_source roles a.src) out o x i m.left most old.leaves_most;
      enters_most = few_more (is_source roles a.dst) inward n x i m.entered most old.enters_most;
      loops = below_more (λ j. (arc_at net j).src ≡ (arc_at net j).dst → get_or xs j 0 ≡ 0) i old.loops m.loop;
      closed = λ h.
          let parts = both c t h in
          below_more (λ j. IsTight (in_set roles) (arc_at net j) (get_or xs j 0)) i (old.closed parts.0)
          (m.closed parts.1);
    }

-- ---- roles

role_cases : (a b : Bool) (r : ℕ) → (a ≡ true → r ≡ SOURCE) → (b ≡ true → r ≡ SINK)
    → (a ≡ false → b ≡ false → r % MARKED ≡ INNER) → eqb r SOURCE ≡ a
role_cases true b r h k j = rw (h refl) refl
role_cases false true r h k j = rw (k refl) refl
role_cases false false r h k j = let inner = j refl refl in grind arith

source_by_role : (net : Net) (s t roles : List ℕ) (v : ℕ) → AreRoles net s t roles → 1 ≤ v → v ≤ net.nodes
    → is_source roles v ≡ one_of s v
source_by_role net s t roles v r low high =
    role_cases (one_of s v) (one_of t v) (get_or roles (v - 1) 0) (r.sources v low high) (r.sinks v low high)
    (r.inner v low high)

-- a sum over the sources by their roles
by_role : {net : Net} {s t roles : List ℕ} (e : Arc → ℕ) (xs : List ℕ) → IsNet net → AreRoles net s t roles
    → ((a : Arc) → IsArcWithin net.nodes a → (1 ≤ e a) × (e a ≤ net.nodes))
    → flow_over (λ a. is_source roles (e a)) net.arcs xs ≡ flow_over (λ a. one_of s (e a)) net.arcs xs
by_role {net} {s} {t} {roles} e xs n r within =
    let Same : Arc → Type 0 = λ a. is_source roles (e a) ≡ one_of s (e a) in
    flow_over_agree (λ a. is_source roles (e a)) (λ a. one_of s (e a)) net.arcs xs
    (recursion_from_All Same net.arcs
    (All-weaker (IsArcWithin net.nodes) Same
    (λ a w. let e = within a w in source_by_role net s t roles _ r e.0 e.1) net.arcs n.arcs_within))

-- ---- all arcs

-- with even balances the flow is feasible
pub feasible : {net : Net} {s t xs roles balances : List ℕ} {out inward k : ℕ} {is_closed : Bool} → IsNet net
    → Fits net xs → AreRoles net s t roles → AreSums net xs roles balances (length net.arcs) out inward is_closed
    → ((p : ℕ) → p < length roles → get_or roles p 0 % MARKED ≡ INNER → balance_at balances p ≡ EVEN)
    → out ≡ k + inward → IsFlow net s t xs k
feasible {net} {s} {t} {xs} {roles} n fits r sums even value = record {
  feasible = record {
    fits = fits;
    conserved = λ v low high e f.
        let inner = r.inner v low high e f in
        omega (
          arith,
          even (v - 1) (omega (arith, r.size)) inner,
          sums.balanced v low high inner,
          over_all (λ b. just v b.src) net.arcs xs fits.count,
          over_all (λ b. just v b.dst) net.arcs xs fits.count,
        );
  };
  value =
      omega (
        arith,
        value,
        sums.leaves,
        sums.enters,
        over_all (λ b. is_source roles b.src) net.arcs xs fits.count,
        over_all (λ b. is_source roles b.dst) net.arcs xs fits.count,
        by_role (λ b. b.src) xs n r (λ a w. (w.src_least, w.src_most)),
        by_role (λ b. b.dst) xs n r (λ a w. (w.dst_least, w.dst_most)),
      );
  no_loops = sums.loops;
}

-- the set is a cut
cut_by_roles : (net : Net) (s t roles : List ℕ) → AreTerminals net s t → AreRoles net s t roles
    → IsCut (one_of s) (one_of t) (in_set roles)
cut_by_roles net s t roles a r = record {
  sources = λ v i.
      let node = node_among net s v a.sources_within i in
      ap (λ k. nat_le MARKED k) (r.sources v node.0 node.1 i);
  sinks = λ v i.
      let node = node_among net t v a.sinks_within i in
      ap (λ k. nat_le MARKED k) (r.sinks v node.0 node.1 i);
}

-- a set with the sources and without the sinks that no half-arc with a residual capacity leaves shows that the flow is
-- maximum
pub maximum : {net : Net} {s t xs roles balances : List ℕ} {out inward k : ℕ} {is_closed : Bool} → IsNet net
    → AreTerminals net s t → AreRoles net s t roles
    → AreSums net xs roles balances (length net.arcs) out inward is_closed → is_closed ≡ true → IsFlow net s t xs k
    → IsGreatest net (one_of s) (one_of t) k × IsLeastCapacity net (one_of s) (one_of t) k
maximum {net} {s} {t} {xs} {roles} {k = k} n terminals r sums holds f =
    let X = in_set roles in
    let cut = cut_by_roles net s t roles terminals r in
    let closed : IsClosed net xs X =
    closed_by_halves net xs X (AllZip-from (λ a x. IsTight X a x) net.arcs xs f.feasible.fits.count (sums.closed holds)) in
    let tight = strong_duality net (one_of s) (one_of t) X xs n f.feasible cut closed in
    let same : capacity net X ≡ k = let a = tight in let b = f.value in omega arith in
    let least = closed_minimum net (one_of s) (one_of t) X xs n f.feasible cut closed in (
      subst (IsGreatest net (one_of s) (one_of t)) same
          (closed_greatest net (one_of s) (one_of t) X xs n f.feasible cut closed),
      record {
        reached = (X, cut, same);
        least = λ Y c. let l = least.least Y c in omega (arith, same);
      },
    )
