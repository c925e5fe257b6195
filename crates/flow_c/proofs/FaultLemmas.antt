-- What a refusal and a status tell, that good lists have no fault, and that terminals which are taken are good.
use Rattle.std.proofs.Common.{◌≡◌, ◌<◌, ℕ, zero, suc, ◌⊎◌, List, [], ◌++◌, length, inl, inr, arith}
use Rattle.std.proofs.Common.{refl, sym, subst, rules, ap, ◌∙◌, get_or}
use Rattle.std.proofs.Common.{◌≤◌, ◌∷◌}
use Rattle.std.proofs.lemmas.Grind.{common_steps}
use Rattle.std.proofs.lemmas.List.{get_or-map, length-map}
use Rattle.flow_net.specs.declared.limits.TheConstants.{FEWEST_NODES}
use Rattle.flow_net.specs.Limits.{AreDistinct}
use Rattle.flow_tools.proofs.NodeSumLemmas.{distinct_front}
use Rattle.flow_c.specs.Lists.{from_one, AreTaken}
use Rattle.flow_c.specs.declared.refusals.Refusal.{Refusal}
use Rattle.flow_c.specs.declared.refusals.Refusal.TheVariants.{Nodes, Lengths, BadEnd, Terminal, Memory}
use Rattle.flow_c.specs.Refusals.{HasBadEnd, HasBadTerminal, HasBadTerminals, IsReason, status_number}
use Rattle.flow_c.specs.Refusals.{IsTold, AreWithin, AreArcs, AreEnds}

-- why terminals are refused, where the arcs are good
pub terminals_reason : (L : Type 0) (n : ℕ) (src dst sources sinks : List ℕ) (r : Refusal) → AreArcs L n src dst
    → (r ≡ Memory) ⊎ ((r ≡ Terminal) × (HasBadTerminal n [] sources ⊎ HasBadTerminal n (from_one sources) sinks))
    → IsReason L n src dst sources sinks r
terminals_reason L n src dst sources sinks r arcs h = elim h [
  | inl memory ↦ subst (IsReason L n src dst sources sinks) (sym memory) arcs
  | inr bad ↦ subst (IsReason L n src dst sources sinks) (sym bad.0) (arcs.nodes_least, inr (inr bad.1))
]

-- where the lists have to have more lengths, and have them, they are refused for the same reason
pub reason_more : (L M : Type 0) (n : ℕ) (src dst sources sinks : List ℕ) (r : Refusal) → (M → L) → M
    → IsReason L n src dst sources sinks r → IsReason M n src dst sources sinks r
reason_more L M n src dst sources sinks Nodes less more h = h
reason_more L M n src dst sources sinks Lengths less more h = λ m. h (less m)
reason_more L M n src dst sources sinks BadEnd less more h = h
reason_more L M n src dst sources sinks Terminal less more h = h
reason_more L M n src dst sources sinks Memory less more h = record {
  nodes_least = h.nodes_least;
  nodes_most = h.nodes_most;
  lengths = more;
  src_within = h.src_within;
  dst_within = h.dst_within;
}

-- the status of a refusal tells its reason
pub told_by : (L B : Type 0) (n : ℕ) (src dst sources sinks : List ℕ) (r : Refusal)
    → (FEWEST_NODES ≤ n → HasBadTerminals n sources sinks → B)
    → IsReason L n src dst sources sinks r → IsTold L n src dst B (status_number r)
told_by L B n src dst sources sinks Nodes bad h = search rules
told_by L B n src dst sources sinks Lengths bad h = search rules
told_by L B n src dst sources sinks BadEnd bad h = search rules
told_by L B n src dst sources sinks Terminal bad h = let b = bad h.0 h.1 in search rules
told_by L B n src dst sources sinks Memory bad h = search rules

-- no refusal has the status of a success
pub never_none : (r : Refusal) → status_number r ≡ 0 → ⊥
never_none Nodes e = omega (arith, e)
never_none Lengths e = omega (arith, e)
never_none BadEnd e = omega (arith, e)
never_none Terminal e = omega (arith, e)
never_none Memory e = omega (arith, e)

no_bad_end : (n : ℕ) (src dst : List ℕ) → length dst ≡ length src → AreWithin n src → AreWithin n dst
    → HasBadEnd n src dst → ⊥
no_bad_end n src dst same a b bad = elim bad.2 [
  | inl high ↦ let low = a bad.0 0 bad.1 in omega (arith, high, low)
  | inr high ↦ let at = bad.1 in let low = b bad.0 0 (omega (arith, same, at)) in omega (arith, high, low)
]

no_bad_terminal : (n : ℕ) (before given : List ℕ) → AreWithin n given → AreDistinct (before ++ from_one given)
    → HasBadTerminal n before given → ⊥
no_bad_terminal n before given a distinct bad = elim bad [
  | inl out ↦ let low = a out.0 0 out.1 in let high = out.2 in omega (arith, high, low)
  | inr two ↦ distinct two.0 two.1 two.2 two.3 two.4
]

no_bad_terminals : (n : ℕ) (sources sinks : List ℕ) → AreEnds n sources sinks → HasBadTerminals n sources sinks → ⊥
no_bad_terminals n sources sinks g bad = elim bad [
  | inl e ↦ let some = g.some_source in omega (arith, e, some)
  | inr rest ↦ elim rest [
    | inl e ↦ let some = g.some_sink in omega (arith, e, some)
    | inr two ↦ elim two [
      | inl a ↦
          no_bad_terminal n [] sources g.sources_within (distinct_front (from_one sources)
          (from_one sinks) g.distinct) a
      | inr b ↦ no_bad_terminal n (from_one sources) sinks g.sinks_within g.distinct b
    ]
  ]
]

-- good lists are refused for want of memory alone
pub good_lists : (L B : Type 0) (n k : ℕ) (src dst : List ℕ) → (L → length dst ≡ length src)
    → IsTold L n src dst B k → AreArcs L n src dst → (B → ⊥) → (k ≡ 0) ⊎ (k ≡ 5)
good_lists L B n zero src dst same told arcs good = inl refl
good_lists L B n (suc zero) src dst same told arcs good = elim (told.nodes refl) [
  | inl low ↦ let least = arcs.nodes_least in absurd (omega (arith, low, least))
  | inr high ↦ let most = arcs.nodes_most in absurd (omega (arith, high, most))
]
good_lists L B n (suc (suc zero)) src dst same told arcs good = absurd (told.lengths refl arcs.lengths)
good_lists L B n (suc (suc (suc zero))) src dst same told arcs good =
    absurd (no_bad_end n src dst (same arcs.lengths) arcs.src_within arcs.dst_within (told.ends refl))
good_lists L B n (suc (suc (suc (suc zero)))) src dst same told arcs good =
    absurd (good (told.terminals refl))
good_lists L B n (suc (suc (suc (suc (suc zero))))) src dst same told arcs good = inr refl
good_lists L B n (suc (suc (suc (suc (suc (suc k)))))) src dst same told arcs good =
    let most = told.most in absurd (omega (arith, most))

-- so where they are refused, it is for want of memory
pub good_refused : (L : Type 0) (n : ℕ) (src dst sources sinks : List ℕ) (r : Refusal) → (L → length dst ≡ length src)
    → IsReason L n src dst sources sinks r → AreArcs L n src dst → AreEnds n sources sinks
    → (status_number r ≡ 0) ⊎ (status_number r ≡ 5)
good_refused L n src dst sources sinks r same h arcs ends =
    good_lists L (HasBadTerminals n sources sinks) n (status_number r) src dst same
    (told_by L _ n src dst sources sinks r (λ _ bad. bad) h) arcs (no_bad_terminals n sources sinks ends)

-- the first two nodes are terminals of whatever network
pub first_two : (n : ℕ) → FEWEST_NODES ≤ n → AreEnds n (0 ∷ []) (1 ∷ [])
first_two n least = grind (arith, common_steps)

-- so they aren't bad
pub no_bad_two : (n : ℕ) → FEWEST_NODES ≤ n → HasBadTerminals n (0 ∷ []) (1 ∷ []) → ⊥
no_bad_two n least = no_bad_terminals n (0 ∷ []) (1 ∷ []) (first_two n least)

-- the nodes of a list that are taken are nodes
taken_within : (n : ℕ) (before given taken : List ℕ) → AreTaken n before given taken → AreWithin n given
taken_within n before given taken h = λ i d l.
    let count = ap length h.all ∙ length-map given (λ v. suc v) in
    let at = ap (λ vs. get_or vs i (suc d)) h.all ∙ get_or-map (λ v. suc v) given i d (suc d) l in
    let most = (h.within i (suc d) (omega (arith, count, l))).1 in omega (arith, at, most)

-- sources and sinks that are taken are terminals
pub taken_ends : (n : ℕ) (sources sinks s t : List ℕ) → 0 < length sources → 0 < length sinks
    → AreTaken n [] sources s → AreTaken n s sinks t → AreEnds n sources sinks
taken_ends n sources sinks s t some_source some_sink a b = record {
  some_source = some_source;
  some_sink = some_sink;
  sources_within = taken_within n [] sources s a;
  sinks_within = taken_within n s sinks t b;
  distinct = rw (a.all, b.all) at b.distinct;
}
