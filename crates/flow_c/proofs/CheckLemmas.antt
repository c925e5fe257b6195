-- What the sums at the nodes say of a flow.
use Rattle.std.proofs.Common.{◌≡◌, ℕ, ◌+◌, ◌-◌, ◌*◌, ◌^◌, ◌≤◌, ◌<◌, ℤ, pos, ◌-ℤ◌, Bool, List, ◌∙◌, sym, subst, inl, inr}
use Rattle.std.proofs.Common.{Option, Some, None, MatchOption, arith, rules}
use Rattle.std.proofs.lemmas.Bool.{cases_lt}
use Rattle.std.proofs.lemmas.Int.{ints}
use Rattle.std.specs.Int.{cast_unsigned, w128}
use Rattle.flow_net.specs.declared.limits.TheConstants.{MOST_ARCS_BOTH_WAYS, GREATEST_CAPACITY}
use Rattle.flow_net.specs.Nets.{Net, Instance}
use Rattle.flow_net.specs.Limits.{IsNet}
use Rattle.flow_net.specs.NodeSets.{one_of, just}
use Rattle.flow_net.specs.Flows.{Fits, IsFeasible, HasValue, IsGreatest}
use Rattle.flow_net.specs.GreatestFlows.{HasGreatestValue}
use Rattle.flow_net.proofs.Cuts.{flow_over-le-cap_over}
use Rattle.flow_net.proofs.Zips.{zip_from_fits}
use Rattle.flow_text.specs.declared.solutions.FlowLine.{FlowLine}
use Rattle.flow_tools.specs.checking.ArcShares.{Carries}
use Rattle.flow_tools.specs.checking.LineFlows.{line_flow}
use Rattle.flow_tools.specs.checking.NodeSums.{AreNodeFlows}
use Rattle.flow_tools.specs.checking.Verdicts.{IsBalanced}
use Rattle.flow_tools.specs.checking.FirstFaults as lines
use Rattle.flow_tools.proofs.ArcSums.{cap_over-most}
use Rattle.flow_c.specs.Checks.{AreBalanced, IsFirstUnbalanced, IsDifference, HasWord, AreSumsOf}
use Rattle.flow_c.specs.Checks.{IsFirstOver, IsChecked}

-- what lines say of the balance, a flow that carries them says too
lines_told : (p : Instance) (ls : List FlowLine) (xs : List ℕ) → Carries p.net ls xs → (found : Option ℕ)
    → MatchOption found (IsBalanced p ls) (lines.IsFirstUnbalanced p ls)
    → MatchOption found (AreBalanced p xs) (IsFirstUnbalanced p xs)
lines_told p ls xs c None h = λ v at. c (λ src dst. just v dst) ∙ h v at ∙ sym (c (λ src dst. just v src))
lines_told p ls xs c (Some node) h = record {
  inner = h.inner;
  unbalanced = λ e. h.unbalanced (sym (c (λ src dst. just node dst)) ∙ e ∙ c (λ src dst. just node src));
  least = λ v l at. c (λ src dst. just v dst) ∙ h.least v l at ∙ sym (c (λ src dst. just v src));
}

-- what is known of a flow when it was put on the arcs of a network, and its sums at the nodes were looked at
pub record IsPut (p : Instance) (xs into out : List ℕ) (found : Option ℕ) : Type 0 where
  pub fits : Fits p.net xs
  pub sums : AreSumsOf p.net xs into out
  pub balance : MatchOption found (AreBalanced p xs) (IsFirstUnbalanced p xs)

-- a flow that was put on the arcs, of which its lines say whether it is balanced
pub balance_told : (p q : Instance) (xs flows into out : List ℕ) (found : Option ℕ) → q ≡ p
    → (flows ≡ xs) × AreSumsOf q.net xs into out → Fits q.net flows
    → ((ls : List FlowLine) → AreNodeFlows q.net.nodes ls into out
    → MatchOption found (IsBalanced q ls) (lines.IsFirstUnbalanced q ls)) → IsPut p xs into out found
balance_told p q xs flows into out found same put fits told =
    subst (λ r. IsPut r xs into out found) same (record {
      fits = subst (Fits q.net) put.0 fits;
      sums = put.1;
      balance = lines_told q put.1.0 xs put.1.1 found (told put.1.0 put.1.2);
    })

-- a flow that fits and is balanced is feasible
pub balanced_feasible : (p : Instance) (xs : List ℕ) → Fits p.net xs → AreBalanced p xs
    → IsFeasible p.net (one_of p.sources) (one_of p.sinks) xs
balanced_feasible p xs f b = record { fits = f; conserved = λ v l h i o. b v ((l, h), i, o) }

-- the sum over lines that a flow carries
pub carried_most : (net : Net) (ls : List FlowLine) (xs : List ℕ) (p : ℕ → ℕ → Bool) → IsNet net → Fits net xs
    → Carries net ls xs → line_flow p ls ≤ MOST_ARCS_BOTH_WAYS * GREATEST_CAPACITY
carried_most net ls xs p n f c =
    omega (
      arith,
      c p,
      flow_over-le-cap_over (λ a. p a.src a.dst) net.arcs xs (zip_from_fits net xs f),
      cap_over-most (λ a. p a.src a.dst) net n,
      n.arcs_most,
    )

-- a difference of natural numbers in two's complement
pub word_of : (out in' o i : ℕ) (z : ℤ) → out ≡ o → in' ≡ i → z ≡ pos o -ℤ pos i → o < 2 ^ 127 → i < 2 ^ 127
    → IsDifference out in' (cast_unsigned w128 z)
word_of out in' o i z f g e a b = elim (cases_lt o i) [
  | inl less ↦ inr (omega (arith, ints, e, f, g, a, b, less))
  | inr more ↦ inl (omega (arith, ints, e, f, g, a, b, more))
]

-- the value of a flow of the greatest value is a natural number
greatest_told : (net : Net) (s t : ℕ → Bool) (xs : List ℕ) (w : ℕ) → HasWord net s xs w → w < 2 ^ 128
    → HasGreatestValue net s t xs → HasValue net s xs w × IsGreatest net s t w
greatest_told net s t xs w word below g =
    let same : g.0 ≡ w = elim word [
      | inl e ↦ omega (arith, e, g.1)
      | inr e ↦ absurd (omega (arith, e, g.1, below))
    ] in
    (subst (HasValue net s xs) same g.1, subst (IsGreatest net s t) same g.2)

-- the four verdicts
module _ (p : Instance) (xs : List ℕ) where
  pub over_checked : (i : ℕ) → IsFirstOver p.net xs i → IsChecked p xs 2 i
  over_checked i first = search rules

  pub unbalanced_checked : (v : ℕ) → Fits p.net xs → IsFirstUnbalanced p xs v → IsChecked p xs 3 (v - 1)
  unbalanced_checked v fits first =
      let least = first.inner.0.0 in let back : v ≡ v - 1 + 1 = omega (arith, least) in
      let told = subst (IsFirstUnbalanced p xs) back first in search rules

  pub smaller_checked : (w : ℕ) → IsFeasible p.net (one_of p.sources) (one_of p.sinks) xs
      → HasWord p.net (one_of p.sources) xs w → (HasGreatestValue p.net (one_of p.sources) (one_of p.sinks) xs → ⊥)
      → IsChecked p xs 1 w
  smaller_checked w feasible word less = search rules

  pub greatest_checked : (w : ℕ) → IsFeasible p.net (one_of p.sources) (one_of p.sinks) xs
      → HasWord p.net (one_of p.sources) xs w → w < 2 ^ 128
      → HasGreatestValue p.net (one_of p.sources) (one_of p.sinks) xs → IsChecked p xs 0 w
  greatest_checked w feasible word below has =
      let value = greatest_told p.net (one_of p.sources) (one_of p.sinks) xs w word below has in search rules
