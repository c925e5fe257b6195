-- What a flow that carries the lines of a solution says of them.
use Rattle.std.proofs.Common.{◌≡◌, ℕ, ◌+◌, Bool, List, ◌∙◌, sym, ap}
use Rattle.std.proofs.Common.{subst, inl, inr, pos, ◌-ℤ◌, arith}
use Rattle.std.proofs.lemmas.Bool.{cases_eq}
use Rattle.std.proofs.lemmas.Int.{ints}
use Rattle.flow_net.specs.Nets.{Net, Instance}
use Rattle.flow_net.specs.Limits.{IsNet, IsProblem}
use Rattle.flow_net.specs.NodeSets.{one_of, just}
use Rattle.flow_net.specs.Flows.{Fits, IsFeasible, HasValue, IsGreatest}
use Rattle.flow_net.specs.GreatestFlows.{HasGreatestValue}
use Rattle.flow_net.proofs.Zips.{zip_from_fits}
use Rattle.flow_net.proofs.Cuts.{flow_over-le-cap_over}
use Rattle.flow_net.proofs.MaxFlows.{max_flow_min_cut}
use Rattle.flow_net.proofs.NodeLists.{terminals_apart}
use Rattle.flow_text.specs.declared.solutions.FlowLine.{FlowLine}
use Rattle.flow_tools.specs.checking.SolutionFlows.{net_outflow}
use Rattle.flow_tools.specs.checking.ArcShares.{is_pair}
use Rattle.flow_tools.specs.checking.Verdicts.{IsWithinCapacities, IsBalanced}
use Rattle.flow_tools.specs.checking.ArcShares.{Carries, HasLessValue}

-- no pair's flow passes its capacity
pub carried_within : (net : Net) (lines : List FlowLine) (xs : List ℕ) → Fits net xs → Carries net lines xs
    → IsWithinCapacities net lines
carried_within net lines xs f c u v =
    omega (
      arith,
      c (is_pair u v),
      flow_over-le-cap_over (λ a. is_pair u v a.src a.dst) net.arcs xs (zip_from_fits net xs f),
    )

-- where the nodes are balanced it is feasible
pub carried_feasible : (p : Instance) (lines : List FlowLine) (xs : List ℕ) → Fits p.net xs → Carries p.net lines xs
    → IsBalanced p lines → IsFeasible p.net (one_of p.sources) (one_of p.sinks) xs
carried_feasible p lines xs f c b = record {
  fits = f;
  conserved = λ v l h i o. c (λ src dst. just v dst) ∙ b v ((l, h), i, o) ∙ sym (c (λ src dst. just v src));
}

-- a number that is a difference of signed numbers is one of natural numbers
positive : (value a b : ℕ) → pos value ≡ pos a -ℤ pos b → a ≡ value + b
positive value a b e = omega (arith, ints, e)

-- its value is what leaves the sources less what enters them
pub carried_value : (p : Instance) (lines : List FlowLine) (xs : List ℕ) (value : ℕ) → Carries p.net lines xs
    → pos value ≡ net_outflow p lines → HasValue p.net (one_of p.sources) xs value
carried_value p lines xs value c e =
    let s = one_of p.sources in
    let out = c (λ src dst. s src) in
    let in' = c (λ src dst. s dst) in
    out ∙ positive value _ _ e ∙ ap (λ k. value + k) (sym in')

-- a greatest value is this one
pub greatest_value : (net : Net) (s t : ℕ → Bool) (xs : List ℕ) (value : ℕ) → HasValue net s xs value
    → HasGreatestValue net s t xs → IsGreatest net s t value
greatest_value net s t xs value v g =
    let same : g.0 ≡ value = omega (arith, g.1, v) in
    subst (IsGreatest net s t) same g.2

-- a value that isn't the greatest is less than it
pub less_value : (p : Instance) (xs : List ℕ) → IsNet p.net → IsProblem p
    → IsFeasible p.net (one_of p.sources) (one_of p.sinks) xs
    → (HasGreatestValue p.net (one_of p.sources) (one_of p.sinks) xs → ⊥) → HasLessValue p xs
less_value p xs n h f never =
    let m = max_flow_min_cut p.net (one_of p.sources) (one_of p.sinks) n
    (terminals_apart p.net p.sources p.sinks h.terminals) in (
      m.0,
      m.1,
      λ j v. elim (cases_eq j m.0) [
        | inl e ↦ absurd (never (m.0, subst (HasValue p.net (one_of p.sources) xs) e v, m.1))
        | inr d ↦ omega (arith, m.1.most xs f, v, d)
      ],
    )
