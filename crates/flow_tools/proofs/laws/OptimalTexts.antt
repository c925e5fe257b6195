-- The verdict on a printed greatest flow.
use Rattle.std.proofs.Common.{◌≡◌, ℕ, ◌+◌, ◌≤◌, Bool, false, cond, List, [], ◌∷◌, length, refl, ◌∙◌, sym, ap, subst}
use Rattle.std.proofs.Common.{pos, ◌-ℤ◌, arith}
use Rattle.std.specs.Prelude.{map}
use Rattle.std.specs.List.{zip}
use Rattle.std.proofs.lemmas.Int.{ints}
use Rattle.flow_net.specs.declared.networks.Arc.{Arc}
use Rattle.flow_net.specs.Nets.{Net, Instance}
use Rattle.flow_net.specs.Limits.{IsNet, IsProblem}
use Rattle.flow_net.specs.NodeSets.{one_of, just}
use Rattle.flow_net.specs.Flows.{flow_over, IsFeasible, HasValue, IsGreatest}
use Rattle.flow_net.proofs.Zips.{zip_from_fits}
use Rattle.flow_net.proofs.Cuts.{flow_over-le-cap_over}
use Rattle.flow_text.specs.SolutionReading.{Written}
use Rattle.flow_text.specs.Solution.{solution}
use Rattle.flow_text.specs.declared.verdicts.Verdict.{Verdict}
use Rattle.flow_text.specs.declared.verdicts.Verdict.TheVariants.{Over, Unbalanced, Value, Feasible, NotMaximal}
use Rattle.flow_text.specs.declared.verdicts.Verdict.TheVariants.{Optimal}
use Rattle.flow_net.specs.declared.limits.TheConstants.{MOST_PROBLEM_ARCS}
use Rattle.flow_text.specs.declared.limits.TheConstants.{GREATEST_VALUE}
use Rattle.flow_text.proofs.AcceptedLemmas.{accepted_problem}
use Rattle.flow_tools.specs.checking.LineFlows.{line_flow}
use Rattle.flow_tools.specs.checking.Verdicts.{IsRight, IsVerdict, IsBalanced}
use Rattle.flow_tools.specs.checking.ArcShares.{Carries}
use Rattle.flow_tools.specs.laws.SolvedTexts.{carried_line, written_flow, SolvedIsOptimal}
use Rattle.flow_tools.proofs.checking.LineSums.{line_flow-cons}
use Rattle.flow_tools.proofs.checking.ArcSums.{cap_over-most}
use Rattle.flow_tools.proofs.checking.Judging.{carried_within}
use Rattle.flow_tools.proofs.laws.PrintedLines.{solved_is_accepted}

-- a flow carries its own lines
written_carries : (p : ℕ → ℕ → Bool) (arcs : List Arc) (xs : List ℕ)
    → flow_over (λ a. p a.src a.dst) arcs xs ≡ line_flow p (map carried_line (zip arcs xs))
written_carries p [] xs = refl
written_carries p (a ∷ arcs) [] = refl
written_carries p (a ∷ arcs) (x ∷ xs) =
    ap (λ k. cond (p a.src a.dst) x 0 + k) (written_carries p arcs xs)
    ∙ sym (line_flow-cons p (carried_line (a, x)) (map carried_line (zip arcs xs)))

-- a sum of natural numbers is a difference of signed numbers
positive : (value a b : ℕ) → a ≡ value + b → pos value ≡ pos a -ℤ pos b
positive value a b e = omega (arith, ints, e)

-- the value of a feasible flow of 64 bit capacities
value_small : (p : Instance) (xs : List ℕ) (value : ℕ) → IsNet p.net → length p.net.arcs ≤ MOST_PROBLEM_ARCS
    → IsFeasible p.net (one_of p.sources) (one_of p.sinks) xs → HasValue p.net (one_of p.sources) xs value
    → value ≤ GREATEST_VALUE
value_small p xs value n few f v =
    omega (
      arith,
      v,
      flow_over-le-cap_over (λ a. one_of p.sources a.src) p.net.arcs xs (zip_from_fits p.net xs f.fits),
      cap_over-most (λ a. one_of p.sources a.src) p.net n,
    )

-- a greatest flow, written down, is right
written_right : (p : Instance) (xs : List ℕ) (value : ℕ) → IsFeasible p.net (one_of p.sources) (one_of p.sinks) xs
    → HasValue p.net (one_of p.sources) xs value → IsRight p value (map carried_line (zip p.net.arcs xs))
written_right p xs value f v =
    let lines = map carried_line (zip p.net.arcs xs) in
    let c : Carries p.net lines xs = λ t. written_carries t p.net.arcs xs in
    let balanced : IsBalanced p lines =
    λ w at. sym (c (λ src dst. just w dst)) ∙ f.conserved w at.0.0 at.0.1 at.1 at.2 ∙ c (λ src dst. just w src) in (
      carried_within p.net lines xs f.fits c,
      balanced,
      positive value _ _
          (sym (c (λ src dst. one_of p.sources src)) ∙ v ∙ ap (λ k. value + k) (c (λ src dst. one_of p.sources dst))),
    )

-- of two greatest values neither is greater
greatest_one : (net : Net) (s t : ℕ → Bool) (j k : ℕ) → IsGreatest net s t j → IsGreatest net s t k → j ≤ k
greatest_one net s t j k g h = omega (arith, g.reached.2, h.most g.reached.0 g.reached.1)

-- no other verdict than that it is optimal
only_optimal : (p : Instance) (w : Written) (k : ℕ) (verdict : Verdict) → IsVerdict p w.value w.lines false (Optimal k)
    → IsVerdict p w.value w.lines false verdict → verdict ≡ Optimal k
only_optimal p w k (Over src dst flow cap) o v = absurd (omega (arith, v.0, v.1, v.2, o.0.0 src dst))
only_optimal p w k (Unbalanced node into out) o v = absurd (v.4 (v.2 ∙ o.0.1 node v.1 ∙ sym v.3))
only_optimal p w k (Value given found) o v = absurd (v.2 (ap pos v.3 ∙ o.0.2 ∙ sym v.4))
only_optimal p w k (Feasible value) o v = let never = v.1 in cc
only_optimal p w k (NotMaximal value) o v =
    absurd (omega (arith, greatest_one p.net (one_of p.sources) (one_of p.sinks) v.3.0 k v.3.1 o.3, v.3.2, v.2, o.2))
only_optimal p w k (Optimal value) o v = ap Optimal (v.2 ∙ sym o.2)

-- the law: a solved text is read again, and its verdict is that it is optimal
pub solved_optimal : SolvedIsOptimal
solved_optimal b p text said s =
    let within = accepted_problem b p said in
    let n : IsNet p.net = within.0 in
    let h : IsProblem p = within.1 in
    let w = written_flow p.net s.value s.flows in
    let right = written_right p s.flows s.value s.feasible s.valued in
    let optimal : IsVerdict p w.value w.lines false (Optimal s.value) = (right, refl, refl, s.greatest) in
    let accepted = solved_is_accepted p.net s.value s.flows n h.arcs_most
    (value_small p s.flows s.value n h.arcs_most s.feasible s.valued) s.feasible.fits in (
      w,
      s.value,
      ap (λ t. solution t p.net.nodes) s.text_is ∙ accepted,
      s.greatest,
      λ verdict. (
        (λ v. only_optimal p w s.value verdict optimal v),
        λ e. subst (IsVerdict p w.value w.lines false) (sym e) optimal,
      ),
    )
