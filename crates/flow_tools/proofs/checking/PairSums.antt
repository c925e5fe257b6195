-- What enters and what leaves a node, as sums of what the pairs of nodes carry.
use Rattle.std.proofs.Common.{◌≡◌, ℕ, zero, suc, ◌+◌, ◌≤◌, ◌<◌, ◌↔◌, Bool, true, false, cond, eqb, ◌&&◌, List, [], ◌∷◌}
use Rattle.std.proofs.Common.{refl, ◌∙◌, sym, ap, inl, inr, eq-eqb, Result, Ok, Err, IfOk, arith}
use Rattle.std.specs.List.{AllByRecursion}
use Rattle.std.proofs.lemmas.Bool.{cases_eq, ne_eqb}
use Rattle.std.proofs.lemmas.List.Elements.{recursion_from_All}
use Rattle.flow_net.specs.declared.networks.Arc.{Arc}
use Rattle.flow_net.specs.declared.networks.OutOfMemory.{OutOfMemory}
use Rattle.flow_net.specs.Nets.{Instance}
use Rattle.flow_net.specs.Limits.{IsNet, IsArcWithin}
use Rattle.flow_net.specs.NodeSets.{just}
use Rattle.flow_net.specs.Flows.{flow_over, into, Fits}
use Rattle.flow_net.proofs.Zips.{zip_from_fits}
use Rattle.flow_net.proofs.Cuts.{flow_over-le-cap_over}
use Rattle.flow_text.specs.SolutionReading.{Written}
use Rattle.flow_text.specs.SolutionReading.{IsLineWithin, IsWithinLimits}
use Rattle.flow_text.specs.declared.solutions.FlowLine.{FlowLine}
use Rattle.flow_text.specs.declared.verdicts.Verdict.{Verdict}
use Rattle.flow_text.specs.declared.verdicts.Verdict.TheVariants.{Over, Unbalanced, Value, Feasible, NotMaximal}
use Rattle.flow_text.specs.declared.verdicts.Verdict.TheVariants.{Optimal}
use Rattle.flow_tools.specs.checking.SolutionFlows.{pair_flow}
use Rattle.flow_tools.specs.checking.ArcShares.{is_pair}
use Rattle.flow_tools.specs.checking.FeasibleSolutions.{IsFeasibleSolution, is_of_feasible}
use Rattle.flow_tools.specs.checking.Verdicts.{IsWithinCapacities, IsBalanced, IsVerdict}
use Rattle.flow_tools.specs.checking.FirstFaults.{IsFirstOver}
use Rattle.flow_tools.specs.checking.ArcShares.{Carries}
use Rattle.flow_tools.specs.checking.LineFlows.{line_flow}
use Rattle.flow_tools.proofs.checking.LineSums.{line_flow-cons}
use Rattle.flow_tools.proofs.checking.NodeSumLemmas.{turned}
use Rattle.flow_tools.proofs.checking.Judging.{carried_feasible}

-- the sum over the nodes 1 to n
abbrev pub sum_to : ℕ → (ℕ → ℕ) → ℕ
sum_to zero f = 0
sum_to (suc n) f = sum_to n f + f (suc n)

-- of functions that agree, of a sum of two, and of nothing
sum_to_agree : (n : ℕ) (f g : ℕ → ℕ) → ((v : ℕ) → f v ≡ g v) → sum_to n f ≡ sum_to n g
sum_to_agree zero f g h = refl
sum_to_agree (suc n) f g h = omega (arith, sum_to_agree n f g h, h (suc n))

sum_to_add : (n : ℕ) (f g : ℕ → ℕ) → sum_to n (λ v. f v + g v) ≡ sum_to n f + sum_to n g
sum_to_add zero f g = refl
sum_to_add (suc n) f g = omega (arith, sum_to_add n f g)

sum_to_zero : (n : ℕ) → sum_to n (λ v. 0) ≡ 0
sum_to_zero zero = refl
sum_to_zero (suc n) = omega (arith, sum_to_zero n)

-- one node more: where nothing was before and nothing is, where it is the one node, where that was before
none_at : (b : Bool) (m x : ℕ) → b ≡ false → m ≡ 0 → m + cond b x 0 ≡ 0
none_at b m x e h = grind arith

here_at : (b : Bool) (m x : ℕ) → b ≡ true → m ≡ 0 → m + cond b x 0 ≡ x
here_at b m x e h = grind arith

else_at : (b : Bool) (m x y : ℕ) → b ≡ false → m ≡ y → m + cond b x 0 ≡ y
else_at b m x y e h = grind arith

-- an amount at one node w alone: the sum is 0 before w, and the amount from w on
sum_to_above : (n w x : ℕ) → n < w → sum_to n (λ v. cond (eqb v w) x 0) ≡ 0
sum_to_above zero w x h = refl
sum_to_above (suc n) w x h =
    none_at (eqb (suc n) w) _ x (ne_eqb (suc n) w (omega arith)) (sum_to_above n w x (omega arith))

sum_to_point : (n w x : ℕ) → 1 ≤ w → w ≤ n → sum_to n (λ v. cond (eqb v w) x 0) ≡ x
sum_to_point zero w x l h = absurd (omega arith)
sum_to_point (suc n) w x l h = elim (cases_eq (suc n) w) [
  | inl e ↦ here_at (eqb (suc n) w) _ x (eq-eqb (suc n) w e) (sum_to_above n w x (omega arith))
  | inr d ↦ else_at (eqb (suc n) w) _ x x (ne_eqb (suc n) w d) (sum_to_point n w x l (omega arith))
]

-- an amount at one node w alone, if at all
point_if : (n w x : ℕ) (b : Bool) (f : ℕ → Bool) → 1 ≤ w → w ≤ n → ((u : ℕ) → f u ≡ (b && eqb u w))
    → sum_to n (λ u. cond (f u) x 0) ≡ cond b x 0
point_if n w x true f l h e =
    sum_to_agree n (λ u. cond (f u) x 0) (λ u. cond (eqb u w) x 0) (λ u. ap (λ c. cond c x 0) (e u))
    ∙ sum_to_point n w x l h
point_if n w x false f l h e =
    sum_to_agree n (λ u. cond (f u) x 0) (λ u. 0) (λ u. ap (λ c. cond c x 0) (e u)) ∙ sum_to_zero n

-- of the tests P w, for the nodes w, exactly one passes where Q does, and none where it doesn't
abbrev Parts : ℕ → (ℕ → ℕ → ℕ → Bool) → (ℕ → ℕ → Bool) → Type 0
Parts n P Q = (s t x : ℕ) → 1 ≤ s → s ≤ n → 1 ≤ t → t ≤ n → sum_to n (λ w. cond (P w s t) x 0) ≡ cond (Q s t) x 0

-- so the pairs that end at v part what ends at v, and the pairs that begin at u what begins at u
into_parts : (n v : ℕ) → Parts n (λ u. is_pair u v) (λ s t. just v t)
into_parts n v s t x l h k m =
    point_if n s x (just v t) (λ u. is_pair u v s t) l h
    (λ u. swap (eqb u s) (eqb v t) ∙ ap (λ c. c && eqb u s) (turned v t))
  where
    swap : (b c : Bool) → (b && c) ≡ (c && b)
    swap b c = grind arith

out_parts : (n u : ℕ) → Parts n (λ v. is_pair u v) (λ s t. just u s)
out_parts n u s t x l h k m =
    point_if n t x (just u s) (λ v. is_pair u v s t) k m (λ v. ap (λ c. c && eqb v t) (turned u s))

module _ (n : ℕ) (P : ℕ → ℕ → ℕ → Bool) (Q : ℕ → ℕ → Bool) (parts : Parts n P Q) where
  -- what the lines say where Q passes is the sum of what they say by the parts
  lines_sum : (lines : List FlowLine) → AllByRecursion (IsLineWithin n) lines
      → line_flow Q lines ≡ sum_to n (λ w. line_flow (P w) lines)
  lines_sum [] h = sym (sum_to_zero n)
  lines_sum (x ∷ lines) h =
      line_flow-cons Q x lines ∙ omega (
        arith,
        parts x.src x.dst x.flow h.0.src_least h.0.src_most h.0.dst_least h.0.dst_most,
        lines_sum lines h.1,
        sum_to_add n (λ w. cond (P w x.src x.dst) x.flow 0) (λ w. line_flow (P w) lines),
        sum_to_agree n (λ w. line_flow (P w) (x ∷ lines))
            (λ w. cond (P w x.src x.dst) x.flow 0 + line_flow (P w) lines) (λ w. line_flow-cons (P w) x lines),
      )

  -- and so it is with a flow on the arcs
  arcs_sum : (arcs : List Arc) (xs : List ℕ) → AllByRecursion (IsArcWithin n) arcs
      → flow_over (λ a. Q a.src a.dst) arcs xs ≡ sum_to n (λ w. flow_over (λ a. P w a.src a.dst) arcs xs)
  arcs_sum [] xs h = sym (sum_to_zero n)
  arcs_sum (a ∷ arcs) [] h = sym (sum_to_zero n)
  arcs_sum (a ∷ arcs) (x ∷ xs) h =
      omega (
        arith,
        parts a.src a.dst x h.0.src_least h.0.src_most h.0.dst_least h.0.dst_most,
        arcs_sum arcs xs h.1,
        sum_to_add n (λ w. cond (P w a.src a.dst) x 0) (λ w. flow_over (λ b. P w b.src b.dst) arcs xs),
      )

-- ---- solutions that some feasible flow carries

-- a solution that a feasible flow carries is within the capacities, and balanced at each inner node
pub feasible_within : (p : Instance) (lines : List FlowLine) → IsFeasibleSolution p lines
    → IsWithinCapacities p.net lines
feasible_within p lines s u v =
    omega (
      arith,
      s.2 u v,
      flow_over-le-cap_over (λ a. is_pair u v a.src a.dst) p.net.arcs s.0 (zip_from_fits p.net s.0 s.1.fits),
    )

pub feasible_balanced : (p : Instance) (w : Written) → IsNet p.net → IsWithinLimits p.net.nodes w
    → IsFeasibleSolution p w.lines → IsBalanced p w.lines
feasible_balanced p w n l s v at =
    let arcs = recursion_from_All (IsArcWithin p.net.nodes) p.net.arcs n.arcs_within in
    let lines = recursion_from_All (IsLineWithin p.net.nodes) w.lines l.lines_within in
    let ends : ℕ → ℕ → ℕ → Bool = λ u. is_pair u v in
    let begins : ℕ → ℕ → ℕ → Bool = λ u. is_pair v u in
    omega (
      arith,
      lines_sum p.net.nodes ends (λ a b. just v b) (into_parts p.net.nodes v) w.lines lines,
      lines_sum p.net.nodes begins (λ a b. just v a) (out_parts p.net.nodes v) w.lines lines,
      arcs_sum p.net.nodes ends (λ a b. just v b) (into_parts p.net.nodes v) p.net.arcs s.0 arcs,
      arcs_sum p.net.nodes begins (λ a b. just v a) (out_parts p.net.nodes v) p.net.arcs s.0 arcs,
      sum_to_agree p.net.nodes (λ u. flow_over (λ a. is_pair u v a.src a.dst) p.net.arcs s.0)
          (λ u. pair_flow w.lines u v) (λ u. s.2 u v),
      sum_to_agree p.net.nodes (λ u. flow_over (λ a. is_pair v u a.src a.dst) p.net.arcs s.0)
          (λ u. pair_flow w.lines v u) (λ u. s.2 v u),
      s.1.conserved v at.0.0 at.0.1 at.1 at.2,
    )

-- a flow within the capacities whose lines are balanced is feasible; where a pair is over, no flow carries the lines
pub carried_solution : (p : Instance) (lines : List FlowLine) (xs : List ℕ) → Fits p.net xs → Carries p.net lines xs
    → IsBalanced p lines → IsFeasibleSolution p lines
carried_solution p lines xs f c b = (xs, carried_feasible p lines xs f c b, λ u v. c (is_pair u v))

pub over_told : (p : Instance) (lines : List FlowLine) (src dst : ℕ) → IsFirstOver p.net lines src dst
    → IsFeasibleSolution p lines → ⊥
over_told p lines src dst h s = omega (arith, h.over, feasible_within p lines s src dst)

-- a verdict on lines that some flow carries tells whether a feasible flow does
pub carried_told : (p : Instance) (w : Written) (feasible_only : Bool) (verdict : Verdict) (xs : List ℕ) → IsNet p.net
    → IsWithinLimits p.net.nodes w → Fits p.net xs → Carries p.net w.lines xs
    → IsVerdict p w.value w.lines feasible_only verdict
    → (is_of_feasible verdict ≡ true) ↔ IsFeasibleSolution p w.lines
carried_told p w only (Over src dst flow cap) xs n l f c v =
    let over : IsFirstOver p.net w.lines src dst = record { over = omega (arith, v.0, v.1, v.2); least = v.3 } in
    ((λ e. cc), λ s. absurd (over_told p w.lines src dst over s))
carried_told p w only (Unbalanced node into out) xs n l f c v =
    ((λ e. cc), λ s. absurd (v.4 (v.2 ∙ feasible_balanced p w n l s node v.1 ∙ sym v.3)))
carried_told p w only (Value given found) xs n l f c v = ((λ e. carried_solution p w.lines xs f c v.1), λ s. refl)
carried_told p w only (Feasible value) xs n l f c v = ((λ e. carried_solution p w.lines xs f c v.0.1), λ s. refl)
carried_told p w only (NotMaximal value) xs n l f c v =
    ((λ e. carried_solution p w.lines xs f c v.0.1), λ s. refl)
carried_told p w only (Optimal value) xs n l f c v = ((λ e. carried_solution p w.lines xs f c v.0.1), λ s. refl)

-- the same of a result that may be want of memory
pub result_told : (p : Instance) (w : Written) (feasible_only : Bool) (r : Result Verdict OutOfMemory) (xs : List ℕ)
    → IsNet p.net → IsWithinLimits p.net.nodes w → Fits p.net xs → Carries p.net w.lines xs
    → IfOk r (IsVerdict p w.value w.lines feasible_only)
    → IfOk r (λ verdict. (is_of_feasible verdict ≡ true) ↔ IsFeasibleSolution p w.lines)
result_told p w only (Ok verdict) xs n l f c v = carried_told p w only verdict xs n l f c v
result_told p w only (Err e) xs n l f c v = tt
