-- The sums over the lines don't see their order, so what holds of the ordered lines holds of the lines.
use Rattle.std.proofs.Common.{List, ℕ, ◌<◌, length, get_or, ap, subst, sym, ◌∙◌}
use Rattle.std.proofs.lemmas.List.Sorted.{All-permutation}
use Rattle.flow_text.specs.SolutionReading.{IsLineWithin}
use Rattle.flow_text.specs.declared.solutions.FlowLine.{FlowLine}
use Rattle.flow_net.specs.Residual.{Table}
use Rattle.flow_tools.specs.checking.FirstFaults.{IsFirstOver}
use Rattle.flow_tools.specs.checking.ArcShares.{Carries, arc_flow}
use Rattle.flow_tools.proofs.checking.Shares.{carries_none, carries_moved, first_over_moved}
use Rattle.flow_tools.proofs.checking.sharing.share_out.Goals as goal

pub returns-in-None-clause-shared : goal.returns-in-None-clause-shared
returns-in-None-clause-shared c =
    let answer = c.in-None.ensures.answer in (
      c.in-None.ensures.fits,
      carries_moved c.args.net.now c.args.lines.now c.in_ok-lines.lines.items c.pour_all.new.flow.flows
          c.in_ok-lines.ensures.same (subst (λ (xs : List FlowLine). Carries c.args.net.now xs
          c.pour_all.new.flow.flows) c.as_slice-2.ensures.value answer),
    )

pub returns-in-Some-clause-shared : goal.returns-in-Some-clause-shared
returns-in-Some-clause-shared c =
    let answer = c.in-Some.ensures.answer in
    first_over_moved c.args.net.now c.args.lines.now c.in_ok-lines.lines.items c.in-Some.line.src
    c.in-Some.line.dst c.in_ok-lines.ensures.same
    (subst (λ (xs : List FlowLine). IsFirstOver c.args.net.now xs c.in-Some.line.src c.in-Some.line.dst)
    c.as_slice-2.ensures.value answer)

pub pour_all-requires-clause-empty : goal.pour_all-requires-clause-empty
pour_all-requires-clause-empty c = λ p.
    ap (λ (t : Table). arc_flow c.args.net.now p t.flows) c.in_ok-flow.ensures.empty
    ∙ carries_none c.args.net.now p

pub pour_all-requires-clause-within : goal.pour_all-requires-clause-within
pour_all-requires-clause-within c =
    let moved = All-permutation (IsLineWithin c.args.net.now.nodes) c.args.lines.now c.in_ok-lines.lines.items
    c.in_ok-lines.ensures.same c.requires in
    subst (λ (xs : List FlowLine). (k : ℕ) (d : FlowLine) → k < length xs
    → IsLineWithin c.args.net.now.nodes (get_or xs k d)) (sym c.as_slice-2.ensures.value) moved
