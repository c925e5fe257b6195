-- The verdicts of `judge`: a wrong sum as `wrong_sum` tells it; else the flow on the arcs has the value of the
-- solution, and is greatest or less as `is_greatest` says.
use Rattle.std.proofs.Common.{subst, refl}
use Rattle.std.proofs.lemmas.Bool.{both_ways}
use Rattle.flow_net.specs.Limits.{IsNet}
use Rattle.flow_net.specs.NodeSets.{one_of}
use Rattle.flow_text.specs.SolutionReading.{written_in}
use Rattle.flow_tools.specs.checking.FirstFaults.{IsSumsVerdict}
use Rattle.flow_tools.proofs.checking.Judging.{carried_within, carried_value, carried_feasible, greatest_value}
use Rattle.flow_tools.proofs.checking.Judging.{less_value}
use Rattle.flow_tools.proofs.checking.judge.Goals as goal

pub wrong_sum-requires-clause-within : goal.wrong_sum-requires-clause-within
wrong_sum-requires-clause-within c =
    carried_within c.args.problem.now.net c.args.solution.now.lines.items c.args.flow.now.flows c.requires.fits
    c.requires.carries

pub is_greatest-requires-clause-feasible : goal.is_greatest-requires-clause-feasible
is_greatest-requires-clause-feasible c =
    let p = c.args.problem.now in
    let w = written_in c.args.solution.now in
    let right = subst (IsSumsVerdict p w.value w.lines) c.in_default.is c.in_ok-verdict.ensures in
    rw (c.net-net.ensures.net, c.sources-s.ensures.sources, c.sinks-t.ensures.sinks)
    (carried_feasible p w.lines c.args.flow.now.flows c.requires.fits c.requires.carries right.1)

pub returns-in-Some : goal.returns-in-Some
returns-in-Some c =
    let p = c.args.problem.now in
    let w = written_in c.args.solution.now in
    subst (IsSumsVerdict p w.value w.lines) c.in-Some.is c.in_ok-verdict.ensures c.args.feasible_only

pub returns-then-branch : goal.returns-then-branch
returns-then-branch c =
    let p = c.args.problem.now in
    let w = written_in c.args.solution.now in
    let right = subst (IsSumsVerdict p w.value w.lines) c.in_default.is c.in_ok-verdict.ensures in
    let value = carried_value p w.lines c.args.flow.now.flows w.value c.requires.carries right.2 in (
      right,
      c.if-feasible_only.false,
      refl,
      greatest_value p.net (one_of p.sources) (one_of p.sinks) c.args.flow.now.flows w.value value
          ((rw (c.net-net.ensures.net, c.sources-s.ensures.sources, c.sinks-t.ensures.sinks) at
          c.in_ok-is_greatest.ensures.greatest).0 c.if-branch.true),
    )

pub returns-else-branch : goal.returns-else-branch
returns-else-branch c =
    let p = c.args.problem.now in
    let w = written_in c.args.solution.now in
    let right = subst (IsSumsVerdict p w.value w.lines) c.in_default.is c.in_ok-verdict.ensures in
    let value = carried_value p w.lines c.args.flow.now.flows w.value c.requires.carries right.2 in
    let answer = rw (c.net-net.ensures.net, c.sources-s.ensures.sources, c.sinks-t.ensures.sinks) at
    c.in_ok-is_greatest.ensures.greatest in
    let less = less_value p c.args.flow.now.flows (subst IsNet c.net-net.ensures.net c.in_ok-is_greatest.ensures.limits)
    c.net-net.ensures.is_problem (carried_feasible p w.lines c.args.flow.now.flows c.requires.fits c.requires.carries
    right.1) (λ greatest. both_ways _ c.if-branch.false (answer.1 greatest)) in
    (right, c.if-feasible_only.false, refl, (less.0, less.1, less.2 w.value value))
