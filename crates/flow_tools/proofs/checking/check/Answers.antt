-- What follows from the sharing out of the lines: where a pair is over, its flow fits 128 bits and the verdict is
-- that of a solution that isn't feasible; where the lines are on the arcs, the verdict is `judge`'s.
use Rattle.std.proofs.Common.{List, ◌<◌, ◌^◌, subst, sym, arith}
use Rattle.flow_net.specs.Limits.{IsNet}
use Rattle.flow_text.specs.SolutionReading.{written_in}
use Rattle.flow_text.specs.declared.solutions.FlowLine.{FlowLine}
use Rattle.flow_tools.specs.checking.SolutionFlows.{pair_flow}
use Rattle.flow_tools.specs.checking.ArcShares.{is_pair}
use Rattle.flow_tools.specs.checking.ArcShares.{IsSharedOut}
use Rattle.flow_tools.proofs.checking.LineSums.{line_flow-most}
use Rattle.flow_tools.proofs.checking.PairSums.{over_told, result_told}
use Rattle.flow_tools.proofs.checking.check.Goals as goal

pub flow_of_pair-requires : goal.flow_of_pair-requires
flow_of_pair-requires c =
    let lines = c.args.solution.now.lines.items in
    let most = line_flow-most (is_pair c.in-Over.src c.in-Over.dst) c.args.problem.now.net.nodes lines
    c.requires.lines_within in
    let few = c.requires.lines_most in
    let fits : pair_flow lines c.in-Over.src c.in-Over.dst < 2 ^ 128 = omega arith in
    subst (λ (xs : List FlowLine). pair_flow xs c.in-Over.src c.in-Over.dst < 2 ^ 128)
    (sym c.as_slice-lines.ensures.value) fits

pub returns-in-Flow-clause-feasible : goal.returns-in-Flow-clause-feasible
returns-in-Flow-clause-feasible c =
    let p = c.args.problem.now in
    let w = written_in c.args.solution.now in
    let shared = subst (IsSharedOut p.net w.lines) c.in-Flow.is
    (rw (c.net.ensures.net, c.as_slice-lines.ensures.value) at c.in_ok-flow.ensures.shared) in
    result_told p w c.args.feasible_only c.judge.result c.in-Flow.flow.flows
    (subst IsNet c.net.ensures.net c.in_ok-flow.ensures.limits) c.requires shared.0 shared.1 c.judge.ensures

pub returns-in-Over-clause-feasible : goal.returns-in-Over-clause-feasible
returns-in-Over-clause-feasible c =
    let p = c.args.problem.now in
    let lines = c.args.solution.now.lines.items in
    let shared = subst (IsSharedOut p.net lines) c.in-Over.is
    (rw (c.net.ensures.net, c.as_slice-lines.ensures.value) at c.in_ok-flow.ensures.shared) in
    ((λ e. cc), λ s. absurd (over_told p lines c.in-Over.src c.in-Over.dst shared s))
