-- The verdicts of `wrong_sum`: the cells of a node hold what the lines say of it, and the sums over the sources fit
-- since the sum over all lines does.
use Rattle.std.proofs.Common.{◌-◌, ◌∙◌, sym, subst, MatchOption, rules, arith}
use Rattle.std.proofs.lemmas.Grind.{get_or_default_zero, common_steps}
use Rattle.flow_net.specs.NodeSets.{one_of}
use Rattle.flow_text.specs.SolutionReading.{written_in}
use Rattle.flow_tools.specs.checking.NodeSums.{IsCellOf}
use Rattle.flow_tools.specs.checking.Verdicts.{IsBalanced}
use Rattle.flow_tools.specs.checking.FirstFaults.{IsFirstUnbalanced}
use Rattle.flow_tools.proofs.checking.NodeSumLemmas.{cell_into, cell_out, into_at, out_at}
use Rattle.flow_tools.proofs.checking.NodeSumLemmas.{distinct_front}
use Rattle.flow_tools.proofs.checking.LineSums.{line_flow-most}
use Rattle.flow_tools.proofs.checking.wrong_sum.Goals as goal

pub returns-in-Some : goal.returns-in-Some
returns-in-Some c = λ feasible_only.
    let p = c.args.problem.now in
    let lines = c.args.solution.now.lines.items in
    let into = c.in_ok-flows.flows.into.items in
    let out = c.in_ok-flows.flows.out.items in
    let flows = rw (c.nodes.ensures.nodes, c.net-net.ensures.net, c.as_slice.ensures.value) at c.in_ok-flows.ensures in
    let found = subst (λ o. MatchOption o (IsBalanced p lines) (IsFirstUnbalanced p lines)) c.in-Some.is
    ((rw (c.net-net.ensures.net, c.sources-s.ensures.sources, c.sinks-t.ensures.sinks) at c.in_ok-node.ensures.balance)
    lines flows) in
    let at : IsCellOf p.net.nodes c.in-Some.node = found.inner.0 in
    let into_is = c.index.ensures
    ∙ get_or_default_zero into (c.in-Some.node - 1) _ (omega (arith, flows.into_len, at.0, at.1))
    ∙ cell_into p.net.nodes lines into out c.in-Some.node flows at in
    let out_is = c.index-in-Some.ensures
    ∙ get_or_default_zero out (c.in-Some.node - 1) _ (omega (arith, flows.out_len, at.0, at.1))
    ∙ cell_out p.net.nodes lines into out c.in-Some.node flows at in (
      c.requires.within,
      found.inner,
      into_is,
      out_is,
      (λ e. found.unbalanced (sym into_is ∙ e ∙ out_is)),
      found.least,
    )

pub outflow_of-found-requires-clause-fit : goal.outflow_of-found-requires-clause-fit
outflow_of-found-requires-clause-fit c =
    let p = c.args.problem.now in
    let w = written_in c.args.solution.now in
    let into = c.in_ok-flows.flows.into.items in
    let out = c.in_ok-flows.flows.out.items in
    let flows = rw (c.nodes.ensures.nodes, c.net-net.ensures.net, c.as_slice.ensures.value) at c.in_ok-flows.ensures in
    let t = c.net-net.ensures.is_problem.terminals in
    let apart = distinct_front p.sources p.sinks t.distinct in
    let few = c.requires.limits.lines_most in
    rw c.sources-s.ensures.sources (
      omega (
        arith,
        into_at p.net.nodes p.sources w.lines into out t.sources_within apart flows,
        line_flow-most (λ u v. one_of p.sources v) p.net.nodes w.lines c.requires.limits.lines_within,
        few,
      ),
      omega (
        arith,
        out_at p.net.nodes p.sources w.lines into out t.sources_within apart flows,
        line_flow-most (λ u v. one_of p.sources u) p.net.nodes w.lines c.requires.limits.lines_within,
        few,
      ),
    )

pub outflow_of-found-requires-clause-distinct : goal.outflow_of-found-requires-clause-distinct
outflow_of-found-requires-clause-distinct c =
    let p = c.args.problem.now in
    rw c.sources-s.ensures.sources (distinct_front p.sources p.sinks c.net-net.ensures.is_problem.terminals.distinct)

pub returns-then-given-found : goal.returns-then-given-found
returns-then-given-found c =
    let p = c.args.problem.now in
    let lines = c.args.solution.now.lines.items in
    let flows = rw (c.nodes.ensures.nodes, c.net-net.ensures.net, c.as_slice.ensures.value) at c.in_ok-flows.ensures in
    let balanced = subst (λ o. MatchOption o (IsBalanced p lines) (IsFirstUnbalanced p lines)) c.in_default.is
    ((rw (c.net-net.ensures.net, c.sources-s.ensures.sources, c.sinks-t.ensures.sinks) at c.in_ok-node.ensures.balance)
    lines flows) in
    let found = rw c.sources-s.ensures.sources at c.outflow_of-found.ensures p.net.nodes lines flows in
    first_of (search rules, grind (arith, common_steps))

pub returns : goal.returns
returns c =
    let p = c.args.problem.now in
    let lines = c.args.solution.now.lines.items in
    let flows = rw (c.nodes.ensures.nodes, c.net-net.ensures.net, c.as_slice.ensures.value) at c.in_ok-flows.ensures in
    let balanced = subst (λ o. MatchOption o (IsBalanced p lines) (IsFirstUnbalanced p lines)) c.in_default.is
    ((rw (c.net-net.ensures.net, c.sources-s.ensures.sources, c.sinks-t.ensures.sinks) at c.in_ok-node.ensures.balance)
    lines flows) in
    let found = rw c.sources-s.ensures.sources at c.outflow_of-found.ensures p.net.nodes lines flows in
    first_of (search rules, grind (arith, common_steps))
