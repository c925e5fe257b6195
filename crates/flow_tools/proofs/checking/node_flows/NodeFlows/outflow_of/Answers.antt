-- The sums of the cells are those over the lines, and their difference is taken in signed numbers.
use Rattle.std.proofs.Common.{◌≡◌, ◌∙◌, ap, subst, List, ℕ, sum_by, arith}
use Rattle.std.specs.List.{All}
use Rattle.std.proofs.lemmas.Int.{ints}
use Rattle.flow_tools.specs.checking.NodeSums.{IsCellOf, at_node}
use Rattle.flow_tools.proofs.checking.NodeSumLemmas.{out_at, into_at}
use Rattle.flow_tools.proofs.checking.node_flows.NodeFlows.outflow_of.Goals as goal

read : (cells kept nodes : List ℕ) (sum : ℕ) → cells ≡ kept → sum ≡ sum_by (at_node cells) nodes
    → sum ≡ sum_by (at_node kept) nodes
read cells kept nodes sum e h = h ∙ ap (λ xs. sum_by (at_node xs) nodes) e

pub returns : goal.returns
returns c = λ n lines f.
    let ws = c.args.nodes.now in
    let flows = c.args.self.now in
    let within = subst (λ k. All (IsCellOf k) ws) f.into_len c.requires.within in
    let out = read c.as_slice.result.now flows.out.items ws c.sum_at-out.result c.as_slice.ensures.value
    c.sum_at-out.ensures in
    let into = read c.as_slice-2.result.now flows.into.items ws c.sum_at-into.result c.as_slice-2.ensures.value
    c.sum_at-into.ensures in
    let out_is = out_at n ws lines flows.into.items flows.out.items within c.requires.distinct f in
    let into_is = into_at n ws lines flows.into.items flows.out.items within c.requires.distinct f in
    omega (arith, ints, c.requires.fit.0, c.requires.fit.1)
