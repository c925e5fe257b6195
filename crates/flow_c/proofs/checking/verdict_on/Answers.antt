-- `verdict_on`: what lines say that the flow carries is said of the flow.
use Rattle.std.proofs.lemmas.Bool.{both_ways}
use Rattle.flow_net.specs.Nets.{Instance}
use Rattle.flow_c.proofs.CheckLemmas.{IsPut, balance_told, balanced_feasible}
use Rattle.flow_c.proofs.CheckLemmas.{over_checked, unbalanced_checked, smaller_checked, greatest_checked}
use Rattle.flow_c.proofs.checking.verdict_on.Goals as goal
use Rattle.flow_c.proofs.checking.verdict_on.Goals.{In_ok-node}

put_on : (c : In_ok-node) → IsPut c.args.network.now c.args.given.now c.put_flow.new.sums.into.items
    c.put_flow.new.sums.out.items c.in_ok-node.field-0
put_on c =
    let q : Instance =
    record { net = c.net-net.result.now; sources = c.sources-s.result.now; sinks = c.sinks-t.result.now } in
    balance_told c.args.network.now q c.args.given.now c.put_flow.new.table.flows _ _ c.in_ok-node.field-0
    (rw (c.net-net.ensures.net, c.sources-s.ensures.sources, c.sinks-t.ensures.sinks)) c.in_default.ensures.answer
    c.put_flow.ensures.fits c.in_ok-node.ensures.balance

pub put_flow-requires : goal.put_flow-requires
put_flow-requires c = rw c.net-net.ensures.net c.requires

pub returns-in-Some : goal.returns-in-Some
returns-in-Some c =
    over_checked c.args.network.now c.args.given.now c.in-Some.arc
    (rw c.net-net.ensures.net at c.in-Some.ensures.answer)

pub first_unbalanced-requires : goal.first_unbalanced-requires
first_unbalanced-requires c =
    let sums = c.in_default.ensures.answer.1.2 in
    record {
      into = sums.into_len;
      out = sums.out_len;
      terminals =
          rw (c.net-net.ensures.net, c.sources-s.ensures.sources, c.sinks-t.ensures.sinks) c.net-net.ensures.terminals;
    }

pub returns-in-Some-2 : goal.returns-in-Some-2
returns-in-Some-2 c =
    let put = put_on (goal.at.returns-in-Some-2 c).In_ok-node in
    unbalanced_checked c.args.network.now c.args.given.now c.in-Some-2.node put.fits (rw c.in-Some-2.is at put.balance)

pub value_of-told-requires : goal.value_of-told-requires
value_of-told-requires c =
    let put = put_on (goal.at.value_of-told-requires c).In_ok-node in (c.args.given.now, put.fits, put.sums)

pub is_greatest-requires : goal.is_greatest-requires
is_greatest-requires c =
    let p = c.args.network.now in let xs = c.args.given.now in
    let put = put_on (goal.at.is_greatest-requires c).In_ok-node in
    rw (c.net-net.ensures.net, c.sources-s.ensures.sources, c.sinks-t.ensures.sinks, c.in_default.ensures.answer.0)
    (record {
      feasible = balanced_feasible p xs put.fits (rw c.in_default-2.is at put.balance);
      terminals = c.net-net.ensures.terminals;
    })

pub returns-then-branch : goal.returns-then-branch
returns-then-branch c =
    let p = c.args.network.now in let xs = c.args.given.now in
    let put = put_on (goal.at.returns-then-branch c).In_ok-node in
    let greatest =
    rw (c.net-net.ensures.net, c.sources-s.ensures.sources, c.sinks-t.ensures.sinks, c.in_default.ensures.answer.0)
    at c.in_ok-is_greatest.ensures.greatest in
    greatest_checked p xs c.value_of-told.result
    (balanced_feasible p xs put.fits (rw c.in_default-2.is at put.balance))
    (c.value_of-told.ensures.value xs put.fits put.sums) c.value_of-told.ensures.below (greatest.0 c.if-branch.true)

pub returns : goal.returns
returns c =
    let p = c.args.network.now in let xs = c.args.given.now in
    let put = put_on (goal.at.returns c).In_ok-node in
    let greatest =
    rw (c.net-net.ensures.net, c.sources-s.ensures.sources, c.sinks-t.ensures.sinks, c.in_default.ensures.answer.0)
    at c.in_ok-is_greatest.ensures.greatest in
    smaller_checked p xs c.value_of-told.result
    (balanced_feasible p xs put.fits (rw c.in_default-2.is at put.balance))
    (c.value_of-told.ensures.value xs put.fits put.sums) (λ has. both_ways _ c.if-branch.false (greatest.1 has))
