-- What `find_cut` marks: the set nearest the terminals that are asked for, which is a minimum cut.
use Rattle.std.proofs.Common.{◌≡◌, ◌≤◌, length, rules, arith, true, false}
use Rattle.flow_net.specs.MarkedNodes.{marked}
use Rattle.flow_tools.proofs.laws.CutTextLemmas.{marked_cut}
use Rattle.flow_tools.proofs.running.EndLemmas.{false_of_not}
use Rattle.flow_tools.proofs.solving.answers.find_cut.Goals as goal

pub returns-in-Source-clause-cut : goal.returns-in-Source-clause-cut
returns-in-Source-clause-cut c =
    let r = c.cut_nearest_sources.ensures in
    let net = c.net-net.ensures.net in let s = c.sources-s.ensures.sources in let t = c.sinks-t.ensures.sinks in
    let side = rw (net, s, t) at r.side in
    rw c.in-Source.is
    (marked_cut c.args.network.now false c.cut_nearest_sources.result c.cut_nearest_sources.new.side
    (rw net at c.nodes.ensures.is_net) c.net-net.ensures.terminals
    (record { greatest = rw (net, s, t) at r.greatest; least = rw (net, s, t) at r.least }) side.nodes)

pub returns-in-Sink-clause-cut : goal.returns-in-Sink-clause-cut
returns-in-Sink-clause-cut c =
    let r = c.cut_nearest_sinks-value.ensures in
    let old = c.cut_nearest_sinks-value.new.side in
    let net = c.net-net.ensures.net in let s = c.sources-s.ensures.sources in let t = c.sinks-t.ensures.sinks in
    let side = rw (net, s, t) at r.side in
    let size : length old ≡ c.args.network.now.net.nodes = search rules in
    rw c.in-Sink.is
    (marked_cut c.args.network.now true c.cut_nearest_sinks-value.result c.mark_others.new.side
    (rw net at c.nodes.ensures.is_net) c.net-net.ensures.terminals
    (record { greatest = rw (net, s, t) at r.greatest; least = rw (net, s, t) at r.least })
    (λ v within.
    let most : v ≤ length old = omega (arith, within.1, size) in
    rw (c.mark_others.ensures.marks v within.0 most) (false_of_not (marked old v) _ (side.nodes v within))))

pub returns-in-Source-clause-steps : goal.returns-in-Source-clause-steps
returns-in-Source-clause-steps c = rw c.net-net.ensures.net at c.cut_nearest_sources.ensures.steps

pub returns-in-Sink-clause-steps : goal.returns-in-Sink-clause-steps
returns-in-Sink-clause-steps c = rw c.net-net.ensures.net at c.cut_nearest_sinks-value.ensures.steps
