-- A cell with a line's flow added fits 128 bits, since the sum over all lines does.
use Rattle.std.proofs.Common.{◌+◌, ◌-◌, get_or, take, arith}
use Rattle.flow_net.specs.NodeSets.{just}
use Rattle.flow_tools.proofs.checking.LineSums.{line_flow_more}
use Rattle.flow_tools.proofs.checking.Shares.{no_line}
use Rattle.flow_tools.proofs.checking.NodeSumLemmas.{tally_room}
use Rattle.flow_tools.proofs.checking.node_flows.node_flows.Goals as goal

pub add-requires-clause-into_fits : goal.add-requires-clause-into_fits
add-requires-clause-into_fits c =
    let line = get_or c.args.lines.now c.loop-line.line-index no_line in
    let w = c.requires.within c.loop-line.line-index no_line c.loop-line-test.true in
    let cell = c.loop-line.invariant.entering (line.dst - 1) (omega arith) in
    let room = tally_room c.args.nodes (λ u v. just (line.dst - 1 + 1) v) c.args.lines.now c.loop-line.line-index
    c.requires.within c.requires.few in
    omega (arith, w.flow_fits)

pub add-requires-clause-out_fits : goal.add-requires-clause-out_fits
add-requires-clause-out_fits c =
    let line = get_or c.args.lines.now c.loop-line.line-index no_line in
    let w = c.requires.within c.loop-line.line-index no_line c.loop-line-test.true in
    let cell = c.loop-line.invariant.leaving (line.src - 1) (omega arith) in
    let room = tally_room c.args.nodes (λ u v. just (line.src - 1 + 1) u) c.args.lines.now c.loop-line.line-index
    c.requires.within c.requires.few in
    omega (arith, w.flow_fits)

pub loop-line-preserved : goal.loop-line-preserved
loop-line-preserved c =
    c.add.ensures c.args.nodes (take c.loop-line.line-index c.args.lines.now)
    (take (c.loop-line.line-index + 1) c.args.lines.now)
    (λ p. line_flow_more p c.args.lines.now c.loop-line.line-index no_line c.loop-line-test.true) c.loop-line.invariant
