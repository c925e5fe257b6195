-- Where a node's two cells differ, so do what enters it and what leaves it by the lines.
use Rattle.flow_tools.proofs.checking.NodeSumLemmas.{balance_found}
use Rattle.flow_tools.proofs.checking.node_flows.NodeFlows.first_unbalanced.Goals as goal

pub returns-clause-balance : goal.returns-clause-balance
returns-clause-balance c = λ lines f.
    balance_found (record { net = c.args.net.now; sources = c.args.s.now; sinks = c.args.t.now }) lines
    c.in_ok-marks.marks.items c.args.self.now.into.items c.args.self.now.out.items c.in_ok-marks.ensures.len
    c.in_ok-marks.ensures.marked f c.first_unequal.result
    (rw (c.as_slice.ensures.value, c.as_slice-2.ensures.value, c.as_slice-3.ensures.value) at c.first_unequal.ensures)
