-- `add`: the cells of the line's two nodes are raised by its flow.
use Rattle.flow_tools.proofs.checking.NodeSumLemmas.{sums_more}
use Rattle.flow_tools.proofs.checking.node_flows.NodeFlows.add.Goals as goal

pub returns : goal.returns
returns c = λ n lines more h f.
    rw (c.raise.ensures, c.raise-2.ensures)
    (sums_more n lines more c.args.line c.args.self.now.into.items c.args.self.now.out.items c.requires.dst
    c.requires.src h f)
