-- Where all capacities are 1, the greatest value is the pair's connectivity; it is at most the number of arcs, so it
-- fits 64 bits.
use Rattle.std.proofs.Common.{arith}
use Rattle.flow_net.specs.NodeSets.{one_of}
use Rattle.flow_tools.proofs.connecting.ConnectingLemmas.{solved_pair, pair_bounded}
use Rattle.flow_tools.proofs.connecting.pair_value.Goals as goal

pub returns-clause-pair : goal.returns-clause-pair
returns-clause-pair g c =
    solved_pair c.args.net.now (one_of c.args.s.now) (one_of c.args.t.now) c.greatest.result c.requires.unit
    c.greatest.ensures.least

pub overflow_cast-result : goal.overflow_cast-result
overflow_cast-result g c =
    let few = c.nodes.ensures.is_net.arcs_most in
    let bounded = pair_bounded c.args.net.now (one_of c.args.s.now) (one_of c.args.t.now) c.greatest.result
    (solved_pair c.args.net.now (one_of c.args.s.now) (one_of c.args.t.now) c.greatest.result c.requires.unit
    c.greatest.ensures.least) in
    omega arith
