-- `allowance`: fewer than `n²` times the number of arcs, and once that number.
use Rattle.std.proofs.Common.{◌≡◌, ◌+◌, ◌*◌, ◌≤◌, length, arith}
use Rattle.std.proofs.Math.Nat.{mul-le-mul_right}
use Rattle.std.proofs.lemmas.Nat.{mul-le}
use Rattle.flow_solve.proofs.levels.allowance.Goals as goal

pub returns : goal.returns
returns c =
    let n = c.args.net.now.nodes in let m = length c.args.net.now.arcs in
    let nodes : c.from-n.result ≡ n = omega arith in
    let arcs : c.from.result ≡ m = omega arith in
    let some : 1 * 1 ≤ c.from-n.result * c.from-n.result =
    mul-le 1 1 c.from-n.result c.from-n.result (omega (arith, c.nodes.ensures.is_net.nodes_least))
    (omega (arith, c.nodes.ensures.is_net.nodes_least)) in
    let few : c.min.result + 1 ≤ c.from-n.result * c.from-n.result = omega (arith, some, c.min.ensures) in
    let all = mul-le-mul_right m (rw nodes at few) in
    rw arcs (omega (arith, all))
