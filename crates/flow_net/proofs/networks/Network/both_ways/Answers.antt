-- `both_ways`: the network keeps its limits, as it was where memory is refused, and with the reverses where there is
-- room for them.
use Rattle.std.proofs.Common.{◌≤◌, length, sym, subst}
use Rattle.flow_net.specs.declared.limits.TheConstants.{MOST_ARCS}
use Rattle.flow_net.specs.Nets.{Net}
use Rattle.flow_net.proofs.KeptLimits.{IsNet-both_ways}
use Rattle.flow_net.proofs.networks.Network.both_ways.Goals as goal

-- memory was refused
pub invariant_of-self : goal.invariant_of-self
invariant_of-self c = rw c.in_err-append_reversed.ensures.err c.self.invariant

-- the reverses are appended
pub invariant_of-self-2 : goal.invariant_of-self-2
invariant_of-self-2 c =
    let HasRoom : Net → Type 0 = λ n. length n.arcs ≤ MOST_ARCS in
    rw c.in_ok-append_reversed.ensures.ok
    (IsNet-both_ways _ c.self.invariant (subst HasRoom (sym c.self.view_is) c.requires.room))
