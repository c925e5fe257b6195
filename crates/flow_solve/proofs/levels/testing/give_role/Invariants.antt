-- `give_role`: the nodes of the list passed have the role, all others the one that they had.
use Rattle.std.proofs.Common.{◌≡◌, ℕ, ◌+◌, ◌<◌, cond, length, take}
use Rattle.std.specs.Prelude.{slice_index}
use Rattle.flow_net.specs.NodeSets.{one_of}
use Rattle.flow_solve.proofs.levels.testing.give_role.Given as goal

abbrev pub invariant-loop-node : goal.invariant-loop-node
invariant-loop-node l =
    (length l.roles ≡ length l.fn.roles)
    × ((p : ℕ) → p < length l.fn.roles
    → slice_index l.roles p
    ≡ cond (one_of (take l.node-index l.terminals) (p + 1)) l.role (slice_index l.fn.roles p))
