-- `room_at`: one look was taken for each entry so far.
use Rattle.std.proofs.Common.{◌-◌}
use Rattle.flow_solve.specs.Steps.{OnlyLooks}
use Rattle.flow_solve.proofs.levels.trees.room_at.Given as goal

abbrev pub invariant-loop-spot : goal.invariant-loop-spot
invariant-loop-spot l = OnlyLooks l.initial.flow l.flow (l.spot - l.begin)
