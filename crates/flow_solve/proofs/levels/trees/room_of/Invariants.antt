-- `room_of`: each look so far is paid.
use Rattle.flow_solve.specs.Steps.{PaysLooks}
use Rattle.flow_solve.proofs.levels.trees.room_of.Given as goal

abbrev pub invariant-loop-node : goal.invariant-loop-node
invariant-loop-node l = PaysLooks l.initial.flow l.initial.left l.flow l.left
