-- `fill`: where something is left, as much was put as there was room for.
use Rattle.std.proofs.Common.{◌≡◌, arith}
use Rattle.std.proofs.lemmas.Grind.{common_steps}
use Rattle.flow_tools.proofs.checking.sharing.fill.Goals as goal
use Rattle.flow_tools.proofs.checking.sharing.fill.Goals.{then-amount-room, else-amount-room}

pub returns-clause-full : goal.returns-clause-full
returns-clause-full c = λ some. elim c.if-amount-room.branch [
  | then-amount-room w ↦ absurd (omega (arith, w.put-is))
  | else-amount-room w ↦
      let all : c.if-amount-room.put ≡ c.look-room.result.1 = w.put-is in grind (arith, common_steps)
]
