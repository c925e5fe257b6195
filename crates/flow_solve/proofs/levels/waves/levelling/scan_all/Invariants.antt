-- `scan_all`: the looks from the nodes before are paid.
use Rattle.flow_solve.specs.levels.Waves.{HasLookedOut, IsWaving}
use Rattle.flow_solve.proofs.levels.waves.levelling.scan_all.Given as goal

abbrev pub invariant-loop-place : goal.invariant-loop-place
invariant-loop-place l = record {
  waving : IsWaving l.packed l.flow l.wave;
  looked : HasLookedOut l.fn.flow l.fn.wave l.flow l.wave;
}
