-- `least_side`: the half-arcs stand packed behind, by the stages or after them.
use Rattle.std.proofs.Common.{ℕ, List, sym, subst}
use Rattle.std.proofs.lemmas.Bool.{not-false}
use Rattle.flow_solve.specs.residual.Packs.{ArePackedBehind}
use Rattle.flow_solve.proofs.levels.LevelsMethod.least_side.Goals.{then-not-ran, else-not-ran}
use Rattle.flow_solve.proofs.levels.LevelsMethod.least_side.Goals as goal

pub leads_on_packed-requires-clause-packed : goal.leads_on_packed-requires-clause-packed
leads_on_packed-requires-clause-packed c =
    let net = c.args.given.net.now in elim c.if-not-ran.branch [
      | then-not-ran w ↦
          subst (λ (zs : List ℕ). ArePackedBehind net zs) (sym w.work-is) w.pack_behind.ensures.packed
      | else-not-ran w ↦
          subst (λ (zs : List ℕ). ArePackedBehind net zs) (sym w.work-is)
          (c.run_stages-ran.ensures.packed (not-false _ w.if-not-ran.false))
    ]
