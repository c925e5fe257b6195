-- `add_up`: one arc more.
use Rattle.std.proofs.Common.{◌≡◌, ℕ, List, get_or, refl, ◌∙◌, ap, subst, arith}
use Rattle.flow_net.specs.declared.networks.Arc.{Arc}
use Rattle.flow_net.specs.Nets.{arc_at}
use Rattle.flow_net.proofs.Zips.{against}
use Rattle.flow_solve.proofs.LevelLemmas.Tested.{IsAdded, sums_more}
use Rattle.flow_solve.proofs.levels.testing.add_up.Goals as goal

pub loop-i-preserved : goal.loop-i-preserved
loop-i-preserved c =
    let old = c.loop-i.invariant in
    let net = c.args.net.now in let xs = c.args.flow.now.flows in let i = c.loop-i.i in
    let carried : c.look-amount.result.1 ≡ get_or xs i 0 =
    c.look-amount.ensures.residual ∙ (against net c.loop-i.flow.flows i).2
    ∙ ap (λ (ys : List ℕ). get_or ys i 0) old.looks.flows in
    let Added : Arc → ℕ → Type 0 =
    λ a x. IsAdded c.args.roles.now c.loop-i.balances c.change_balances.new.balances a x c.at_source-out.result
    c.at_source-inward.result c.is_tight-is_closed.result in
    let added : Added c.arc-arc.result c.look-amount.result.1 = record {
      size = c.change_balances.auto.balances;
      balanced = c.if-not-change_balances.ensures.balanced refl;
      left = c.at_source-out.ensures;
      entered = c.at_source-inward.ensures;
      loop = c.if-not-change_balances.ensures.self_loop refl;
      closed = c.is_tight-is_closed.ensures;
    } in
    record {
      range = old.range;
      fits = c.look-amount.ensures.still_fits;
      sums =
          sums_more c.len-i-end.ensures.is_net c.requires.fits (omega arith)
          (subst (λ (x : ℕ). Added (arc_at net i) x) carried
          (subst (λ (a : Arc). Added a c.look-amount.result.1) c.arc-arc.ensures.arc added)) old.sums;
      looks = record {
        flows = c.look-amount.ensures.flows ∙ old.looks.flows;
        never_lowered = omega (arith, old.looks.never_lowered, c.look-amount.ensures.steps);
        steps = omega (arith, old.looks.steps, c.look-amount.ensures.steps);
      };
    }
