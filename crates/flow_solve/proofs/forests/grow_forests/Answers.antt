-- `grow_forests`: a forest that comes to all nodes by itself is done, and any other is completed.
use Rattle.std.proofs.Common.{arith}
use Rattle.flow_solve.proofs.ForestLemmas.Taken.{above_enough, facing_limits, facing_nodes, grove_more}
use Rattle.flow_solve.proofs.Payments.{paid_then}
use Rattle.flow_solve.proofs.forests.grow_forests.Goals.{then-not-is_whole+in_ok-least}
use Rattle.flow_solve.proofs.forests.grow_forests.Goals.{else-not-is_whole}
use Rattle.flow_solve.proofs.forests.grow_forests.Goals as goal

pub loop-count-init : goal.loop-count-init
loop-count-init c = record {
  fits = c.requires.fits;
  stand = c.requires.stand;
  least = record { reached = c.requires.reached; fewer = omega arith };
  grove = c.requires.grove;
  paid = record { never_lowered = omega arith; left = omega arith; steps = omega arith };
}

pub complete-requires-clause-forest : goal.complete-requires-clause-forest
complete-requires-clause-forest c =
    c.begin_forest-front.ensures.forest c.loop-count.least.value c.loop-count.count c.loop-count.invariant.grove

pub loop-count-preserved : goal.loop-count-preserved
loop-count-preserved c =
    let j = c.loop-count.invariant in
    let one = c.begin_forest-front in
    let k = c.loop-count.least.value in
    elim c.if-not-is_whole.branch [
      | then-not-is_whole+in_ok-least w ↦
          let r = w.in_ok-least.ensures in
          rw (w.rows-is, w.flow-is, w.done-is, w.least-is, w.ready-is) (record {
            fits = r.fits;
            stand = record {
              limits = j.stand.limits;
              root = j.stand.root;
              firsts = j.stand.firsts;
              size = omega arith;
            };
            least = record { reached = r.least.reached; fewer = omega (arith, j.least.fewer, r.least.fewer) };
            grove = r.grove;
            paid = paid_then _ _ _ _ _ _ j.paid r.paid;
          })
      | else-not-is_whole w ↦
          rw (w.rows-is, w.flow-is, w.done-is, w.least-is, w.ready-is) (record {
            fits = j.fits;
            stand = record {
              limits = j.stand.limits;
              root = j.stand.root;
              firsts = j.stand.firsts;
              size = one.ensures.stand.size;
            };
            least = j.least;
            grove =
                grove_more _ _ _ _ k c.loop-count.count one.new.rows
                (facing_limits c.args.ground.direction c.args.ground.net.now j.stand.limits) one.new.done
                (λ more v l m. c.is_whole.ensures w.if-not-is_whole.false v l
                (omega (arith, m, facing_nodes c.args.ground.direction c.args.ground.net.now)))
                (one.ensures.forest k c.loop-count.count j.grove);
            paid = j.paid;
          })
    ]

pub returns-clause-above : goal.returns-clause-above
returns-clause-above c =
    let j = c.loop-count.invariant in
    above_enough c.args.ground _ _ c.loop-count.least.value c.loop-count.count c.args.ground.even c.loop-count.rows
    c.requires.even j.least.reached j.grove (omega (arith, c.forests_for.ensures))

pub complete-requires-clause-fits : goal.complete-requires-clause-fits
complete-requires-clause-fits c = c.loop-count.invariant.fits

pub complete-requires-clause-unit : goal.complete-requires-clause-unit
complete-requires-clause-unit c = c.requires.unit

pub complete-requires-clause-done : goal.complete-requires-clause-done
complete-requires-clause-done c = c.begin_forest-front.ensures.done

pub complete-requires-clause-reached : goal.complete-requires-clause-reached
complete-requires-clause-reached c = c.loop-count.invariant.least.reached
