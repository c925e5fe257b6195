-- A line's flow is poured over the places of its pair: a place takes what its arc has room for; those passed are full
-- or of a lesser pair. What is left when the pair's places are passed found all its arcs full.
use Rattle.std.proofs.Common.{◌-◌, ◌+◌, ℕ, sym, subst, arith}
use Rattle.flow_tools.specs.checking.ArcShares.{HasMore}
use Rattle.flow_tools.proofs.checking.Shares.{IsPouring, pair_full, poured_past, poured_here, poured_full}
use Rattle.flow_net.specs.Residual.{Table}
use Rattle.flow_tools.proofs.checking.sharing.pour.Goals as goal
use Rattle.flow_tools.proofs.checking.sharing.pour.Goals.{then-rank_of_place-rank_of_line-2+else-left-eq0}
use Rattle.flow_tools.proofs.checking.sharing.pour.Goals.{else-rank_of_place-rank_of_line-2}

pub returns-then-rank_of_place-rank_of_line-clause-full : goal.returns-then-rank_of_place-rank_of_line-clause-full
returns-then-rank_of_place-rank_of_line-clause-full c =
    λ some. pair_full c.args.net.now c.args.places.now c.loop-at.at c.args.line.src c.args.line.dst c.loop-at.flow.flows
    c.requires.places c.loop-at.invariant.0.fits c.loop-at.invariant.0.passed
    (λ l. omega (arith, c.rank-rank_of_place.ensures.rank, c.loop-at.invariant.1))

pub returns-clause-full : goal.returns-clause-full
returns-clause-full c =
    λ some. pair_full c.args.net.now c.args.places.now c.loop-at.at c.args.line.src c.args.line.dst c.loop-at.flow.flows
    c.requires.places c.loop-at.invariant.0.fits c.loop-at.invariant.0.passed (λ l. omega arith)

pub returns-then-left-eq0-clause-more : goal.returns-then-left-eq0-clause-more
returns-then-left-eq0-clause-more c =
    let here = poured_here c.args.net.now c.args.places.now c.args.flow.now.flows c.args.line c.loop-at.at
    c.loop-at.left c.fill-left.result c.loop-at.flow.flows c.fill-left.new.flow.flows c.requires.places (record {
      within = omega arith;
      line_below = c.rank-rank_of_line.ensures.below;
      place_below = c.rank-rank_of_place.ensures.below;
      same = omega arith;
    })
    (record {
      at_most = c.fill-left.ensures.left;
      put = c.fill-left.ensures.flows;
      fits = c.fill-left.ensures.fits;
    })
    c.loop-at.invariant.0 in
    subst (λ n. HasMore c.args.net.now c.args.flow.now.flows c.args.line.src c.args.line.dst (c.args.line.flow - n)
    c.fill-left.new.flow.flows) c.if-left-eq0.true here.more

pub loop-at-preserved : goal.loop-at-preserved
loop-at-preserved c =
    let Next : ℕ → Table → Type 0 =
    λ left table. IsPouring c.args.net.now c.args.places.now c.args.flow.now.flows c.args.line (c.loop-at.at + 1) left
    table.flows in
    let step : Next c.if-rank_of_place-rank_of_line-2.left c.if-rank_of_place-rank_of_line-2.flow =
    elim c.if-rank_of_place-rank_of_line-2.branch [
      | then-rank_of_place-rank_of_line-2+else-left-eq0 w ↦
          let here = poured_here c.args.net.now c.args.places.now c.args.flow.now.flows c.args.line c.loop-at.at
          c.loop-at.left w.fill-left.result c.loop-at.flow.flows w.fill-left.new.flow.flows c.requires.places (record {
            within = c.loop-at-test.true;
            line_below = c.rank-rank_of_line.ensures.below;
            place_below = c.rank-rank_of_place.ensures.below;
            same = omega arith;
          })
          (record {
            at_most = w.fill-left.ensures.left;
            put = w.fill-left.ensures.flows;
            fits = w.fill-left.ensures.fits;
          })
          c.loop-at.invariant.0 in
          let some = w.if-left-eq0.false in
          let next : Next w.fill-left.result w.fill-left.new.flow =
          poured_full c.args.net.now c.args.places.now c.args.flow.now.flows c.args.line c.loop-at.at
          w.fill-left.result w.fill-left.new.flow.flows c.loop-at-test.true
          (w.fill-left.ensures.full (omega arith)) here in
          subst (λ n. Next n c.if-rank_of_place-rank_of_line-2.flow) (sym w.left-is)
          (subst (Next w.fill-left.result) (sym w.flow-is) next)
      | else-rank_of_place-rank_of_line-2 w ↦
          let other = w.if-rank_of_place-rank_of_line-2.false in
          let next : Next c.loop-at.left c.loop-at.flow =
          poured_past c.args.net.now c.args.places.now c.args.flow.now.flows c.args.line c.loop-at.at c.loop-at.left
          c.loop-at.flow.flows c.loop-at-test.true (omega arith)
          c.loop-at.invariant.0 in
          subst (λ n. Next n c.if-rank_of_place-rank_of_line-2.flow) (sym w.left-is)
          (subst (Next c.loop-at.left) (sym w.flow-is) next)
    ] in
    (step, c.loop-at.invariant.1)
