-- `walk_from_sources`: from each source until it is dead; a dead node stays so.
use Rattle.std.proofs.Common.{ℕ, IsTrue, get_or, below_more, refl, sym, subst, arith, rules}
use Rattle.std.specs.Prelude.{slice_index}
use Rattle.flow_net.specs.NodeSets.{one_of}
use Rattle.flow_solve.specs.residual.Searches.{seen}
use Rattle.flow_solve.specs.levels.Phases.{cell_of, first_at, IsDead}
use Rattle.flow_net.proofs.NodeLists.{one_of-at, place_in}
use Rattle.flow_solve.proofs.ResidualLemmas.Searched.{seen_marked, unmarked_unseen}
use Rattle.flow_solve.proofs.LevelLemmas.Walks.{dead_on}
use Rattle.flow_solve.proofs.levels.phases.walk_from_sources.Goals.{then-phase-source-lt-WANTED}
use Rattle.flow_solve.proofs.levels.phases.walk_from_sources.Goals.{else-phase-source-lt-WANTED}
use Rattle.flow_solve.proofs.levels.phases.walk_from_sources.Goals as goal

-- no source yet
pub loop-source-init : goal.loop-source-init
loop-source-init c = record {
  walks = c.requires.walks;
  same = record { current = refl; current_size = refl; path = refl; path_size = refl };
  dead = λ k l. absurd (omega (arith, l));
  gentle = λ level o g. g;
  never_lowered = omega arith;
  steps = omega arith;
}

pub walk-requires-clause-node : goal.walk-requires-clause-node
walk-requires-clause-node c =
    c.requires.run.terminals.sources_within c.loop-source.source-index 0 c.loop-source-test.true

pub walk-requires-clause-source : goal.walk-requires-clause-source
walk-requires-clause-source c = one_of-at c.args.phase.s.now c.loop-source.source-index c.loop-source-test.true

pub walk-requires-clause-near : goal.walk-requires-clause-near
walk-requires-clause-near c =
    let source = get_or c.args.phase.s.now c.loop-source.source-index 0 in
    let node = c.requires.run.terminals.sources_within c.loop-source.source-index 0 c.loop-source-test.true in
    c.requires.near source
    (seen_marked c.args.phase.dist.now source node.0 (omega (arith, node.1, c.requires.run.dist_size))
    c.if-phase-source-lt-WANTED.true)

-- one more source is dead, or isn't seen
pub loop-source-preserved : goal.loop-source-preserved
loop-source-preserved c =
    let old = c.loop-source.invariant in
    let net = c.args.phase.packed.net.now in let s = c.args.phase.s.now in let dist = c.args.phase.dist.now in
    let source = get_or s c.loop-source.source-index 0 in
    let node = c.requires.run.terminals.sources_within c.loop-source.source-index 0 c.loop-source-test.true in
    elim c.if-phase-source-lt-WANTED.branch [
      | then-phase-source-lt-WANTED w ↦
          let now = w.walk.ensures in
          rw (w.flow-is, w.walks-is) (record {
            walks = now.walks;
            same = search rules;
            dead =
                below_more (λ k. IsTrue (seen dist (slice_index s k))
                → IsDead net (one_of c.args.phase.t.now) (first_at c.args.phase.packed.halves.now)
                (cell_of w.walk.new.walks.current.now) (slice_index s k)) c.loop-source.source-index
                (λ k l i. dead_on net (one_of c.args.phase.t.now) (first_at c.args.phase.packed.halves.now)
                (cell_of c.loop-source.walks.current.now) (cell_of w.walk.new.walks.current.now) (slice_index s k)
                now.risen (old.dead k l i)) (λ i. now.dead);
            gentle = λ level o g. now.gentle level o (old.gentle level o g);
            never_lowered = omega (arith, old.never_lowered, now.never_lowered);
            steps = omega (arith, old.steps, now.steps);
          })
      | else-phase-source-lt-WANTED w ↦
          rw (w.flow-is, w.walks-is) (record {
            walks = old.walks;
            same = old.same;
            dead =
                below_more (λ k. IsTrue (seen dist (slice_index s k))
                → IsDead net (one_of c.args.phase.t.now) (first_at c.args.phase.packed.halves.now)
                (cell_of c.loop-source.walks.current.now) (slice_index s k)) c.loop-source.source-index old.dead
                (λ i. let out = unmarked_unseen dist source node.0 w.if-phase-source-lt-WANTED.false in absurd (cc));
            gentle = old.gentle;
            never_lowered = old.never_lowered;
            steps = old.steps;
          })
    ]

-- all seen sources are dead
pub returns-clause-dead : goal.returns-clause-dead
returns-clause-dead c = λ v i k.
    let p = place_in c.args.phase.s.now v i in
    let Seen : ℕ → Type 0 = λ w. IsTrue (seen c.args.phase.dist.now w) in
    subst (λ w. IsDead c.args.phase.packed.net.now (one_of c.args.phase.t.now) (first_at c.args.phase.packed.halves.now)
    (cell_of c.loop-source.walks.current.now) w) p.2
    (c.loop-source.invariant.dead p.0 (omega (arith, p.1, c.loop-source-test.false)) (subst Seen (sym p.2) k))
