-- `run_phase`: the places are set to each node's first half-arc, and all sources walked from.
use Rattle.std.proofs.Common.{ℕ, ◌-◌, ◌*◌, length, take, ◌∙◌, ap, arith}
use Rattle.flow_solve.specs.levels.Phases.{cell_of, first_at, any}
use Rattle.flow_solve.proofs.LevelLemmas.Falls.{left_most, to_fill_most}
use Rattle.flow_solve.proofs.LevelLemmas.Bounds.{phase_paid}
use Rattle.flow_solve.proofs.LevelLemmas.Distances.{far_few, far_phase}
use Rattle.flow_solve.proofs.LevelLemmas.Turning.{fresh_phase}
use Rattle.flow_solve.proofs.levels.phases.run_phase.Goals as goal

-- with all places at the first half-arc nothing has been passed
pub walk_from_sources-requires-clause-walks : goal.walk_from_sources-requires-clause-walks
walk_from_sources-requires-clause-walks c = record {
  phase =
      fresh_phase c.nodes-n.ensures.is_net c.requires.run.packed
      (c.copy_from_slice.ensures.after ∙ ap (λ (j : ℕ). take j c.args.phase.packed.first.now) c.nodes-n.ensures.nodes)
      c.requires.flow.feasible c.requires.flow.value c.requires.flow.no_loops;
  path_size = c.requires.path_size;
}

-- there are more nodes than phases
pub returns-clause-few : goal.returns-clause-few
returns-clause-few c = λ j far.
    let l = c.requires.levels in
    far_few c.args.phase.s.now j l.source.0 far l.searched l.source.1 l.source.2

-- once every source is dead the sources are farther from the sinks
pub returns-clause-far : goal.returns-clause-far
returns-clause-far c = λ j far.
    let l = c.requires.levels in let now = c.walk_from_sources.ensures in let net = c.args.phase.packed.net.now in
    let level = l.levels.0 in let slope = l.levels.1 in
    far_phase c.nodes-n.ensures.is_net (record {
      gentle = now.gentle level slope.ordered slope.gentle;
      ordered = slope.ordered;
      sinks = slope.sinks;
      blocked = now.walks.phase.blocked;
      near = slope.near;
      far = slope.far;
      dead = now.dead;
    }) c.args.flow.now.flows l.via j far l.searched (far_few c.args.phase.s.now j l.source.0 far l.searched l.source.1
    l.source.2)

-- half-arcs that were passed or filled paid for the steps, each once a phase
pub returns-clause-steps : goal.returns-clause-steps
returns-clause-steps c =
    let net = c.args.phase.packed.net.now in
    let rank = c.args.phase.dist.now in
    let halves = c.args.phase.packed.halves.now in
    let paid = phase_paid (length net.arcs) (3 * (net.nodes - 1)) c.args.flow.now.steps
    c.walk_from_sources.new.flow.steps _ _ _
    (to_fill_most net (cell_of rank) (first_at halves) (cell_of c.copy_from_slice.new.self) c.args.flow.now.flows)
    (left_most net (cell_of rank) (first_at halves) (cell_of c.copy_from_slice.new.self) any)
    c.walk_from_sources.ensures.steps in
    omega (arith, paid)
