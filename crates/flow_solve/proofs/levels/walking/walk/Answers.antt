-- `walk`: a turn augments, goes on, or goes back. What is left of the phase's half-arcs, counted with the path, gets
-- less each turn, and pays for its steps.
use Rattle.std.proofs.Common.{ℕ, List, ◌+◌, ◌-◌, ◌≤◌, ◌<◌, set, length-set, refl, ◌∙◌, sym, ap, subst}
use Rattle.std.proofs.Common.{arith}
use Rattle.std.specs.Prelude.{slice_index}
use Rattle.std.proofs.lemmas.List.{get_or-take, length-take-le}
use Rattle.flow_net.specs.NodeSets.{one_of}
use Rattle.flow_net.specs.Residual.{tail_of}
use Rattle.flow_net.proofs.NodeLists.{terminals_apart}
use Rattle.flow_solve.specs.levels.Phases.{cell_of, first_at, owed, IsInPhase, IsDead, IsGentle}
use Rattle.flow_solve.proofs.LevelLemmas.Places.{cell_at}
use Rattle.flow_net.proofs.Zips.{tail_is_node}
use Rattle.flow_solve.proofs.Raises.{value_most, capacities_fit}
use Rattle.flow_solve.proofs.LevelLemmas.Walks.{moved_up, on_up, set_next}
use Rattle.flow_solve.proofs.LevelLemmas.Turning.{turning_as, turning_augment, turning_gentle, turning_advance}
use Rattle.flow_solve.proofs.LevelLemmas.Turning.{turning_start, turning_retreat}
use Rattle.flow_solve.proofs.LevelLemmas.Turning.{turning_end, turning_apart, some_path, half_on, looked_phase}
use Rattle.flow_solve.proofs.LevelLemmas.Turning.{dead_here}
use Rattle.flow_solve.proofs.LevelLemmas.Turning.{at_source, sink_here, no_sink_here, stepped, to_go, to_go_fill}
use Rattle.flow_solve.proofs.LevelLemmas.Turning.{to_go_longer}
use Rattle.flow_solve.proofs.LevelLemmas.Turning.{to_go_pass}
use Rattle.flow_solve.proofs.levels.walking.walk.Goals as goal

pub turns-init : goal.turns-init
turns-init c = record {
  turning =
      turning_start c.args.walks.now.path.now c.args.source c.args.flow.now.steps _ c.requires.walks.phase
      c.requires.walks.path_size c.requires.node refl;
  same = record { current = refl; current_size = refl; path = refl; path_size = refl };
  gentle = λ level o g. g;
  risen = λ v. omega arith;
  never_lowered = omega arith;
}

pub augment-done-requires-clause-some : goal.augment-done-requires-clause-some
augment-done-requires-clause-some c =
    some_path c.turns.invariant.turning c.requires.run.terminals c.requires.source
    (sink_here c.args.phase.packed.net.now c.args.phase.t.now c.args.phase.dist.now c.turns.node
    c.requires.run.sinks c.turns.invariant.turning.node c.if-phase-node-eq0.true)

pub augment-done-requires-clause-apart : goal.augment-done-requires-clause-apart
augment-done-requires-clause-apart c = turning_apart c.turns.invariant.turning

-- the turn that augments
pub overflow_add-walks : goal.overflow_add-walks
overflow_add-walks c =
    let net = c.args.phase.packed.net.now in let s = one_of c.args.phase.s.now in let t = one_of c.args.phase.t.now in
    let p = (turning_augment c.turns.invariant.turning c.augment-done.result.sent c.augment-done.result.depth
    c.requires.run.packed.limits c.requires.run.terminals c.requires.source
    (sink_here c.args.phase.packed.net.now c.args.phase.t.now c.args.phase.dist.now c.turns.node
    c.requires.run.sinks c.turns.invariant.turning.node c.if-phase-node-eq0.true) c.augment-done.ensures.filling).phase
    in
    let most = value_most net (one_of c.args.phase.s.now) (one_of c.args.phase.t.now) _
    (c.turns.walks.value + c.augment-done.result.sent) c.requires.run.packed.limits
    (terminals_apart net c.args.phase.s.now c.args.phase.t.now c.requires.run.terminals) p.feasible p.value in
    let fit = capacities_fit net c.requires.run.packed.limits in
    omega (arith, most, fit, c.from.ensures)

pub turns-smaller-then-phase-node-eq0 : goal.turns-smaller-then-phase-node-eq0
turns-smaller-then-phase-node-eq0 c =
    let net = c.args.phase.packed.net.now in
    let halves = c.args.phase.packed.halves.now in
    let rank = c.args.phase.dist.now in
    let less = to_go_fill c.turns.invariant.turning c.augment-done.result.sent c.augment-done.result.depth
    c.augment-done.ensures.filling in
    subst (λ (ys : List ℕ). to_go net halves rank c.turns.walks.current.now ys c.augment-done.result.depth
    < to_go net halves rank c.turns.walks.current.now c.turns.flow.flows c.turns.depth)
    (sym c.augment-done.ensures.flows) less

pub turns-preserved-then-phase-node-eq0 : goal.turns-preserved-then-phase-node-eq0
turns-preserved-then-phase-node-eq0 c =
    let old = c.turns.invariant in let net = c.args.phase.packed.net.now in
    let long = length-take-le c.turns.depth c.turns.walks.path.now
    (omega (arith, old.turning.short, old.turning.path_size)) in
    let lead = get_or-take c.turns.depth c.turns.walks.path.now c.augment-done.result.depth 0
    (omega (arith, long, c.augment-done.ensures.filling.place)) in
    let tail = c.augment-done.ensures.tail ∙ ap (tail_of net) lead in
    record {
      turning =
          turning_as (turning_augment c.turns.invariant.turning c.augment-done.result.sent c.augment-done.result.depth
          c.requires.run.packed.limits c.requires.run.terminals c.requires.source
          (sink_here c.args.phase.packed.net.now c.args.phase.t.now c.args.phase.dist.now c.turns.node
          c.requires.run.sinks c.turns.invariant.turning.node c.if-phase-node-eq0.true) c.augment-done.ensures.filling)
          refl c.augment-done.ensures.flows tail (ap (λ z. c.turns.walks.value + z) c.from.ensures)
          (omega (arith, c.augment-done.ensures.steps, long));
      gentle = λ level o g.
          subst (λ (ys : List ℕ). IsGentle net ys level) (sym c.augment-done.ensures.flows)
          (turning_gentle old.turning c.augment-done.result.sent level c.requires.run.packed.limits o
          (old.gentle level o g));
      same = record {
        current = old.same.current;
        current_size = old.same.current_size;
        path = old.same.path;
        path_size = old.same.path_size;
      };
      risen = old.risen;
      never_lowered = omega (arith, old.never_lowered, c.augment-done.ensures.steps);
    }

-- the turn that goes on
pub turns-smaller-in-Some : goal.turns-smaller-in-Some
turns-smaller-in-Some c =
    let net = c.args.phase.packed.net.now in
    let halves = c.args.phase.packed.halves.now in
    let rank = c.args.phase.dist.now in
    let less = to_go_longer net halves rank c.turns.walks.current.now c.admissible.new.current c.turns.flow.flows
    c.turns.node c.turns.depth c.admissible.ensures.looked.moved c.turns.invariant.turning.short in
    subst (λ (ys : List ℕ). to_go net halves rank c.admissible.new.current ys (c.turns.depth + 1)
    < to_go net halves rank c.turns.walks.current.now c.turns.flow.flows c.turns.depth)
    (sym c.admissible.ensures.flows) less

pub turns-preserved-in-Some : goal.turns-preserved-in-Some
turns-preserved-in-Some c =
    let old = c.turns.invariant in let net = c.args.phase.packed.net.now in let found = c.in-Some.ensures in
    let on = turning_advance old.turning c.admissible.new.flow.steps c.in-Some.half c.requires.run.packed.limits
    c.requires.near c.admissible.ensures.looked found.some found.steps_some in
    record {
      turning = turning_as on refl found.flows c.head-node.ensures.head refl refl;
      same = record {
        current = old.same.current;
        current_size = found.looked.size ∙ sym c.requires.walks.phase.size;
        path = old.same.path;
        path_size = length-set c.turns.walks.path.now c.turns.depth c.in-Some.half ∙ old.same.path_size;
      };
      gentle = λ level o g. subst (λ (ys : List ℕ). IsGentle net ys level) (sym found.flows) (old.gentle level o g);
      risen = λ v.
          omega (
            arith,
            old.risen v,
            moved_up (cell_of c.turns.walks.current.now) (cell_of c.admissible.new.current) c.turns.node
                found.looked.moved v,
          );
      never_lowered = omega (arith, old.never_lowered, found.never_lowered);
    }

-- the end: the source has no half-arc left
pub returns-then-depth-eq0-clause-walks : goal.returns-then-depth-eq0-clause-walks
returns-then-depth-eq0-clause-walks c = record {
  phase =
      subst (λ (ys : List ℕ). IsInPhase c.args.phase.packed.net.now c.args.phase.s.now c.args.phase.t.now
      c.args.phase.packed.first.now c.args.phase.packed.halves.now c.args.phase.dist.now c.admissible.new.current ys
      c.turns.walks.value) (sym c.admissible.ensures.flows)
      (looked_phase c.admissible.ensures.looked c.turns.invariant.turning.phase);
  path_size = c.turns.invariant.turning.path_size;
}

pub returns-then-depth-eq0-clause-dead : goal.returns-then-depth-eq0-clause-dead
returns-then-depth-eq0-clause-dead c =
    let w = c.turns.invariant.turning in let net = c.args.phase.packed.net.now in
    let inner = no_sink_here net c.args.phase.t.now c.args.phase.dist.now c.turns.node c.requires.run.sinks w.node
    c.if-phase-node-eq0.false in
    let same = at_source w c.if-depth-eq0.true in
    subst (λ (v : ℕ). IsDead net (one_of c.args.phase.t.now) (first_at c.args.phase.packed.halves.now)
    (cell_of c.admissible.new.current) v) (sym same)
    (dead_here net c.args.phase.t.now c.args.phase.packed.first.now c.args.phase.packed.halves.now
    c.admissible.new.current c.turns.node c.requires.run.packed.limits c.requires.run.packed inner
    c.in_default.ensures.none)

pub returns-then-depth-eq0-clause-gentle : goal.returns-then-depth-eq0-clause-gentle
returns-then-depth-eq0-clause-gentle c = λ level o g.
    subst (λ (ys : List ℕ). IsGentle c.args.phase.packed.net.now ys level) (sym c.admissible.ensures.flows)
    (c.turns.invariant.gentle level o g)

pub returns-then-depth-eq0-clause-steps : goal.returns-then-depth-eq0-clause-steps
returns-then-depth-eq0-clause-steps c =
    let net = c.args.phase.packed.net.now in
    let halves = c.args.phase.packed.halves.now in
    let rank = c.args.phase.dist.now in
    let paid = turning_end c.turns.invariant.turning c.admissible.new.flow.steps c.if-depth-eq0.true
    c.admissible.ensures.looked (omega (arith, c.in_default.ensures.steps_none)) in
    subst (λ (ys : List ℕ). c.admissible.new.flow.steps + owed net halves rank c.admissible.new.current ys
    ≤ c.args.flow.now.steps + owed net halves rank c.args.walks.now.current.now c.args.flow.now.flows)
    (sym c.admissible.ensures.flows) paid

-- a half-arc of the path is one of the network's
pub retreat-node-requires-clause-half : goal.retreat-node-requires-clause-half
retreat-node-requires-clause-half c =
    half_on c.turns.invariant.turning (c.turns.depth - 1) (omega (arith, c.if-depth-eq0.false))

pub retreat-node-requires-clause-low : goal.retreat-node-requires-clause-low
retreat-node-requires-clause-low c =
    let net = c.args.phase.packed.net.now in let half = slice_index c.turns.walks.path.now (c.turns.depth - 1) in
    let node = tail_is_node net half c.requires.run.packed.limits
    (half_on c.turns.invariant.turning (c.turns.depth - 1) (omega (arith, c.if-depth-eq0.false))) in
    let place = c.admissible.ensures.looked.places (tail_of net half) node in
    let most = c.requires.run.packed.most (tail_of net half) (omega (arith, node)) in
    let cell = cell_at c.admissible.new.current (tail_of net half) node.0 in
    omega (arith, place, most, cell, c.requires.run.packed.limits.arcs_most)

-- the turn that goes back
pub turns-smaller : goal.turns-smaller
turns-smaller c =
    let net = c.args.phase.packed.net.now in
    let halves = c.args.phase.packed.halves.now in
    let rank = c.args.phase.dist.now in
    let less = to_go_pass c.turns.invariant.turning (c.turns.depth - 1) (omega (arith, c.if-depth-eq0.false))
    c.requires.run.packed.limits c.admissible.ensures.looked in
    subst (λ (zs : List ℕ). to_go net halves rank zs c.admissible.new.flow.flows (c.turns.depth - 1)
    < to_go net halves rank c.turns.walks.current.now c.turns.flow.flows c.turns.depth)
    (sym (c.retreat-node.ensures.passed ∙ stepped c.admissible.new.current c.retreat-node.result
    c.retreat-node.ensures.node.0
    ∙ ap (λ (z : ℕ). set c.admissible.new.current (z - 1) (cell_of c.admissible.new.current z + 1))
    c.retreat-node.ensures.tail))
    (subst (λ (ys : List ℕ). to_go net halves rank
    (set c.admissible.new.current (tail_of net (slice_index c.turns.walks.path.now (c.turns.depth - 1)) - 1)
    (cell_of c.admissible.new.current (tail_of net (slice_index c.turns.walks.path.now (c.turns.depth - 1))) + 1)) ys
    (c.turns.depth - 1) < to_go net halves rank c.turns.walks.current.now c.turns.flow.flows c.turns.depth)
    (sym c.admissible.ensures.flows) less)

pub turns-preserved : goal.turns-preserved
turns-preserved c =
    let old = c.turns.invariant in let net = c.args.phase.packed.net.now in let found = c.admissible.ensures in
    let inner = no_sink_here net c.args.phase.t.now c.args.phase.dist.now c.turns.node c.requires.run.sinks
    old.turning.node c.if-phase-node-eq0.false in
    let back = turning_retreat old.turning c.admissible.new.flow.steps (c.turns.depth - 1)
    (omega (arith, c.if-depth-eq0.false)) c.requires.run.packed.limits c.requires.run.packed inner
    c.admissible.ensures.looked c.in_default.ensures.none (omega (arith, c.in_default.ensures.steps_none)) in
    let node = c.retreat-node.ensures.node in
    let y = c.retreat-node.result in
    let o = set_next c.admissible.new.current c.retreat-node.result node.0 (omega (arith, node, found.looked.size)) in
    let same = c.retreat-node.ensures.passed ∙ stepped c.admissible.new.current c.retreat-node.result node.0 in
    record {
      turning =
          turning_as back (same ∙ ap (λ (z : ℕ). set c.admissible.new.current (z - 1)
          (cell_of c.admissible.new.current z + 1)) c.retreat-node.ensures.tail) found.flows c.retreat-node.ensures.tail
          refl refl;
      same = record {
        current = old.same.current;
        current_size =
            c.retreat-node.auto.current ∙ found.looked.size ∙ sym c.requires.walks.phase.size;
        path = old.same.path;
        path_size = old.same.path_size;
      };
      gentle = λ level o g. subst (λ (ys : List ℕ). IsGentle net ys level) (sym found.flows) (old.gentle level o g);
      risen = λ v. omega (
        arith,
        old.risen v,
        moved_up (cell_of c.turns.walks.current.now) (cell_of c.admissible.new.current) c.turns.node
            found.looked.moved v,
        on_up (cell_of c.admissible.new.current)
            (cell_of (set c.admissible.new.current (y - 1) (cell_of c.admissible.new.current y + 1))) y o v,
        ap (λ (zs : List ℕ). cell_of zs v) same,
      );
      never_lowered = omega (arith, old.never_lowered, found.never_lowered);
    }
