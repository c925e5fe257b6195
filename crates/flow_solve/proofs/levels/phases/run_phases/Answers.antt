-- `run_phases`: each phase brings the sources farther from the sinks.
use Rattle.std.proofs.Common.{ℕ, List, ◌-◌, length, sym, subst, arith}
use Rattle.flow_net.proofs.NodeLists.{terminals_apart}
use Rattle.flow_solve.specs.residual.Searches.{seen}
use Rattle.flow_solve.specs.levels.Phases.{IsFar}
use Rattle.flow_solve.proofs.LevelLemmas.Bounds.{run_paid}
use Rattle.flow_solve.proofs.LevelLemmas.Distances.{far_start}
use Rattle.flow_solve.proofs.Raises.{settled}
use Rattle.flow_solve.proofs.levels.phases.run_phases.Goals as goal

-- no phase yet
pub phases-init : goal.phases-init
phases-init c = record {
  flow = c.requires.flow;
  current_size = omega arith;
  path_size = omega arith;
  far =
      far_start c.args.task.packed.net.now c.args.task.s.now c.args.task.t.now c.args.flow.now.flows
      (terminals_apart c.args.task.packed.net.now c.args.task.s.now c.args.task.t.now c.requires.task.terminals);
  few = omega (arith, c.requires.task.packed.limits.nodes_least);
  never_lowered = omega arith;
  steps = omega arith;
}

-- one phase more
pub phases-preserved : goal.phases-preserved
phases-preserved c =
    let old = c.phases.invariant in
    let found = c.find_levels.ensures in
    let now = c.run_phase.ensures in
    let net = c.args.task.packed.net.now in
    let far : IsFar net c.args.task.s.now c.args.task.t.now c.find_levels.new.flow.flows c.phases.phases =
    subst (λ (ys : List ℕ). IsFar net c.args.task.s.now c.args.task.t.now ys c.phases.phases) (sym found.looks.flows)
    old.far in
    record {
      flow = now.flow;
      current_size = omega (arith, old.current_size, now.same.current_size);
      path_size = omega (arith, old.path_size, now.same.path_size);
      far = now.far c.phases.phases far;
      few = now.few c.phases.phases far;
      never_lowered = omega (arith, old.never_lowered, found.looks.never_lowered, now.steps.never_lowered);
      steps = omega (arith, old.steps, found.looks.steps, now.steps.steps);
    }

-- the search that finds no source leaves a closed cut
pub returns-clause-greatest : goal.returns-clause-greatest
returns-clause-greatest c =
    let old = c.phases.invariant in let found = c.find_levels.ensures in
    let task = c.args.task in
    (settled task.packed.net.now task.s.now task.t.now c.phases.flow.flows (seen c.find_levels.new.dist)
    c.phases.walks.value c.requires.task.packed.limits old.flow (found.missed c.phases-test.false).whole
    (found.missed c.phases-test.false).outside).0

pub returns-clause-least : goal.returns-clause-least
returns-clause-least c =
    let old = c.phases.invariant in let found = c.find_levels.ensures in
    let task = c.args.task in
    (settled task.packed.net.now task.s.now task.t.now c.phases.flow.flows (seen c.find_levels.new.dist)
    c.phases.walks.value c.requires.task.packed.limits old.flow (found.missed c.phases-test.false).whole
    (found.missed c.phases-test.false).outside).1

-- fewer phases than nodes, each with its search
pub returns-clause-steps : goal.returns-clause-steps
returns-clause-steps c =
    let old = c.phases.invariant in let found = c.find_levels.ensures in let net = c.args.task.packed.net.now in
    let paid = run_paid net.nodes (length net.arcs) (net.nodes - 1) c.phases.phases c.args.flow.now.steps
    c.find_levels.new.flow.steps (omega (arith, old.few)) (omega (arith, c.requires.task.packed.limits.nodes_least))
    (omega (arith, old.few)) (omega (arith, old.steps, found.looks.steps)) in
    omega (arith, paid, old.never_lowered, found.looks.never_lowered)

-- what the phase's walks go by
pub run_phase-requires-clause-run : goal.run_phase-requires-clause-run
run_phase-requires-clause-run c = record {
  terminals = c.requires.task.terminals;
  packed = c.requires.task.packed;
  dist_size = omega arith;
  sinks = (c.find_levels.ensures.levels c.phases-test.true).sinks;
}
