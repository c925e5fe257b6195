-- `find_levels`: what the search from the sinks has seen.
use Rattle.std.proofs.Common.{ℕ, ◌<◌, subst, inl, inr, arith}
use Rattle.std.proofs.lemmas.Bool.{cases_lt}
use Rattle.flow_solve.specs.declared.residual.half_arcs.Direction.{Direction}
use Rattle.flow_solve.specs.residual.Searches.{IsMarked, IsDone, IsSearched}
use Rattle.flow_solve.proofs.LevelLemmas.Levelled.{levels_found}
use Rattle.flow_solve.proofs.levels.phases.find_levels.Goals as goal

-- no source: it has missed them all
pub returns-then-progress-eq0-clause-missed : goal.returns-then-progress-eq0-clause-missed
returns-then-progress-eq0-clause-missed c = λ e.
    c.search-progress.ensures.missed c.if-progress-eq0.true
    (omega (arith, c.requires.enough, c.requires.terminals.some_source))

-- a source: distances are levels
pub returns-clause-levels : goal.returns-clause-levels
returns-clause-levels c = λ e.
    let found = c.search-progress.ensures in
    let plan = c.args.plan in
    let net = plan.packed.net.now in
    let dist = c.search-progress.new.dist in let flows = c.args.flow.now.flows in
    levels_found plan.enough c.requires.packed.limits found.queue
    (subst (λ (dir : Direction). IsSearched net flows dir plan.starts.now dist c.search-progress.new.via)
    c.requires.backwards found.searched) c.requires.terminals.sources_within c.requires.terminals.sinks_within
    found.count (subst
    (λ (dir : Direction). c.search-progress.result.wanted < plan.enough
    → (p : ℕ) → p < net.nodes → IsMarked dist p → IsDone net flows dir dist p)
    c.requires.backwards found.whole) (elim (cases_lt net.nodes plan.enough) [
      | inl l ↦ inr l
      | inr l ↦ inl (omega (arith, l, c.requires.enough, c.requires.packed.limits.nodes_most))
    ]) c.if-progress-eq0.false
