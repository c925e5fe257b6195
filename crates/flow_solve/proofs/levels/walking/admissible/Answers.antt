-- `admissible`: the node's half-arcs from its place on; each that is passed is filled, or leads no nearer.
use Rattle.std.proofs.Common.{◌≡◌, ℕ, List, ◌+◌, ◌-◌, Option, IfSome, get_or, set, length-set, refl, ◌∙◌, sym, ap}
use Rattle.std.proofs.Common.{subst, inl, inr, arith}
use Rattle.flow_net.specs.Flows.{Fits}
use Rattle.flow_net.specs.Residual.{tail_of, residual}
use Rattle.flow_solve.specs.levels.Phases.{cell_of, first_at, IsAdmissible}
use Rattle.flow_solve.proofs.LevelLemmas.Places.{IsMine, cell_at, cell_set}
use Rattle.flow_solve.proofs.LevelLemmas.Walks.{IsLooking, looking_start, looking_skip, looking_fail, looking_found}
use Rattle.flow_solve.proofs.LevelLemmas.Walks.{mine_at}
use Rattle.flow_solve.proofs.LevelLemmas.Walks.{set_moved, moved_within}
use Rattle.flow_solve.proofs.levels.walking.admissible.Goals.{else-loop-place-test}
use Rattle.flow_solve.proofs.levels.walking.admissible.Goals.{then-loop-place-test+then-is_admissible}
use Rattle.flow_solve.proofs.levels.walking.admissible.Goals as goal

-- none is passed
pub loop-place-init : goal.loop-place-init
loop-place-init c = record {
  fits = c.requires.fits;
  flows = refl;
  nothing = refl;
  looking = looking_start c.requires.node c.requires.current;
  never_lowered = omega arith;
}

-- one more is passed
pub loop-place-preserved : goal.loop-place-preserved
loop-place-preserved c =
    let old = c.loop-place.invariant in let l = old.looking in let now = c.is_admissible.ensures in
    let net = c.args.phase.packed.net.now in
    let rank = c.args.phase.dist.now in
    let half = get_or c.args.phase.packed.halves.now c.loop-place.place 0 in
    let g : IsMine net c.args.phase.packed.halves.now c.args.node c.loop-place.place half =
    mine_at c.requires.run.packed.limits c.requires.run.packed c.requires.node c.requires.current l
    c.loop-place-test.true in
    let own : get_or rank (c.args.node - 1) 0 ≡ cell_of rank (tail_of net half) =
    cell_at rank c.args.node c.requires.node.0 ∙ ap (cell_of rank) (sym g.tail) in
    let same : residual net c.loop-place.flow.flows half ≡ residual net c.args.flow.now.flows half =
    ap (λ (ys : List ℕ). residual net ys half) old.flows in
    record {
      fits = subst (Fits net) (sym now.flows) old.fits;
      flows = now.flows ∙ old.flows;
      nothing = old.nothing;
      looking = elim (now.no c.if-is_admissible.false) [
        | inl skip ↦
            subst (λ (k : ℕ). IsLooking net c.args.phase.packed.first.now c.args.phase.packed.halves.now rank
            c.args.current.now c.args.flow.now.flows c.args.node (c.loop-place.place + 1) c.args.flow.now.steps k)
            (sym skip.1) (looking_skip c.requires.run.packed.limits c.requires.run.packed c.requires.node
            c.requires.current l c.loop-place-test.true (omega (arith, own, skip.0)))
        | inr fail ↦
            subst (λ (k : ℕ). IsLooking net c.args.phase.packed.first.now c.args.phase.packed.halves.now rank
            c.args.current.now c.args.flow.now.flows c.args.node (c.loop-place.place + 1) c.args.flow.now.steps k)
            (sym fail.2) (looking_fail c.requires.run.packed.limits c.requires.run.packed c.requires.node
            c.requires.current l c.loop-place-test.true (omega (arith, own, fail.0)) (sym same ∙ fail.1))
      ];
      never_lowered = elim (now.no c.if-is_admissible.false) [
        | inl skip ↦ omega (arith, old.never_lowered, skip.1)
        | inr fail ↦ omega (arith, old.never_lowered, fail.2)
      ];
    }

-- the place moves up to one that is found, or behind all
pub returns-clause-looked : goal.returns-clause-looked
returns-clause-looked c =
    let l = c.loop-place.invariant.looking in
    let inside = c.requires.current.size in
    let m = set_moved c.args.current.now c.args.node c.loop-place.place c.requires.node.0
    (omega (arith, c.requires.node, inside)) l.least in
    record {
      size = length-set c.args.current.now (c.args.node - 1) c.loop-place.place ∙ inside;
      places =
          moved_within c.args.phase.packed.net.now c.args.phase.packed.first.now (cell_of c.args.current.now)
          (cell_of (set c.args.current.now (c.args.node - 1) c.loop-place.place)) c.args.node (m.up, m.there)
          (omega (
            arith,
            l.most,
            cell_set c.args.current.now c.args.node c.loop-place.place c.requires.node.0
                (omega (arith, c.requires.node, inside)),
          )) c.requires.current.places;
      moved = m;
      blocked = l.blocked;
    }

pub returns-clause-some : goal.returns-clause-some
returns-clause-some c =
    let old = c.loop-place.invariant in let l = old.looking in
    let net = c.args.phase.packed.net.now in
    let rank = c.args.phase.dist.now in
    let half = get_or c.args.phase.packed.halves.now c.loop-place.place 0 in
    let found : Option ℕ → Type 0 = λ o. IfSome o (λ h. IsAdmissible net (cell_of rank)
    (first_at c.args.phase.packed.halves.now)
    (cell_of (set c.args.current.now (c.args.node - 1) c.loop-place.place)) c.args.flow.now.flows c.args.node h) in
    elim c.loop-place-test.branch [
      | then-loop-place-test+then-is_admissible w ↦
          let g : IsMine net c.args.phase.packed.halves.now c.args.node c.loop-place.place half =
          mine_at c.requires.run.packed.limits c.requires.run.packed c.requires.node c.requires.current l
          w.loop-place-test.true in
          let yes = w.is_admissible.ensures.yes w.if-is_admissible.true in
          let own : get_or rank (c.args.node - 1) 0 ≡ cell_of rank (tail_of net half) =
          cell_at rank c.args.node c.requires.node.0 ∙ ap (cell_of rank) (sym g.tail) in
          let same : residual net c.loop-place.flow.flows half ≡ residual net c.args.flow.now.flows half =
          ap (λ (ys : List ℕ). residual net ys half) old.flows in
          subst found (sym w.found-is)
          (looking_found c.requires.run.packed.limits c.requires.run.packed c.requires.node c.requires.current l
          w.loop-place-test.true (omega (arith, own, yes.0)) (omega (arith, same, yes.1)))
      | else-loop-place-test w ↦ subst found (sym (w.found-is ∙ old.nothing)) tt
    ]
