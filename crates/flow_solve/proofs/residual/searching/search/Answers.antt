-- `search`: from the starts, node by node of the queue, until enough nodes are seen that are looked out for, or none
-- waits.
use Rattle.std.proofs.Common.{◌≡◌, ℕ, ◌+◌, ◌-◌, ◌≤◌, ◌<◌, length, get_or, refl, ◌∙◌, sym, ap, subst, inl, inr}
use Rattle.std.proofs.Common.{below_more, add-one, arith}
use Rattle.flow_net.specs.Flows.{Fits}
use Rattle.flow_net.specs.Residual.{head_of, residual}
use Rattle.flow_solve.specs.residual.Packs.{halves_at}
use Rattle.flow_solve.specs.residual.HalfArcs.{crossed}
use Rattle.flow_solve.specs.residual.Searches.{IsMarked, IsCome, IsDone, queued}
use Rattle.flow_solve.proofs.ResidualLemmas.Queues.{queue_short, queued_same, grown_marked, come_on}
use Rattle.flow_solve.proofs.ResidualLemmas.SearchStarts.{count_none}
use Rattle.flow_solve.proofs.ResidualLemmas.Searched.{some_seen, new_seen, whole_seen, none_seen}
use Rattle.flow_solve.proofs.ResidualLemmas.Sweeps.{searched, all_done, queued_halves}
use Rattle.flow_solve.proofs.residual.searching.search.Goals as goal

-- the starts are seen, and none is followed
pub places-init : goal.places-init
places-init c =
    let starts = c.start_all-progress.ensures in
    let cells : length c.start_all-progress.new.dist ≡ c.args.plan.packed.net.now.nodes =
    omega (arith, c.requires.cells.dist_size) in
    let count = starts.count c.args.plan.until.now
    (count_none c.args.plan.until.now c.look_out.new.dist (λ p l. c.look_out.ensures.unseen p (omega arith))) in
    let none : c.start_all-progress.result.followed ≡ 0 = starts.followed in
    record {
      fits = c.requires.fits;
      flows = refl;
      search = starts.search;
      swept = record {
        cells = cells;
        begun = omega arith;
        order = starts.search.order;
        near = λ l p m. omega (arith, starts.near p m);
        entered = starts.begun;
        zeros = λ i l. omega (arith, starts.near (get_or c.args.plan.starts.now i 0 - 1) (starts.begun i l));
        done = λ i l. absurd (omega (arith, none, l));
        come = λ p l m. inl (omega (arith, starts.near p m), starts.come p (omega arith) m);
        only = λ side all closed p l m. all (p + 1) (starts.come p (omega arith) m);
      };
      soon = λ o e.
          let one = some_seen c.args.plan.until.now c.start_all-progress.new.dist c.start_all-progress.result.wanted
          count (omega (arith, o, e)) in
          (one.0, one.3, one.2, λ p m. omega (arith, starts.near p m));
      count = count;
      never_lowered = omega arith;
      steps = omega arith;
    }

-- one node less is left to follow
pub places-smaller : goal.places-smaller
places-smaller c =
    let old = c.places.invariant in
    let short = queue_short c.places.dist c.places.queue c.places.progress.seen old.search.order in
    let l : c.places.progress.followed < c.args.plan.packed.net.now.nodes =
    omega (arith, old.swept.cells, c.places-test.true) in
    let next : c.follow_all-progress.result.followed ≡ c.places.progress.followed + 1 =
    c.follow_all-progress.ensures.next in
    let less : c.args.plan.packed.net.now.nodes - c.follow_all-progress.result.followed
    < c.args.plan.packed.net.now.nodes - c.places.progress.followed =
    omega (arith, l, next) in
    less

-- one more node is followed
pub places-preserved : goal.places-preserved
places-preserved c =
    let old = c.places.invariant in
    let swept = old.swept in
    let now = c.follow_all-progress.ensures in
    let followed = now.followed in
    let looks = now.looks in
    let net = c.args.plan.packed.net.now in let flows = c.args.flow.now.flows in let dir = c.args.plan.direction in
    let first = c.args.plan.packed.first.now in
    let at = c.places.progress.followed in
    let place = get_or c.places.queue at 0 in
    let dist' = c.follow_all-progress.new.dist in
    let via' = c.follow_all-progress.new.via in
    let queue' = c.follow_all-progress.new.queue in
    let next : c.follow_all-progress.result.followed ≡ at + 1 = now.next in
    let grows : (p : ℕ) → IsMarked c.places.dist p → IsMarked dist' p = λ p m. grown_marked now.grown p m in
    let l : at < c.places.progress.seen = omega (arith, c.places-test.true) in let more = now.grown.more in
    let ahead : (i : ℕ) → i < at → get_or queue' i 0 ≡ get_or c.places.queue i 0 =
    λ i m. now.grown.ahead i (omega arith) in
    let here : get_or queue' at 0 ≡ place = now.grown.ahead at l in
    let level_at : (i : ℕ) → i < c.places.progress.seen
    → get_or dist' (get_or queue' i 0) 0 ≡ get_or c.places.dist (get_or c.places.queue i 0) 0 =
    λ i m. ap (λ p. get_or dist' p 0) (now.grown.ahead i m)
    ∙ (now.grown.kept (get_or c.places.queue i 0) (swept.order.marks i m)).0 in
    let level = level_at at l in
    let same_size : length dist' ≡ length c.places.dist = omega arith in
    record {
      fits = subst (Fits net) (sym looks.flows) old.fits;
      flows = looks.flows ∙ old.flows;
      search = now.search;
      swept = record {
        cells = omega (arith, swept.cells);
        begun = omega arith;
        order = now.search.order;
        near = λ m p marked.
            let r = followed.near p marked in
            let s = now.search.order.rises at c.follow_all-progress.result.followed (omega arith) m in
            omega (arith, r, s, level);
        entered = λ i m. grows (get_or c.args.plan.starts.now i 0 - 1) (swept.entered i m);
        zeros = λ i m. (now.grown.kept (get_or c.args.plan.starts.now i 0 - 1) (swept.entered i m)).0 ∙ swept.zeros i m;
        done = rw next (below_more (λ i. IsDone net flows dir dist' (get_or queue' i 0)) at
            (λ i m h b e r.
            let was = swept.done i m h b (e ∙ ahead i m) r in
            let kept = (now.grown.kept (head_of net h - 1) was.0).0 in
            let same = level_at i (omega arith) in
            (grows (head_of net h - 1) was.0, omega (arith, was.1, kept, same)))
            (λ h b e r.
            let marked = followed.done h b (e ∙ here)
            (subst (λ xs. 1 ≤ residual net xs (crossed dir h)) (sym old.flows) r) in
            (marked, omega (arith, followed.near (head_of net h - 1) marked, level))));
        come = λ p inside m. elim (followed.come p m) [
          | inl was ↦ elim (swept.come p inside was) [
            | inl start ↦ inl ((now.grown.kept p was).0 ∙ start.0, start.1)
            | inr came ↦ inr (come_on net flows dir p now.grown was came)
          ]
          | inr new ↦ inr (subst (λ xs. IsCome net xs dir dist' via' p) old.flows new)
        ];
        only = λ side all closed.
            let before = swept.only side all closed in
            let in_side = before place (omega (arith, swept.order.places at l, swept.cells)) (swept.order.marks at l) in
            followed.only side (λ h b t r. closed h b t (subst (λ xs. 1 ≤ residual net xs h) old.flows r)) in_side
            before;
      };
      soon = λ o e.
          let one = new_seen c.args.plan.until.now c.places.dist dist' c.places.progress.wanted
          c.follow_all-progress.result.wanted old.count (now.grown.count c.args.plan.until.now old.count) same_size
          (omega (arith, e, c.if-progress-plan.true)) in
          elim (followed.next_level one.0 one.2) [
            | inl was ↦ absurd (omega (arith, was, one.3))
            | inr there ↦ (one.0, one.4, one.2, λ p m. omega (arith, followed.near p m, there))
          ];
      count = now.grown.count c.args.plan.until.now old.count;
      never_lowered = omega (arith, old.never_lowered, looks.never_lowered);
      steps =
          let same = queued_same (halves_at first) c.places.queue queue' at ahead in
          let last : queued (halves_at first) queue' (at + 1)
          ≡ queued (halves_at first) queue' at + halves_at first place =
          ap (queued (halves_at first) queue') (add-one at)
          ∙ ap (λ i. queued (halves_at first) queue' at + halves_at first i) here in
          rw next (omega (arith, same, last, old.steps, looks.steps));
    }

-- enough are seen
pub returns-else-progress-plan-clause-searched : goal.returns-else-progress-plan-clause-searched
returns-else-progress-plan-clause-searched c = searched c.places.invariant.swept

-- no node waits
pub returns-after-places-clause-searched : goal.returns-after-places-clause-searched
returns-after-places-clause-searched c = searched c.places.invariant.swept

-- then the seen nodes are all that can be reached
pub returns-after-places-clause-whole : goal.returns-after-places-clause-whole
returns-after-places-clause-whole c = λ few.
    all_done c.places.invariant.swept c.places-test.false

pub returns-after-places-clause-missed : goal.returns-after-places-clause-missed
returns-after-places-clause-missed c = λ none some.
    let swept = c.places.invariant.swept in let net = c.args.plan.packed.net.now in let dir = c.args.plan.direction in
    let found = searched swept in
    record {
      whole = whole_seen found c.requires.packed.limits c.requires.starts (all_done swept c.places-test.false);
      outside = λ v i.
          none_seen c.args.plan.until.now c.places.dist c.places.progress.wanted v c.places.invariant.count none i;
    }

-- a look for each half-arc of the nodes followed
pub returns-else-progress-plan-clause-looks : goal.returns-else-progress-plan-clause-looks
returns-else-progress-plan-clause-looks c =
    let s = c.places.invariant.swept in
    let all = queued_halves c.places.progress.followed c.requires.packed s.cells s.order s.begun in
    record {
      flows = c.places.invariant.flows;
      never_lowered = c.places.invariant.never_lowered;
      steps = omega (arith, c.places.invariant.steps, all);
    }

pub returns-after-places-clause-looks : goal.returns-after-places-clause-looks
returns-after-places-clause-looks c =
    let s = c.places.invariant.swept in
    let all = queued_halves c.places.progress.followed c.requires.packed s.cells s.order s.begun in
    record {
      flows = c.places.invariant.flows;
      never_lowered = c.places.invariant.never_lowered;
      steps = omega (arith, c.places.invariant.steps, all);
    }
