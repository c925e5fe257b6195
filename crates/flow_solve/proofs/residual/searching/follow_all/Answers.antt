-- `follow_all`: the half-arcs of one node, each to a seen node or to one that is entered now.
use Rattle.std.proofs.Common.{inl, inr, ap, ◌+◌, ◌≡◌, refl, ◌-◌, ◌≤◌, ◌<◌, IsTrue, get_or, subst, sym, ◌∙◌, below_more}
use Rattle.std.proofs.Common.{arith}
use Rattle.flow_net.specs.Flows.{Fits}
use Rattle.flow_net.specs.Residual.{head_of, residual}
use Rattle.flow_solve.specs.residual.HalfArcs.{crossed}
use Rattle.flow_solve.specs.residual.Searches.{IsMarked, IsCome}
use Rattle.flow_solve.proofs.ResidualLemmas.Queues.{queue_short, grown_on, grown_marked, come_on}
use Rattle.flow_solve.proofs.ResidualLemmas.Crossings.{come_new, closed_step}
use Rattle.flow_solve.proofs.residual.searching.follow_all.Goals.{in-Some, in_default}
use Rattle.flow_solve.proofs.residual.searching.follow_all.Goals as goal

-- a seen node waits
pub bounds-queue-progress : goal.bounds-queue-progress
bounds-queue-progress c =
    let s = c.requires.search in
    omega
    (arith, c.requires.next, queue_short c.args.dist.now c.args.queue.now c.args.progress.seen s.order, s.queue_size)

-- no half-arc yet
pub loop-spot-init : goal.loop-spot-init
loop-spot-init c = record {
  fits = c.requires.fits;
  flows = refl;
  cells = c.requires.cells;
  begun = omega arith;
  here = refl;
  level = refl;
  near = c.requires.near;
  search = c.requires.search;
  grown = record { kept = λ p m. (refl, refl); ahead = λ i l. refl; more = omega arith; count = λ until k. k };
  followed = refl;
  done = λ p l from. absurd (omega (arith, l, from));
  come = λ p m. inl m;
  next_level = λ p m. inl m;
  only = λ side closed in_side holds. holds;
  never_lowered = omega arith;
  steps = omega arith;
}

-- each half-arc of a row is one of the network
pub arrive-requires-clause-half : goal.arrive-requires-clause-half
arrive-requires-clause-half c =
    let place = get_or c.args.queue.now c.args.progress.followed 0 in
    let inside = c.requires.search.order.places c.args.progress.followed c.requires.next in
    (c.requires.packed.holds place c.loop-spot.spot (omega (arith, inside, c.requires.cells))
    c.loop-spot.invariant.begun c.loop-spot-test.true).0

pub bounds-halves-spot : goal.bounds-halves-spot
bounds-halves-spot c =
    let place = get_or c.args.queue.now c.args.progress.followed 0 in
    let inside = c.requires.search.order.places c.args.progress.followed c.requires.next in
    omega
    (arith, c.requires.packed.most (place + 1) (omega (arith, inside, c.requires.cells)), c.requires.packed.halves_size)

-- what was come to is unseen, and no nearer than any seen node
pub enter-progress-requires-clause-arrival : goal.enter-progress-requires-clause-arrival
enter-progress-requires-clause-arrival c =
    let old = c.loop-spot.invariant in let place = get_or c.args.queue.now c.args.progress.followed 0 in
    let marked = c.requires.search.order.marks c.args.progress.followed c.requires.next in
    let inside = c.requires.search.order.places c.args.progress.followed c.requires.next in
    let low = old.search.order.levels place (omega (arith, inside, old.cells, c.requires.cells))
    (grown_marked old.grown place marked) in
    let kept = (old.grown.kept place marked).0 in
    let to = c.in-Some.ensures.some in
    let new = c.in-Some.ensures.unseen in
    record {
      place = new.0;
      unseen = new.1;
      level = omega (arith, low, kept, to.level);
      near = λ p m. omega (arith, old.near p m, to.level);
    }

-- one more half-arc
pub loop-spot-preserved : goal.loop-spot-preserved
loop-spot-preserved c =
    let old = c.loop-spot.invariant in let looks = c.arrive.ensures.looks in
    let net = c.args.plan.packed.net.now in
    let halves = c.args.plan.packed.halves.now in
    let flows = c.args.flow.now.flows in
    let dir = c.args.plan.direction in
    let place = get_or c.args.queue.now c.args.progress.followed 0 in let half = get_or halves c.loop-spot.spot 0 in
    let marked = c.requires.search.order.marks c.args.progress.followed c.requires.next in
    let inside : place < net.nodes =
    omega (arith, c.requires.search.order.places c.args.progress.followed c.requires.next, c.requires.cells) in
    let own = c.requires.packed.holds place c.loop-spot.spot inside old.begun c.loop-spot-test.true in
    let room : residual net c.loop-spot.flow.flows (crossed dir half) ≡ residual net flows (crossed dir half) =
    ap (λ xs. residual net xs (crossed dir half)) old.flows in
    elim c.match-arrive.branch [
      | in-Some w ↦
          let now = w.enter-progress.ensures in
          let to = w.in-Some.ensures.some in
          let dist' = w.enter-progress.new.dist in
          let via' = w.enter-progress.new.via in
          let there = w.in-Some.arrival.place in
          let all_grown = grown_on old.grown now.grown in
          let still : IsMarked dist' place = grown_marked all_grown place marked in
          let level : get_or dist' place 0 ≡ get_or c.args.dist.now place 0 = (all_grown.kept place marked).0 in
          let remains : 1 ≤ residual net flows (crossed dir half) = omega (arith, to.remains, room) in
          let head : there ≡ head_of net half - 1 = omega (arith, to.head) in
          rw (w.dist-is, w.via-is, w.queue-is, w.progress-is) (record {
            fits = subst (Fits net) (sym looks.flows) old.fits;
            flows = looks.flows ∙ old.flows;
            cells = omega (arith, old.cells);
            begun = omega (arith, old.begun);
            here = refl;
            level = refl;
            near = λ p m. omega (arith, now.arrived.near p m, to.level);
            search = now.search;
            grown = all_grown;
            followed = now.followed ∙ old.followed;
            done =
                below_more (λ p. get_or c.args.plan.packed.first.now place 0 ≤ p
                → 1 ≤ residual net flows (crossed dir (get_or halves p 0))
                → IsMarked dist' (head_of net (get_or halves p 0) - 1)) c.loop-spot.spot
                (λ p l from r. grown_marked now.grown (head_of net (get_or halves p 0) - 1) (old.done p l from r))
                (λ from r. subst (IsMarked dist') head now.arrived.marked);
            come = λ p m. elim (now.come p m) [
              | inl was ↦ elim (old.come p was) [
                | inl first ↦ inl first
                | inr came ↦ inr (come_on net flows dir p now.grown was came)
              ]
              | inr new ↦
                  inr (subst (λ q. IsCome net flows dir dist' via' q) (sym new)
                  (come_new flows dir half c.requires.packed.limits own.0 inside own.1 to.head remains still
                  (omega (arith, now.arrived.level, to.level, level)) (now.arrived.half ∙ to.half)))
            ];
            next_level = λ p m. elim (now.come p m) [
              | inl was ↦ elim (old.next_level p was) [
                | inl first ↦ inl first
                | inr on ↦ inr ((now.grown.kept p was).0 ∙ on)
              ]
              | inr new ↦ inr (ap (λ q. get_or dist' q 0) new ∙ now.arrived.level ∙ to.level)
            ];
            only = λ side closed in_side holds p l m. elim (now.come p m) [
              | inl was ↦ old.only side closed in_side holds p l was
              | inr new ↦
                  subst (λ q. IsTrue (side (q + 1))) (sym new)
                  (subst (λ v. IsTrue (side v)) to.head
                  (closed_step flows dir half c.requires.packed.limits own.0 inside own.1 side closed in_side
                  remains))
            ];
            never_lowered = omega (arith, old.never_lowered, looks.never_lowered);
            steps = omega (arith, old.steps, looks.steps, old.begun);
          })
      | in_default w ↦
          let none = w.in_default.ensures.none in
          rw (w.dist-is, w.via-is, w.queue-is, w.progress-is) (record {
            fits = subst (Fits net) (sym looks.flows) old.fits;
            flows = looks.flows ∙ old.flows;
            cells = old.cells;
            begun = omega (arith, old.begun);
            here = refl;
            level = refl;
            near = old.near;
            search = old.search;
            grown = old.grown;
            followed = old.followed;
            done =
                below_more (λ p. get_or c.args.plan.packed.first.now place 0 ≤ p
                → 1 ≤ residual net flows (crossed dir (get_or halves p 0))
                → IsMarked c.loop-spot.dist (head_of net (get_or halves p 0) - 1)) c.loop-spot.spot old.done
                (λ from r. none (omega (arith, r, room)));
            come = old.come;
            next_level = old.next_level;
            only = old.only;
            never_lowered = omega (arith, old.never_lowered, looks.never_lowered);
            steps = omega (arith, old.steps, looks.steps, old.begun);
          })
    ]

pub returns-clause-search : goal.returns-clause-search
returns-clause-search c =
    let s = c.loop-spot.invariant.search in
    record { via_size = s.via_size; queue_size = s.queue_size; few = s.few; order = s.order; wanted = s.wanted }

pub returns-clause-grown : goal.returns-clause-grown
returns-clause-grown c =
    let g = c.loop-spot.invariant.grown in
    record { kept = g.kept; ahead = g.ahead; more = g.more; count = g.count }

-- the node is followed: nothing that remains leads from it to an unseen node
pub returns-clause-followed : goal.returns-clause-followed
returns-clause-followed c =
    let old = c.loop-spot.invariant in
    let net = c.args.plan.packed.net.now in
    let place = get_or c.args.queue.now c.args.progress.followed 0 in
    let inside : place < net.nodes =
    omega (arith, c.requires.search.order.places c.args.progress.followed c.requires.next, c.requires.cells) in
    record {
      near = old.near;
      come = old.come;
      next_level = old.next_level;
      done = λ h l e r.
          let at = c.requires.packed.stands place h inside l e in
          subst (λ g. IsMarked c.loop-spot.dist (head_of net g - 1)) at.3
          (old.done at.0 (omega (arith, at.2, c.loop-spot-test.false)) at.1
          (subst (λ g. 1 ≤ residual net c.args.flow.now.flows (crossed c.args.plan.direction g)) (sym at.3) r));
      only = old.only;
    }
