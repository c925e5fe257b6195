-- `enter`: the place joins the queue behind all seen ones.
use Rattle.std.proofs.Common.{length-set, get_or-set_same, get_or-set_other, arith}
use Rattle.flow_solve.proofs.ResidualLemmas.Queues.{queue_short, queue_room, queue_more, count_more, near_more}
use Rattle.flow_solve.proofs.ResidualLemmas.Queues.{unseen_other}
use Rattle.flow_solve.proofs.residual.searching.enter.Goals as goal

-- the queue has a cell for each node, so there is one left for an unseen one
pub overflow_add-wanted : goal.overflow_add-wanted
overflow_add-wanted c =
    let s = c.requires.search in
    let short = queue_short c.args.dist.now c.args.queue.now c.args.progress.seen s.order in
    omega (arith, s.few, c.requires.arrival.unseen, s.wanted)

pub bounds-queue-progress : goal.bounds-queue-progress
bounds-queue-progress c =
    let s = c.requires.search in let a = c.requires.arrival in
    omega (
      arith,
      queue_room c.args.dist.now c.args.queue.now c.args.progress.seen c.args.arrival.place a.place a.unseen s.order,
      s.queue_size,
    )

pub overflow_add-result : goal.overflow_add-result
overflow_add-result c =
    let s = c.requires.search in
    let short = queue_short c.args.dist.now c.args.queue.now c.args.progress.seen s.order in
    omega (arith, s.few)

-- the search stays one
pub returns-clause-search : goal.returns-clause-search
returns-clause-search c =
    let s = c.requires.search in let a = c.requires.arrival in
    let short = queue_short c.args.dist.now c.args.queue.now c.args.progress.seen s.order in
    let dist' = length-set c.args.dist.now c.args.arrival.place c.args.arrival.level in
    record {
      via_size = omega (arith, dist', length-set c.args.via.now c.args.arrival.place c.args.arrival.half, s.via_size);
      queue_size =
          omega (arith, dist', length-set c.args.queue.now c.args.progress.seen c.args.arrival.place, s.queue_size);
      few = omega (arith, dist', s.few);
      order =
          queue_more c.args.arrival.place c.args.arrival.level a.place s.queue_size a.level
          (omega (arith, s.few, a.level)) a.unseen a.near s.order;
      wanted = omega (arith, s.wanted, a.unseen);
    }

-- nothing seen has changed
pub returns-clause-grown : goal.returns-clause-grown
returns-clause-grown c =
    let s = c.requires.search in let a = c.requires.arrival in
    let short = queue_short c.args.dist.now c.args.queue.now c.args.progress.seen s.order in
    record {
      kept = λ p m.
          let other = unseen_other c.args.dist.now c.args.arrival.place p a.unseen m in (
            get_or-set_other c.args.dist.now c.args.arrival.place p c.args.arrival.level 0 other,
            get_or-set_other c.args.via.now c.args.arrival.place p c.args.arrival.half 0 other,
          );
      ahead = λ i l. get_or-set_other c.args.queue.now c.args.progress.seen i c.args.arrival.place 0 (omega (arith, l));
      more = omega arith;
      count = λ until k.
          count_more until c.args.dist.now c.args.arrival.place c.args.arrival.level c.args.progress.wanted a.place
          (omega (arith, s.few, a.level)) a.unseen k;
    }

-- the place is seen at its level
pub returns-clause-arrived : goal.returns-clause-arrived
returns-clause-arrived c =
    let s = c.requires.search in let a = c.requires.arrival in
    let short = queue_short c.args.dist.now c.args.queue.now c.args.progress.seen s.order in
    let level = get_or-set_same c.args.dist.now c.args.arrival.place c.args.arrival.level 0 a.place in
    record {
      marked = omega (arith, s.few, a.level, level);
      level = level;
      half =
          get_or-set_same c.args.via.now c.args.arrival.place c.args.arrival.half 0
          (omega (arith, a.place, s.via_size));
      near =
          near_more c.args.dist.now c.args.arrival.place c.args.arrival.level c.args.arrival.level a.place (omega arith)
          a.near;
    }
