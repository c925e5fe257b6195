-- `start_all`: each start is seen at distance 0, once.
use Rattle.std.proofs.Common.{◌-◌, IsTrue, get_or, refl, ◌∙◌, sym, subst, inl, inr, arith, below_more}
use Rattle.flow_net.specs.NodeSets.{one_of}
use Rattle.flow_net.proofs.NodeLists.{one_of-at}
use Rattle.flow_solve.specs.residual.Searches.{IsMarked}
use Rattle.flow_solve.proofs.ResidualLemmas.Queues.{grown_marked, queue_none, near_none}
use Rattle.flow_solve.proofs.residual.searching.start_all.Goals as goal

-- nothing is seen
pub loop-node-init : goal.loop-node-init
loop-node-init c = record {
  cells = refl;
  search = record {
    via_size = c.requires.via_size;
    queue_size = c.requires.queue_size;
    few = c.requires.few;
    order = queue_none c.args.dist.now c.args.queue.now c.requires.unseen;
    wanted = omega arith;
  };
  near = near_none c.args.dist.now c.requires.unseen;
  begun = λ i l. absurd (omega arith);
  come = λ p l m. absurd (omega (arith, c.requires.unseen p l));
  count = λ until k. k;
  followed = refl;
}

-- one start more
pub loop-node-preserved : goal.loop-node-preserved
loop-node-preserved c =
    let old = c.loop-node.invariant in let now = c.start.ensures in
    let starts = c.args.starts.now in let at = c.loop-node.node-index in
    record {
      cells = omega arith;
      search = now.search;
      near = now.near;
      begun =
          below_more (λ i. IsMarked c.start.new.dist (get_or starts i 0 - 1)) at
          (λ i l. grown_marked now.grown (get_or starts i 0 - 1) (old.begun i l)) now.here;
      come = λ p l m. elim (now.come p m) [
        | inl was ↦ old.come p l was
        | inr new ↦ subst (λ v. IsTrue (one_of starts v)) (sym new) (one_of-at starts at c.loop-node-test.true)
      ];
      count = λ until k. now.grown.count until (old.count until k);
      followed = now.followed ∙ old.followed;
    }
