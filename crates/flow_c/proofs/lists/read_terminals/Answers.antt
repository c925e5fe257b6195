-- `read_terminals`: one node more is taken.
use Rattle.std.proofs.Common.{◌≡◌, ◌+◌, ◌<◌, ◌++◌, ◌∷◌, [], length, length-set, slice_index_or, arith}
use Rattle.std.proofs.Common.{sym, ◌∙◌, ap, not, true, inl, inr, refl, suc, add-one, append-nil, subst}
use Rattle.std.proofs.lemmas.List.{take_all}
use Rattle.flow_net.specs.NodeSets.{one_of}
use Rattle.flow_c.specs.Lists.{AreTaken}
use Rattle.flow_c.proofs.MarkLemmas.{AreTaken-more, none_taken, marked-more, twice}
use Rattle.flow_c.proofs.lists.read_terminals.Goals as goal
use Rattle.flow_c.proofs.lists.read_terminals.Goals.{then-node-nodes-via-then-node-nodes}
use Rattle.flow_c.proofs.lists.read_terminals.Goals.{then-node-nodes-via-else-node-nodes+then-marks-node}

pub loop-i-init : goal.loop-i-init
loop-i-init c = rw c.new-taken.ensures.items (record {
  count = c.requires.count;
  taken = none_taken c.args.nodes c.args.before.now c.requires.distinct;
  marks = rw append-nil c.requires.marks;
})

pub loop-i-preserved : goal.loop-i-preserved
loop-i-preserved c =
    let old = c.loop-i.invariant in let marks = c.loop-i.marks in let taken = c.loop-i.taken.items in
    let before = c.args.before.now in let given = c.args.given.now in let i = c.loop-i.i in
    let node = slice_index_or given i 0 in let low = c.if-node-nodes.false in
    let pushed = c.is_err.ensures.negation ∙ ap not c.if-is_err.false in
    let items : c.push.new.self.items ≡ taken ++ (node + 1) ∷ [] = rw pushed at c.push.ensures.items in
    let small : node < length marks = omega (arith, low, old.count) in
    record {
      count = length-set marks node true ∙ old.count;
      taken = rw items (AreTaken-more c.args.nodes marks before given taken i c.loop-i-test.true low
          c.if-marks-node.false old.marks old.taken);
      marks = rw items (marked-more marks before taken node small old.marks);
    }

pub returns-then-node-nodes-clause-taken : goal.returns-then-node-nodes-clause-taken
returns-then-node-nodes-clause-taken c =
    let old = c.loop-i.invariant in let within = c.loop-i-test.true in
    inr (
      refl,
      elim c.then-node-nodes.branch [
        | then-node-nodes-via-then-node-nodes w ↦ inl (c.loop-i.i, within, w.if-node-nodes.true)
        | then-node-nodes-via-else-node-nodes+then-marks-node w ↦
            let node = slice_index_or c.args.given.now c.loop-i.i 0 in
            let among : one_of (c.args.before.now ++ c.loop-i.taken.items) (suc node) ≡ true =
            sym (old.marks (suc node)) ∙ w.if-marks-node.true in
            inr (twice c.args.before.now c.args.given.now c.loop-i.i within
            (rw add-one (rw (← old.taken.all) among)))
      ],
    )

pub returns-clause-taken : goal.returns-clause-taken
returns-clause-taken c =
    let all = take_all c.loop-i.i c.args.given.now c.loop-i-test.false in (
      subst (λ given. AreTaken c.args.nodes c.args.before.now given c.loop-i.taken.items) all c.loop-i.invariant.taken,
      c.loop-i.invariant.marks,
    )
