-- `put_flow`: at first nothing is carried; an arc that takes its flow carries what a line more does.
use Rattle.std.proofs.Common.{◌≡◌, ◌<◌, ◌≤◌, ◌+◌, ◌-◌, ℕ, [], ◌∷◌, ◌∙◌, get_or, set, subst, length, arith}
use Rattle.std.proofs.Common.{ap, sym, cond, Bool, List}
use Rattle.std.proofs.lemmas.Grind.{same_number_lists}
use Rattle.std.proofs.lemmas.List.{get_or-set_same, get_or-set_other}
use borrow.Author.Count.{below_none, below_more}
use Rattle.flow_net.specs.Limits.{IsArcWithin}
use Rattle.flow_net.specs.Nets.{arc_at}
use Rattle.flow_net.specs.NodeSets.{just}
use Rattle.flow_net.proofs.Zips.{arc_within}
use Rattle.flow_text.specs.declared.solutions.FlowLine.{FlowLine}
use Rattle.flow_tools.specs.checking.LineFlows.{line_flow}
use Rattle.flow_tools.proofs.ArcSums.{set_more}
use Rattle.flow_tools.proofs.LineSums.{line_flow-cons}
use Rattle.flow_tools.proofs.Shares.{carries_none}
use Rattle.flow_c.specs.Checks.{AreSumsOf}
use Rattle.flow_c.proofs.CheckLemmas.{carried_most}
use Rattle.flow_c.proofs.ListLemmas.{same_at}
use Rattle.flow_c.proofs.checking.put_flow.Goals as goal

-- a line in front of others
one_more : (p : ℕ → ℕ → Bool) (line : FlowLine) (lines : List FlowLine)
    → line_flow p lines + cond (p line.src line.dst) line.flow 0 ≡ line_flow p (line ∷ lines)
one_more p line lines = let front = line_flow-cons p line lines in omega (arith, front)

pub loop-i-init : goal.loop-i-init
loop-i-init c = record {
  fits = c.requires.fits;
  done = below_none (λ k. get_or c.args.table.now.flows k 0 ≡ get_or c.args.given.now k 0);
  rest = λ k l. rw c.requires.empty (same_at (length c.args.net.now.arcs) k 0);
  within = below_none (λ k. get_or c.args.given.now k 0 ≤ (arc_at c.args.net.now k).cap);
  sums = ([], rw c.requires.empty (carries_none c.args.net.now), c.requires.no_sums);
}

pub add-requires : goal.add-requires
add-requires c =
    let net = c.args.net.now in let i = c.loop-i.i in let old = c.loop-i.invariant in let sums = old.sums in
    let arc = c.arc-arc.result in let limits = c.arc-arc.ensures.is_net in let flow = c.type_inv.given i in
    let test = c.loop-i-test.true in let len = c.len-i-end.ensures.len in
    let ends = subst (IsArcWithin net.nodes) (sym c.arc-arc.ensures.arc)
    (arc_within net i limits (omega (arith, test, len))) in
    let most = λ (p : ℕ → ℕ → Bool). carried_most net sums.0 c.loop-i.table.flows p limits old.fits sums.1 in
    record {
      dst = (ends.dst_least, rw sums.2.into_len ends.dst_most);
      src = (ends.src_least, rw sums.2.out_len ends.src_most);
      into_fits =
          let cell = sums.2.entering (arc.dst - 1) (omega (arith, ends.dst_least, ends.dst_most)) in
          omega (arith, cell, most (λ s t. just (arc.dst - 1 + 1) t), flow);
      out_fits =
          let cell = sums.2.leaving (arc.src - 1) (omega (arith, ends.src_least, ends.src_most)) in
          omega (arith, cell, most (λ s t. just (arc.src - 1 + 1) s), flow);
    }

pub loop-i-preserved : goal.loop-i-preserved
loop-i-preserved c =
    let net = c.args.net.now in let i = c.loop-i.i in let old = c.loop-i.invariant in let lines = old.sums.0 in
    let xs = c.loop-i.table.flows in let flow = get_or c.args.given.now i 0 in let arc = c.arc-arc.result in
    let line : FlowLine = record { src = arc.src; dst = arc.dst; flow = flow } in
    let test = c.loop-i-test.true in let len = c.len-i-end.ensures.len in
    let within : i < length net.arcs = omega (arith, test, len) in
    let put = get_or xs i 0 + flow in
    let taken : flow - c.fill.result ≡ flow = omega arith in
    let now : c.fill.new.flow.flows ≡ set xs i put = rw taken at c.fill.ensures.flows in
    let sum : put ≡ flow = let none = old.rest i (omega arith) in omega (arith, none) in
    let here = get_or-set_same xs i put 0 (omega (arith, within, old.fits.count)) ∙ sum in
    let more = set_more net xs i flow arc.src arc.dst old.fits.count within
    (ap (λ a. a.src) (sym c.arc-arc.ensures.arc))
    (ap (λ a. a.dst) (sym c.arc-arc.ensures.arc)) in
    record {
      fits = c.fill.ensures.fits;
      done = rw now (below_more (λ k. get_or (set xs i put) k 0 ≡ get_or c.args.given.now k 0) i
          (λ k l. get_or-set_other xs i k put 0 (λ e. omega (arith, e, l)) ∙ old.done k l) here);
      rest = rw now (λ k l. get_or-set_other xs i k put 0 (λ e. omega (arith, e, l)) ∙ old.rest k (omega (arith, l)));
      within = below_more (λ k. get_or c.args.given.now k 0 ≤ (arc_at net k).cap) i old.within
          (rw (now, here) at (c.fill.ensures.fits.within i within));
      sums = (
        line ∷ lines,
        (λ p. rw now (more p ∙ ap (λ k. k + cond (p line.src line.dst) flow 0) (old.sums.1 p)
            ∙ one_more p line lines)),
        c.add.ensures net.nodes lines (line ∷ lines) (λ p. sym (one_more p line lines)) old.sums.2,
      );
    }

pub returns-clause-answer : goal.returns-clause-answer
returns-clause-answer c =
    let net = c.args.net.now in let old = c.loop-i.invariant in let len = c.len-i-end.ensures.len in
    let done = c.loop-i-test.false in
    let same = same_number_lists c.loop-i.table.flows c.args.given.now (old.fits.count ∙ sym c.requires.count)
    (λ k l. old.done k (omega (arith, l, len, done, old.fits.count))) in
    (same, subst (λ xs. AreSumsOf net xs c.loop-i.sums.into.items c.loop-i.sums.out.items) same old.sums)
