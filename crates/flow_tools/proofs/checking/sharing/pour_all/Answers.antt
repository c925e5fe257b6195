-- Line after line is poured, in the order of their pairs: what was poured before stays, and where flow is left, the
-- line's pair is the first that is over.
use Rattle.std.proofs.Common.{◌≡◌, ◌-◌, get_or, ap, arith, subst}
use Rattle.std.proofs.lemmas.List.{get_or_default}
use Rattle.flow_tools.specs.checking.ArcShares.{line_rank, HasMore}
use Rattle.flow_tools.proofs.checking.Shares.{no_line, first_over, carries_more, passed_further}
use Rattle.flow_tools.proofs.checking.sharing.pour_all.Goals as goal

pub returns-then-left-gt0-clause-answer : goal.returns-then-left-gt0-clause-answer
returns-then-left-gt0-clause-answer c =
    first_over c.args.net.now c.args.lines.now c.loop-line.line-index c.pour-next.result.1 c.loop-line.flow.flows
    c.pour-next.new.flow.flows c.requires.places.listed.limits c.requires.within c.requires.ordered (record {
      within = c.loop-line-test.true;
      carries = c.loop-line.invariant.carries;
      more = c.pour-next.ensures.more;
      some = c.if-left-gt0.true;
      at_most = c.pour-next.ensures.left;
      full = c.pour-next.ensures.full c.if-left-gt0.true;
      fits = c.pour-next.ensures.fits;
    })

pub loop-line-preserved : goal.loop-line-preserved
loop-line-preserved c =
    let line = get_or c.args.lines.now c.loop-line.line-index no_line in
    let none : line.flow - c.pour-next.result.1 ≡ line.flow = omega arith in
    let more : HasMore c.args.net.now c.loop-line.flow.flows line.src line.dst line.flow c.pour-next.new.flow.flows =
    subst (λ n. HasMore c.args.net.now c.loop-line.flow.flows line.src line.dst n c.pour-next.new.flow.flows) none
    c.pour-next.ensures.more in
    record {
      at_most = c.pour-next.ensures.at;
      fits = c.pour-next.ensures.fits;
      carries =
          carries_more c.args.net.now c.args.lines.now c.loop-line.line-index c.loop-line.flow.flows
          c.pour-next.new.flow.flows c.loop-line-test.true c.loop-line.invariant.carries more;
      passed = λ j d above l.
          (let up = c.requires.ordered c.loop-line.line-index j d (omega arith) l in
          let here = ap line_rank
          (get_or_default c.args.lines.now c.loop-line.line-index d no_line c.loop-line-test.true) in
          passed_further c.args.net.now c.args.places.now c.pour-next.result.0 (line_rank line)
          (line_rank (get_or c.args.lines.now j d)) c.pour-next.new.flow.flows (omega arith)
          c.pour-next.ensures.passed);
    }
