-- A piece that was pulled and fed is one more piece that was read; where the reader refuses it, the run stops with the
-- fault that it names.
use Rattle.std.proofs.Common.{arith}
use Rattle.flow_tools.proofs.running.PullLemmas.{reading_starts, goes_on, pull_fails, accepted}
use Rattle.flow_tools.proofs.running.PullLemmas.{refused, refused_at_end, piece_fits}
use Rattle.flow_tools.proofs.running.reading.read_all.Goals as goal

pub loop-reader-init : goal.loop-reader-init
loop-reader-init g c = λ n h. reading_starts _ _ _ h

pub returns-in-Err : goal.returns-in-Err
returns-in-Err g c = λ n h.
    pull_fails (g.R.Reader.early n) (g.R.Reader.reads c.loop-reader.reader n) (g.met.R.Reader.quiet _ n) _ _ _ _ _ _
    (c.loop-reader.invariant n h) _ _ _ c.in-Err.ensures.bytes c.in-Err.ensures.flag

pub loop-reader-smaller : goal.loop-reader-smaller
loop-reader-smaller g c = c.in-Ok.ensures.falls (omega (arith, c.in-Ok.count-test.1))

pub loop-reader-preserved : goal.loop-reader-preserved
loop-reader-preserved g c n h =
    goes_on (g.R.Reader.early n) (g.R.Reader.reads c.loop-reader.reader n) (g.met.R.Reader.quiet _ n) _ _ _ _ _ _
    (c.loop-reader.invariant n h) _ _ c.in-Ok.ensures.bytes.0 c.in-Ok.ensures.flag (c.in-Ok-feed.ensures n)

pub returns-in-Err-feed : goal.returns-in-Err-feed
returns-in-Err-feed g c n h =
    refused (g.R.Reader.early n) (g.R.Reader.reads c.loop-reader.reader n) (g.met.R.Reader.quiet _ n) _ _ _ _ _ _
    (c.loop-reader.invariant n h) _ _ _ (g.R.Reader.reads c.feed.new.self n) _ (piece_fits _ _ c.in-Ok.ensures.fits)
    c.in-Ok.ensures.bytes.0 c.in-Ok.ensures.flag c.in-Err-feed.fault _ (c.in-Err-feed.ensures n) c.stop_of.ensures

pub returns-in-Ok-finish : goal.returns-in-Ok-finish
returns-in-Ok-finish g c n h =
    accepted (g.R.Reader.early n) (g.R.Reader.reads c.loop-reader.reader n) (g.met.R.Reader.quiet _ n) _ _ _ _ _ _
    (c.loop-reader.invariant n h) _ _ _ (rw c.in-Ok-eq0.field-0-test at c.in-Ok-eq0.ensures.bytes.0)
    (c.in-Ok-eq0.ensures.bytes.1 c.in-Ok-eq0.field-0-test (omega (arith, c.pull.array_long))) c.in-Ok-eq0.ensures.flag
    _ (c.in-Ok-finish.ensures n)

pub returns-in-Err-finish : goal.returns-in-Err-finish
returns-in-Err-finish g c n h =
    refused_at_end (g.R.Reader.early n) (g.R.Reader.reads c.loop-reader.reader n) (g.met.R.Reader.quiet _ n)
    _ _ _ _ _ _ (c.loop-reader.invariant n h) _ _ _ (rw c.in-Ok-eq0.field-0-test at c.in-Ok-eq0.ensures.bytes.0)
    (c.in-Ok-eq0.ensures.bytes.1 c.in-Ok-eq0.field-0-test (omega (arith, c.pull.array_long))) c.in-Ok-eq0.ensures.flag
    _ _ (c.in-Err-finish.ensures n) c.stop_of-in-Err-finish.ensures
