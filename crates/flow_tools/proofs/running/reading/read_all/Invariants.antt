-- The bytes pulled so far are those fed; each pull that delivers some brings the input nearer to its end.
use Rattle.std.proofs.Common.{ℕ, []}
use Rattle.flow_tools.proofs.running.PullLemmas.{IsReading}
use Rattle.flow_tools.proofs.running.reading.read_all.Given as goal

abbrev pub invariant-loop-reader : goal.invariant-loop-reader
invariant-loop-reader g l = (n : ℕ) → g.R.Reader.reads l.fn.reader n []
    → IsReading (g.R.Reader.reads l.reader n) (g.I.Input.state l.initial.input).bytes (g.I.Input.state l.input).bytes
    (g.I.Input.state l.initial.input).failed (g.I.Input.state l.input).failed

abbrev pub decreases-loop-reader : goal.decreases-loop-reader
decreases-loop-reader g l = g.I.Input.bound l.input
