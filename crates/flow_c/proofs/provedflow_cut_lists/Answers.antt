-- `provedflow_cut_lists`: a refusal is told, with nothing written; good lists are refused for want of memory alone.
use Rattle.std.proofs.Common.{refl}
use Rattle.flow_c.proofs.FaultLemmas.{never_none, told_by, good_refused}
use Rattle.flow_c.proofs.provedflow_cut_lists.Goals as goal

pub returns-in-Err : goal.returns-in-Err
returns-in-Err c =
    let r = c.in-Err.refusal in let h = c.in-Err.ensures in
    rw c.status_of.ensures (record {
      ok = λ e. absurd (never_none r e);
      flow = λ _. h.flow;
      side = λ _. h.side;
      high = λ _. refl;
      low = λ _. refl;
      taken = λ e. absurd (never_none r e);
      told = told_by _ _ _ _ _ _ _ r (λ _ bad. bad) h.refused;
      refused = good_refused _ _ _ _ _ _ r (λ l. l.0.1) h.refused;
    })
