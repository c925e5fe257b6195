-- `provedflow_links_lists`: a refusal is told, with nothing written; good lists are refused for want of memory alone.
use Rattle.std.proofs.Common.{◌∙◌, refl, sym, [], ◌∷◌}
use Rattle.flow_c.proofs.FaultLemmas.{never_none, told_by, good_refused, first_two, no_bad_two}
use Rattle.flow_c.proofs.provedflow_links_lists.Goals as goal
use Rattle.flow_c.proofs.provedflow_links_lists.Goals.{then-pair, else-pair}

pub returns-in-Err : goal.returns-in-Err
returns-in-Err c =
    let r = c.in-Err.refusal in
    rw c.status_of.ensures (record {
      pair = λ e _. absurd (never_none r e);
      whole = λ e _. absurd (never_none r e);
      links = λ _. refl;
      taken = λ e. absurd (never_none r e);
      told = elim c.if-pair.branch [
        | then-pair w ↦
            told_by _ _ _ _ _ _ _ r (λ _ bad. (w.if-pair.true, bad))
            (rw (sym w.found-is ∙ c.in-Err.is) at w.count_links-found.ensures.refused)
        | else-pair w ↦
            told_by _ _ _ _ _ (0 ∷ []) (1 ∷ []) r (λ least bad. absurd (no_bad_two c.args.nodes least bad))
            (rw (sym w.found-is ∙ c.in-Err.is) at w.count_links-found-else-pair.ensures.refused)
      ];
      refused = λ arcs ends. elim c.if-pair.branch [
        | then-pair w ↦
            good_refused _ _ _ _ _ _ r (λ l. l.1)
            (rw (sym w.found-is ∙ c.in-Err.is) at w.count_links-found.ensures.refused) arcs (ends w.if-pair.true)
        | else-pair w ↦
            good_refused _ _ _ _ _ _ r (λ l. l.1)
            (rw (sym w.found-is ∙ c.in-Err.is) at w.count_links-found-else-pair.ensures.refused) arcs
            (first_two c.args.nodes arcs.nodes_least)
      ];
    })
