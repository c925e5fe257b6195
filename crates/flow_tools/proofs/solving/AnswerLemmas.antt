-- What is found is what a job answers.
use Rattle.std.proofs.Common.{◌≡◌, ℕ, Bool, true, false, List, [], length, refl, subst, sym, ap, ◌∙◌}
use Rattle.flow_net.specs.MarkedNodes.{marked}
use Rattle.flow_net.specs.Nets.{Instance}
use Rattle.flow_tools.specs.running.AnswerExits.{IsAnswerTo}
use Rattle.flow_tools.specs.solving.Solutions.{IsSolution, IsMarkedCut}
use Rattle.flow_tools.specs.declared.solving.answers.Solved.{Solved}
use Rattle.flow_tools.specs.declared.solving.answers.MinimumCut.{MinimumCut}
use Rattle.flow_tools.specs.declared.running.answers.Answer.TheVariants.{Value, Flow, Cut as CutAnswer}
use Rattle.flow_tools.specs.declared.running.jobs.Job.TheVariants.{Solve, Cut as CutJob}
use Rattle.flow_tools.proofs.solving.PrintLemmas.{value_text_is}

-- a greatest value alone
pub solves_value : (p : Instance) (value : ℕ) (flows : List ℕ) → IsSolution p value flows
    → IsAnswerTo (Solve true) p [] (Value value)
solves_value p value flows h = (
  (
    record {
      value = value;
      flows = flows;
      greatest = h.value_is.greatest;
      feasible = h.feasible;
      valued = h.valued;
      no_loops = h.no_loops;
      text_is = value_text_is p.net value flows;
    },
    refl,
  ),
  tt,
)

-- with its flow
pub solves : (p : Instance) (solved : Solved) → solved.network ≡ p → IsSolution p solved.value solved.flows.items
    → IsAnswerTo (Solve false) p [] (Flow solved)
solves p solved same h = subst (λ q. IsAnswerTo (Solve false) q [] (Flow solved)) same (
  (
    record {
      value = solved.value;
      flows = solved.flows.items;
      greatest = g.value_is.greatest;
      feasible = g.feasible;
      valued = g.valued;
      no_loops = g.no_loops;
      text_is = refl;
    },
    refl,
  ),
  g.feasible.fits.count,
) where
  g : IsSolution solved.network solved.value solved.flows.items
  g = subst (λ q. IsSolution q solved.value solved.flows.items) (sym same) h

-- a minimum cut
pub cuts : (p : Instance) (arcs sink : Bool) (cut : MinimumCut) → cut.solved.network ≡ p
    → IsMarkedCut p sink cut.solved.value cut.side.items → length cut.side.items ≡ p.net.nodes
    → IsAnswerTo (CutJob arcs sink) p [] (CutAnswer cut arcs)
cuts p arcs sink cut same h count = subst (λ q. IsAnswerTo (CutJob arcs sink) q [] (CutAnswer cut arcs)) same (
  (
    record {
      value = cut.solved.value;
      X = marked cut.side.items;
      greatest = g.value_is.greatest;
      nearest = g.nearest;
      text_is = refl;
    },
    refl,
  ),
  count ∙ ap (λ (q : Instance). q.net.nodes) (sym same),
) where
  g : IsMarkedCut cut.solved.network sink cut.solved.value cut.side.items
  g = subst (λ q. IsMarkedCut q sink cut.solved.value cut.side.items) (sym same) h
