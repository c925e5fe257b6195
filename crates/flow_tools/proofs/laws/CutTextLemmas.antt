-- The laws of printed cuts. A set that is nearest the sources or the sinks is closed for a greatest flow, since every
-- minimum cut is: so it is a minimum cut.
use Rattle.std.proofs.Common.{true≢false, ◌≡◌, ℕ, Bool, true, false, not, List, refl, sym, subst, ◌∙◌, inl, inr, arith}
use Rattle.std.proofs.lemmas.Bool.{cases_Bool}
use Rattle.flow_net.specs.Nets.{Net, Instance, IsNode}
use Rattle.flow_net.specs.Limits.{IsNet, AreTerminals}
use Rattle.flow_net.specs.MarkedNodes.{marked}
use Rattle.flow_net.specs.NodeSets.{one_of}
use Rattle.flow_net.specs.Flows.{IsFeasible, HasValue}
use Rattle.flow_net.specs.Cuts.{IsCut, capacity, IsMinimumCut}
use Rattle.flow_net.specs.LeastCuts.{IsLeastCapacity}
use Rattle.flow_net.specs.Residual.{IsClosed, tail_of, head_of}
use Rattle.flow_net.proofs.Arrangements.{node_among}
use Rattle.flow_net.proofs.Cuts.{value_closed, closed_minimum, strong_duality}
use Rattle.flow_net.proofs.MaxFlows.{greatest_is_least}
use Rattle.flow_net.proofs.NodeLists.{terminals_apart}
use Rattle.flow_net.proofs.Zips.{head_is_node, tail_is_node}
use Rattle.flow_text.proofs.AcceptedLemmas.{accepted_problem}
use Rattle.flow_tools.specs.running.Answers.{IsNearest}
use Rattle.flow_tools.specs.laws.CutTexts.{GreatestIsLeast, IsValueOf, PrintedCutIsMinimum}
use Rattle.flow_tools.specs.solving.Solutions.{IsMarkedCut}

turned : (b c : Bool) → (b ≡ true → c ≡ true) → c ≡ false → b ≡ false
turned true c f e = absurd (true≢false (sym (f refl) ∙ e))
turned false c f e = refl

module _ (net : Net) (s t : ℕ → Bool) (k : ℕ) (xs : List ℕ) (n : IsNet net) (f : IsFeasible net s t xs)
    (valued : HasValue net s xs k) (l : IsLeastCapacity net s t k) where
  -- each minimum cut is closed for a greatest flow
  closed : (Y : ℕ → Bool) → IsMinimumCut net s t Y → IsClosed net xs Y
  closed Y m =
      let here = l.reached in
      let is : capacity net Y ≡ k = omega (arith, m.least here.0 here.1, here.2, l.least Y m.cut) in
      value_closed net s t Y xs n f m.cut (subst (HasValue net s xs) (sym is) valued)

  -- one minimum cut
  some : (Y : ℕ → Bool) × IsMinimumCut net s t Y
  some =
      let here = l.reached in
      (here.0, record { cut = here.1; least = λ Z c. omega (arith, here.2, l.least Z c) })

  -- half-arcs with a residual capacity don't leave a nearest set
  nearest_closed : (side : Bool) (X : ℕ → Bool) → IsNearest net s t side X → IsClosed net xs X
  nearest_closed true X near h l' i r =
      (near (head_of net h) (head_is_node net h n l')).1
      (λ Y m. closed Y m h l' ((near (tail_of net h) (tail_is_node net h n l')).0 i Y m) r)
  nearest_closed false X near h l' i r = elim (cases_Bool (X (head_of net h))) [
    | inl held ↦ held
    | inr missed ↦
        let out = (near (tail_of net h) (tail_is_node net h n l')).1
        (λ Y m. turned (Y (tail_of net h)) (Y (head_of net h)) (λ e. closed Y m h l' e r)
        ((near (head_of net h) (head_is_node net h n l')).0 missed Y m)) in
        absurd (true≢false (sym i ∙ out))
  ]

  module _ (starts : (v : ℕ) → s v ≡ true → IsNode net v) (ends : (v : ℕ) → t v ≡ true → IsNode net v) where
    nearest_cut : (side : Bool) (X : ℕ → Bool) → IsNearest net s t side X → IsCut s t X
    nearest_cut true X near = record {
      sources = λ v i. (near v (starts v i)).1 (λ Y m. m.cut.sources v i);
      sinks = λ v i. elim (cases_Bool (X v)) [
        | inl held ↦
            absurd (true≢false (sym ((near v (ends v i)).0 held some.0 some.1) ∙ some.1.cut.sinks v i))
        | inr missed ↦ missed
      ];
    }
    nearest_cut false X near = record {
      sources = λ v i. elim (cases_Bool (X v)) [
        | inl held ↦ held
        | inr missed ↦
            absurd (true≢false (sym (some.1.cut.sources v i) ∙ (near v (starts v i)).0 missed some.0 some.1))
      ];
      sinks = λ v i. (near v (ends v i)).1 (λ Y m. m.cut.sinks v i);
    }

    nearest_minimum : (side : Bool) (X : ℕ → Bool) → IsNearest net s t side X
        → IsMinimumCut net s t X × (capacity net X ≡ k)
    nearest_minimum side X near =
        let cut = nearest_cut side X near in
        let shut = nearest_closed side X near in
        let value = strong_duality net s t X xs n f cut shut in
        (closed_minimum net s t X xs n f cut shut, omega (arith, value, valued))

-- the laws
pub greatest_least : GreatestIsLeast
greatest_least b p value said g =
    let within = accepted_problem b p said in
    record {
      greatest = g;
      least = greatest_is_least p.net (one_of p.sources) (one_of p.sinks) value within.0
          (terminals_apart p.net p.sources p.sinks within.1.terminals) g;
    }

module _ (p : Instance) (r : IsNet p.net) (q : AreTerminals p.net p.sources p.sinks) (value : ℕ)
    (v : IsValueOf p value) where
  -- a nearest set is a minimum cut of the greatest value
  pub nearest_is_minimum : (side : Bool) (X : ℕ → Bool) → IsNearest p.net (one_of p.sources) (one_of p.sinks) side X
      → IsMinimumCut p.net (one_of p.sources) (one_of p.sinks) X × (capacity p.net X ≡ value)
  nearest_is_minimum side X near =
      let here = v.greatest.reached in
      nearest_minimum p.net (one_of p.sources) (one_of p.sinks) value here.0 r here.1 here.2 v.least
      (λ u i. node_among p.net p.sources u q.sources_within i) (λ u i. node_among p.net p.sinks u q.sinks_within i)
      side X near

pub printed_minimum : PrintedCutIsMinimum
printed_minimum b p arcs sink text said cut =
    let within = accepted_problem b p said in
    nearest_is_minimum p within.0 within.1.terminals cut.value (greatest_least b p cut.value said cut.greatest)
    (not sink) cut.X cut.nearest

-- the marks of a nearest set are those of a minimum cut
pub marked_cut : (p : Instance) (sink : Bool) (value : ℕ) (side : List Bool) → IsNet p.net
    → AreTerminals p.net p.sources p.sinks → IsValueOf p value
    → IsNearest p.net (one_of p.sources) (one_of p.sinks) (not sink) (marked side) → IsMarkedCut p sink value side
marked_cut p sink value side r q v near =
    let cut = nearest_is_minimum p r q value v (not sink) (marked side) near in
    record { value_is = v; minimum = cut.0; valued = cut.1; nearest = near }
