-- An accepted problem is a problem within the limits, and an accepted solution keeps its limits.
use Rattle.std.proofs.Common.{◌≡◌, ◌<◌, ◌≤◌, ℕ, ◌==◌, Bool, true, false, not, ◌||◌, List, [], ◌∷◌, ◌++◌, length, refl}
use Rattle.std.proofs.Common.{◌∙◌, sym, subst, arith, inl, inr, length-append, Option, Some, None, Ok, nat_lt, nat_le}
use Rattle.std.proofs.Common.{is_some, rules as std_rules}
use Rattle.std.specs.Prelude.{codes, if◌then◌else◌}
use Rattle.std.specs.List.{All}
use Rattle.std.specs.Str.{bytes_eq}
use Rattle.std.proofs.lemmas.Bool.{cases_Bool}
use Rattle.std.proofs.lemmas.Grind.{common_steps}
use Rattle.std.proofs.lemmas.List.Elements.{All-append, All-cons}
use Rattle.flow_net.specs.declared.networks.Arc.{Arc}
use Rattle.flow_net.specs.declared.limits.TheConstants.{FEWEST_NODES, MOST_PROBLEM_NODES, MOST_PROBLEM_ARCS}
use Rattle.flow_net.specs.Nets.{Instance}
use Rattle.flow_net.specs.Limits.{IsNet, IsProblem, IsArcWithin, AreDistinct}
use Rattle.flow_text.specs.Lines.{lines}
use Rattle.flow_text.specs.Fields.{field_at}
use Rattle.flow_text.specs.Tests.{first_failed, number_tests, ends_tests}
use Rattle.flow_text.specs.Terminals.{Marks, is_marked, lacks_one}
use Rattle.flow_text.specs.Rules.{whole_fault}
use Rattle.flow_text.specs.Problem.{Known, known_of, problem, problem_rules, problem_record_fault}
use Rattle.flow_text.specs.ProblemReading.{problem_tests, mark_tests}
use Rattle.flow_text.specs.Problem.{size_tests, node_tests, arc_tests, end_tests, instance_of}
use Rattle.flow_text.specs.Problem.{nodes}
use Rattle.flow_text.specs.ProblemReading.{marks_of, size_of, node_of, arc_of, with_problem_record, with_node}
use Rattle.flow_text.specs.Solution.{stated_of, solution, solution_rules, solution_record_fault}
use Rattle.flow_text.specs.SolutionReading.{SolutionSoFar, so_far_of, so_far_rules, stated_in}
use Rattle.flow_text.specs.Solution.{value_tests}
use Rattle.flow_text.specs.SolutionReading.{Written, written_of}
use Rattle.flow_text.specs.declared.solutions.FlowLine.{FlowLine}
use Rattle.flow_text.specs.SolutionReading.{flow_of, with_solution_record, IsLineWithin, IsWithinLimits}
use Rattle.flow_text.specs.declared.faults.FaultCode.{FaultCode}
use Rattle.flow_text.specs.declared.faults.FaultCode.TheVariants.{UnknownLine, WrongFields, NotMax, NotTerminal}
use Rattle.flow_text.specs.declared.faults.FaultCode.TheVariants.{AlreadyTerminal, SecondProblemLine, TerminalsMissing}
use Rattle.flow_text.specs.declared.faults.FaultCode.TheVariants.{TooManyArcs, TooFewArcs, NodeLineAfterArcLine}
use Rattle.flow_text.specs.declared.faults.FaultCode.TheVariants.{SecondSolutionLine, SolutionLineMissing}
use Rattle.flow_text.specs.declared.faults.FaultCode.TheVariants.{TooManyFlowLines, NodesOutOfRange, ArcsOutOfRange}
use Rattle.flow_text.specs.declared.faults.FaultCode.TheVariants.{NodeOutOfRange, CapacityOutOfRange, FlowOutOfRange}
use Rattle.flow_text.specs.declared.faults.FaultCode.TheVariants.{ValueOutOfRange}
use Rattle.flow_text.proofs.KindLemmas.{none_from, is_not_other}
use Rattle.flow_text.proofs.ProblemLemmas.{Adds-problem, of_problem, of_node, of_arc, of_unknown}
use Rattle.flow_text.proofs.SolutionLemmas.{Adds-solution, of_solution, of_flow, of_unknown as of_unknown_solution}
use Rattle.flow_text.proofs.SolutionLemmas.{whole-same}
use Rattle.flow_text.proofs.TerminalLemmas.{AreDistinct-source, AreDistinct-sink}
use Rattle.flow_text.proofs.WithinLemmas.{by_text, accepted-parts, passed, number-passed, ends-passed}
use Rattle.flow_text.specs.declared.limits.TheConstants.{GREATEST_VALUE, MOST_FLOW_LINES}

right_of : (a b : Bool) → not (a || b) ≡ false → a ≡ false → b ≡ true
right_of a true h is = refl
right_of true false h is = cc
right_of false false h is = cc

-- a node, by the number of nodes
abbrev pub InNodes : ℕ → ℕ → Type 0
InNodes n v = (1 ≤ v) × (v ≤ n)

-- the limits of what is known from a problem line on
pub record Inside (nodes declared : ℕ) (marks : Marks) (arcs : List Arc) : Type 0 where
  pub nodes_least : FEWEST_NODES ≤ nodes
  pub nodes_most : nodes ≤ MOST_PROBLEM_NODES
  pub declared_most : declared ≤ MOST_PROBLEM_ARCS
  pub arcs_most : length arcs ≤ declared
  pub arcs_within : All (IsArcWithin nodes) arcs
  pub sources_within : All (InNodes nodes) marks.sources
  pub sinks_within : All (InNodes nodes) marks.sinks
  pub distinct : AreDistinct (marks.sources ++ marks.sinks)

-- nothing is known before a problem line
abbrev pub InsideFrom : Option (ℕ × ℕ) → Marks → List Arc → Type 0
InsideFrom None marks arcs = (marks ≡ record { sources = []; sinks = [] }) × (arcs ≡ [])
InsideFrom (Some size) marks arcs = Inside size.0 size.1 marks arcs

-- what is known, with the terminals in one record
abbrev known_by : Option (ℕ × ℕ) → Marks → List Arc → Known
known_by size marks arcs =
    record { size = size; sources = marks.sources; sinks = marks.sinks; arcs = arcs }

abbrev pub IsInside : Known → Type 0
IsInside k = InsideFrom k.size (marks_of k) k.arcs

-- a problem line
sized : (k : Known) (fields : List (List ℕ)) → first_failed (problem_tests k fields) ≡ None → IsInside k
    → Inside (size_of fields).0 (size_of fields).1 (marks_of k) k.arcs
unfolding size_tests
sized k fields h p =
    let first = passed (is_some k.size) SecondProblemLine (first_failed (size_tests fields)) h in
    let none = none_from k.size first.0 in
    let empty : InsideFrom None (marks_of k) k.arcs = subst (λ o. InsideFrom o (marks_of k) k.arcs) none p in
    let count = passed (not (length fields == 4)) WrongFields _ first.1 in
    let max = passed (not (bytes_eq (field_at fields 1) (codes "max"))) NotMax _ count.1 in
    let n = number-passed (field_at fields 2) FEWEST_NODES MOST_PROBLEM_NODES NodesOutOfRange
    (number_tests (field_at fields 3) 0 MOST_PROBLEM_ARCS ArcsOutOfRange) max.1 in
    let m = number-passed (field_at fields 3) 0 MOST_PROBLEM_ARCS ArcsOutOfRange [] n.others in
    let n_from = n.from in let n_to = n.to in let m_to = m.to in
    rw (empty.0, empty.1) (record {
      nodes_least = omega arith;
      nodes_most = omega arith;
      declared_most = omega arith;
      arcs_most = omega arith;
      arcs_within = search std_rules;
      sources_within = search std_rules;
      sinks_within = search std_rules;
      distinct = λ i j lt high same. absurd (omega arith);
    })

-- a node line
marked : (n m : ℕ) (marks : Marks) (arcs : List Arc) (fields : List (List ℕ))
    → first_failed (mark_tests n marks fields) ≡ None → Inside n m marks arcs
    → Inside n m (with_node marks fields) arcs
unfolding mark_tests
marked n m marks arcs fields h p =
    let not_letter = not (bytes_eq (field_at fields 2) (codes "s") || bytes_eq (field_at fields 2) (codes "t")) in
    let taken = is_marked marks (node_of fields) in
    let count = passed (not (length fields == 3)) WrongFields _ h in
    let node = number-passed (field_at fields 1) 1 n NodeOutOfRange
    ((not_letter, NotTerminal) ∷ (taken, AlreadyTerminal) ∷ []) count.1 in
    let letter = passed not_letter NotTerminal (if taken then Some AlreadyTerminal else None) node.others in
    let new = passed taken AlreadyTerminal None letter.1 in
    let is : InNodes n (node_of fields) = (node.from, node.to) in
    elim (cases_Bool (bytes_eq (field_at fields 2) (codes "s"))) [
      | inl s ↦ rw (s, is_not_other (field_at fields 2) (codes "s") (codes "t") s refl) (record {
        nodes_least = p.nodes_least;
        nodes_most = p.nodes_most;
        declared_most = p.declared_most;
        arcs_most = p.arcs_most;
        arcs_within = p.arcs_within;
        sources_within =
            All-append (InNodes n) marks.sources (node_of fields ∷ []) p.sources_within
            (All-cons (InNodes n) (node_of fields) [] is (search std_rules));
        sinks_within = p.sinks_within;
        distinct = AreDistinct-source marks (node_of fields) p.distinct new.0;
      })
      | inr s ↦
          let t : bytes_eq (field_at fields 2) (codes "t") ≡ true =
          right_of (bytes_eq (field_at fields 2) (codes "s")) (bytes_eq (field_at fields 2) (codes "t")) letter.0
          s in
          rw (s, t) (record {
            nodes_least = p.nodes_least;
            nodes_most = p.nodes_most;
            declared_most = p.declared_most;
            arcs_most = p.arcs_most;
            arcs_within = p.arcs_within;
            sources_within = p.sources_within;
            sinks_within =
                All-append (InNodes n) marks.sinks (node_of fields ∷ []) p.sinks_within
                (All-cons (InNodes n) (node_of fields) [] is (search std_rules));
            distinct = AreDistinct-sink marks (node_of fields) p.distinct new.0;
          })
    ]

noded : (size : Option (ℕ × ℕ)) (marks : Marks) (arcs : List Arc) (fields : List (List ℕ))
    → first_failed (node_tests (known_by size marks arcs) fields) ≡ None
    → InsideFrom size marks arcs → InsideFrom size (with_node marks fields) arcs
unfolding mark_tests
noded None marks arcs fields h p = cc
noded (Some size) marks arcs fields h p =
    let early = passed (nat_lt 0 (length arcs)) NodeLineAfterArcLine
    (first_failed (mark_tests size.0 marks fields))
    h in
    marked size.0 size.1 marks arcs fields early.1 p

-- an arc line
arced : (size : Option (ℕ × ℕ)) (marks : Marks) (arcs : List Arc) (fields : List (List ℕ))
    → first_failed (arc_tests (known_by size marks arcs) fields) ≡ None
    → InsideFrom size marks arcs → InsideFrom size marks (arcs ++ arc_of fields ∷ [])
arced None marks arcs fields h p = cc
arced (Some size) marks arcs fields h p =
    let terminals = passed (lacks_one marks) TerminalsMissing
    (if nat_le size.1 (length arcs) then Some TooManyArcs else first_failed
    (ends_tests size.0 CapacityOutOfRange fields)) h in
    let few = passed (nat_le size.1 (length arcs)) TooManyArcs
    (first_failed (ends_tests size.0 CapacityOutOfRange fields)) terminals.1 in
    let room : length arcs < size.1 = let f = few.0 in grind (arith, common_steps, f) in
    let e = ends-passed size.0 CapacityOutOfRange fields few.1 in
    let is : IsArcWithin size.0 (arc_of fields) = record {
      src_least = e.src_least;
      src_most = e.src_most;
      dst_least = e.dst_least;
      dst_most = e.dst_most;
      cap_fits = e.fits;
    } in
    record {
      nodes_least = p.nodes_least;
      nodes_most = p.nodes_most;
      declared_most = p.declared_most;
      arcs_most = omega (arith, length-append arcs (arc_of fields ∷ []));
      arcs_within =
          All-append (IsArcWithin size.0) arcs (arc_of fields ∷ []) p.arcs_within
          (All-cons (IsArcWithin size.0) (arc_of fields) [] is (search std_rules));
      sources_within = p.sources_within;
      sinks_within = p.sinks_within;
      distinct = p.distinct;
    }

keeps : (k : Known) (letter : List ℕ) (others : List (List ℕ)) → problem_record_fault k (letter ∷ others) ≡ None
    → IsInside k → IsInside (with_problem_record k (letter ∷ others))
keeps k letter others fine p = elim (cases_Bool (bytes_eq letter (codes "p"))) [
  | inl is ↦
      let of = of_problem k letter others is in
      subst IsInside (sym of.1) (sized k (letter ∷ others) (sym of.0 ∙ fine) p)
  | inr no_p ↦ elim (cases_Bool (bytes_eq letter (codes "n"))) [
    | inl is ↦
        let of = of_node k letter others no_p is in
        subst IsInside (sym of.1) (noded k.size (marks_of k) k.arcs (letter ∷ others) (sym of.0 ∙ fine) p)
    | inr no_n ↦ elim (cases_Bool (bytes_eq letter (codes "a"))) [
      | inl is ↦
          let of = of_arc k letter others no_p no_n is in
          subst IsInside (sym of.1) (arced k.size (marks_of k) k.arcs (letter ∷ others) (sym of.0 ∙ fine) p)
      | inr no_a ↦
          let no' : ◌≡◌ {A = Option FaultCode} None (Some UnknownLine) =
          sym fine ∙ of_unknown k letter others no_p no_n no_a in
          cc
    ]
  ]
]

-- what an end without a fault says
closed : (size : Option (ℕ × ℕ)) (marks : Marks) (arcs : List Arc)
    → first_failed (end_tests (known_by size marks arcs)) ≡ None → InsideFrom size marks arcs
    → let p = instance_of (known_by size marks arcs) in IsNet p.net × IsProblem p
closed None marks arcs h p = cc
closed (Some size) marks arcs h p =
    let terminals = passed (lacks_one marks) TerminalsMissing
    (if nat_lt (length arcs) size.1 then Some TooFewArcs else None) h in
    let lacks = terminals.0 in
    let nodes = p.nodes_most in let declared = p.declared_most in let most = p.arcs_most in (
      record {
        nodes_least = p.nodes_least;
        nodes_most = omega arith;
        arcs_most = omega arith;
        arcs_within = p.arcs_within;
      },
      record {
        nodes_most = p.nodes_most;
        arcs_most = omega arith;
        terminals = record {
          some_source = grind (arith, common_steps, lacks);
          some_sink = grind (arith, common_steps, lacks);
          sources_within = p.sources_within;
          sinks_within = p.sinks_within;
          distinct = p.distinct;
        };
      },
    )

nothing : IsInside (known_of [])
unfolding known_of
nothing = (refl, refl)

pub accepted_problem : (b : List ℕ) (p : Instance) → problem b ≡ Ok p → IsNet p.net × IsProblem p
unfolding problem
accepted_problem b p h =
    let parts = accepted-parts _ p (whole_fault problem_rules known_of b) h in
    let k = known_of (lines b) in
    let whole = by_text problem_rules known_of with_problem_record Adds-problem IsInside keeps b nothing parts.0 in
    subst (λ (q : Instance). IsNet q.net × IsProblem q) parts.1 (closed k.size (marks_of k) k.arcs whole.1 whole.0)

-- a solution's lines
abbrev pub IsInsideSolution : SolutionSoFar → Type 0
IsInsideSolution k = IsWithinLimits k.nodes (written_of (stated_in k))

keeps_solution : (k : SolutionSoFar) (letter : List ℕ) (others : List (List ℕ))
    → solution_record_fault k.nodes (stated_in k) (letter ∷ others) ≡ None → IsInsideSolution k
    → IsInsideSolution (with_solution_record k (letter ∷ others))
unfolding value_tests
keeps_solution k letter others fine p = elim (cases_Bool (bytes_eq letter (codes "s"))) [
  | inl is ↦
      let of = of_solution k letter others is in
      let first = passed (is_some k.value) SecondSolutionLine (first_failed (value_tests (letter ∷ others)))
      (sym of.0 ∙ fine) in
      let count = passed (not (length (letter ∷ others) == 2)) WrongFields _ first.1 in
      let value = number-passed (field_at (letter ∷ others) 1) 0 GREATEST_VALUE ValueOutOfRange [] count.1 in
      subst IsInsideSolution (sym of.1)
      (record { value_most = value.to; lines_most = p.lines_most; lines_within = p.lines_within })
  | inr no_s ↦ elim (cases_Bool (bytes_eq letter (codes "f"))) [
    | inl is ↦
        let of = of_flow k letter others no_s is in
        let some = passed (not (is_some k.value)) SolutionLineMissing
        (if nat_le MOST_FLOW_LINES (length k.lines) then Some TooManyFlowLines else first_failed
        (ends_tests k.nodes FlowOutOfRange (letter ∷ others))) (sym of.0 ∙ fine) in
        let few = passed (nat_le MOST_FLOW_LINES (length k.lines)) TooManyFlowLines
        (first_failed (ends_tests k.nodes FlowOutOfRange (letter ∷ others))) some.1 in
        let room : length k.lines < MOST_FLOW_LINES = let f = few.0 in grind (arith, common_steps, f) in
        let fields = letter ∷ others in
        let e = ends-passed k.nodes FlowOutOfRange fields few.1 in
        let e_fits = e.fits in
        let is_line : IsLineWithin k.nodes (flow_of fields) = record {
          src_least = e.src_least;
          src_most = e.src_most;
          dst_least = e.dst_least;
          dst_most = e.dst_most;
          flow_fits = omega arith;
        } in
        subst IsInsideSolution (sym of.1) (record {
          value_most = p.value_most;
          lines_most = omega (arith, length-append k.lines (flow_of fields ∷ []));
          lines_within =
              All-append (IsLineWithin k.nodes) k.lines (flow_of fields ∷ []) p.lines_within
              (All-cons (IsLineWithin k.nodes) (flow_of fields) [] is_line (search std_rules));
        })
    | inr no_f ↦
        let no' : ◌≡◌ {A = Option FaultCode} None (Some UnknownLine) =
        sym fine ∙ of_unknown_solution k letter others no_s no_f in
        cc
  ]
]

nothing_stated : (nodes : ℕ) → IsInsideSolution (so_far_of nodes [])
unfolding stated_of
nothing_stated nodes = record { value_most = omega arith; lines_most = omega arith; lines_within = search std_rules }

pub accepted_solution : (b : List ℕ) (nodes : ℕ) (found : Written)
    → solution b nodes ≡ Ok (found.value, found.lines)
    → IsWithinLimits nodes found
unfolding solution
accepted_solution b nodes found h =
    let parts = accepted-parts _ (found.value, found.lines) (whole_fault (solution_rules nodes) stated_of b) h in
    let whole = by_text so_far_rules (so_far_of nodes) with_solution_record (Adds-solution nodes) IsInsideSolution
    keeps_solution b (nothing_stated nodes) (whole-same nodes b ∙ parts.0) in
    subst (λ (w : ℕ × List FlowLine). IsWithinLimits nodes (record { value = w.0; lines = w.1 })) parts.1 whole.0
