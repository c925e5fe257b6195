-- The lines of a printed flow, read as those of a solution.
use Rattle.std.proofs.Common.{◌≡◌, ℕ, ◌+◌, ◌^◌, ◌≤◌, ◌<◌, true, false, List, [], ◌∷◌, ◌++◌, length, refl, ◌∙◌, sym, ap}
use Rattle.std.proofs.Common.{append_assoc, append-nil, length-append, Some, None, nat_lt, nat_le, is_some, Ok, arith}
use Rattle.std.proofs.Common.{rules as std_rules}
use Rattle.std.specs.Prelude.{decimal, map}
use Rattle.std.specs.List.{All, AllByRecursion, AllZip, flat_map, zip}
use Rattle.std.proofs.lemmas.Bool.{le-ltb}
use Rattle.std.proofs.lemmas.List.Elements.{All-nil, All-cons, All-append, recursion_from_All}
use Rattle.flow_net.specs.declared.networks.Arc.{Arc}
use Rattle.flow_net.specs.Nets.{Net}
use Rattle.flow_net.specs.Limits.{IsNet, IsArcWithin}
use Rattle.flow_net.specs.Flows.{Fits}
use Rattle.flow_net.proofs.Zips.{zip_from_fits}
use Rattle.flow_text.specs.Lines.{rest, lines}
use Rattle.flow_text.specs.LineParts.{is_end, joined, HasNoEnd}
use Rattle.flow_text.specs.Fields.{fields_of}
use Rattle.flow_text.specs.LineParts.{is_blank}
use Rattle.flow_text.specs.Digits.{value_of}
use Rattle.flow_text.specs.Numbers.{is_number}
use Rattle.flow_text.specs.Tests.{first_failed}
use Rattle.flow_text.specs.Rules.{fault_of, first_fault, whole_fault}
use Rattle.flow_text.specs.Output.{line_of, flow_line, solve_text}
use Rattle.flow_text.specs.Reading.{with_line}
use Rattle.flow_text.specs.Solution.{solution, stated_of, value_tests, flow_tests}
use Rattle.flow_text.specs.SolutionReading.{SolutionSoFar, so_far_of, so_far_rules, stated_in}
use Rattle.flow_text.specs.SolutionReading.{solution_tests}
use Rattle.flow_text.specs.SolutionReading.{given_of, flow_of, with_solution_record}
use Rattle.flow_text.specs.declared.solutions.FlowLine.{FlowLine}
use Rattle.flow_text.specs.declared.faults.FaultCode.TheVariants.{FlowOutOfRange}
use Rattle.flow_net.specs.declared.limits.TheConstants.{MOST_NODES, MOST_PROBLEM_ARCS}
use Rattle.flow_text.specs.declared.limits.TheConstants.{LONGEST_LINE, MOST_FLOW_LINES, GREATEST_VALUE}
use Rattle.flow_text.proofs.CutLemmas.{ended-joined}
use Rattle.flow_text.proofs.FieldLemmas.{fields_of-blank, fields_of-last, fields_of-field}
use Rattle.flow_text.proofs.RuleLemmas.{of_fields}
use Rattle.flow_text.proofs.SolutionLemmas.{of_solution, of_flow, Adds-solution, whole-same}
use Rattle.flow_text.proofs.UsualLemmas.{ends-pass}
use Rattle.flow_text.proofs.OutputLemmas.{value_line_short, flow_line_short}
use Rattle.flow_tools.specs.laws.SolvedTexts.{carried_line}
use Rattle.flow_tools.proofs.laws.PrintedNumbers.{IsPrinted, printed, digits_solid, number_printed}

-- ---- lines without their byte 10

-- the line of the value, that of a flow, and that of an arc's flow
abbrev pub value_body : ℕ → List ℕ
value_body value = 115 ∷ 32 ∷ decimal value

abbrev pub flow_body : ℕ → ℕ → ℕ → List ℕ
flow_body src dst flow = 102 ∷ 32 ∷ (decimal src ++ 32 ∷ (decimal dst ++ 32 ∷ decimal flow))

abbrev pub body_of : Arc × ℕ → List ℕ
body_of (arc, flow) = flow_body arc.src arc.dst flow

-- a word and three numbers with their blanks, from the left to the right
regroup : (w s a b c e : List ℕ)
    → w ++ ((s ++ a) ++ ((s ++ b) ++ ((s ++ c) ++ []))) ++ e ≡ (w ++ (s ++ (a ++ (s ++ (b ++ (s ++ c)))))) ++ e
regroup w s a b c e = simp append_assoc

-- with byte 10 behind they are the printed lines
value_line_is : (value : ℕ) → line_of "s" (value ∷ []) ≡ value_body value ++ 10 ∷ []
unfolding line_of
value_line_is value = simp append_assoc

flow_line_is : (src dst flow : ℕ) → line_of "f" (src ∷ dst ∷ flow ∷ []) ≡ flow_body src dst flow ++ 10 ∷ []
unfolding line_of
flow_line_is src dst flow = regroup (102 ∷ []) (32 ∷ []) (decimal src) (decimal dst) (decimal flow) (10 ∷ [])

-- the printed text is these lines, joined
flows_joined : (zs : List (Arc × ℕ)) → flat_map flow_line zs ≡ joined (map body_of zs) []
flows_joined [] = refl
flows_joined ((a, x) ∷ zs) =
    ap (λ l. l ++ flat_map flow_line zs) (flow_line_is a.src a.dst x)
    ∙ append_assoc (flow_body a.src a.dst x) (10 ∷ []) (flat_map flow_line zs)
    ∙ ap (λ l. flow_body a.src a.dst x ++ 10 ∷ l) (flows_joined zs)

text_joined : (net : Net) (value : ℕ) (flows : List ℕ)
    → solve_text false net value flows ≡ joined (value_body value ∷ map body_of (zip net.arcs flows)) []
unfolding solve_text
text_joined net value flows =
    ap (λ l. l ++ flat_map flow_line (zip net.arcs flows)) (value_line_is value)
    ∙ append_assoc (value_body value) (10 ∷ []) (flat_map flow_line (zip net.arcs flows))
    ∙ ap (λ l. value_body value ++ 10 ∷ l) (flows_joined (zip net.arcs flows))

-- ---- their fields

-- the fields of the line of the value, and of a flow's
value_fields : (value : ℕ) (ds : List ℕ) → IsPrinted value ds → fields_of (115 ∷ 32 ∷ ds) ≡ (115 ∷ []) ∷ ds ∷ []
value_fields value ds p =
    fields_of-field (115 ∷ []) 32 ds (omega arith)
    (All-cons (λ c. is_blank c ≡ false) 115 [] refl (All-nil (λ c. is_blank c ≡ false))) refl
    ∙ ap (λ fs. (115 ∷ []) ∷ fs) (fields_of-blank 32 ds refl ∙ fields_of-last ds p.some (digits_solid ds p.digits).0)

flow_fields : (src dst flow : ℕ) (s t x : List ℕ) → IsPrinted src s → IsPrinted dst t → IsPrinted flow x
    → fields_of (102 ∷ 32 ∷ (s ++ 32 ∷ (t ++ 32 ∷ x))) ≡ (102 ∷ []) ∷ s ∷ t ∷ x ∷ []
flow_fields src dst flow s t x p q r =
    fields_of-field (102 ∷ []) 32 (s ++ 32 ∷ (t ++ 32 ∷ x)) (omega arith)
    (All-cons (λ c. is_blank c ≡ false) 102 [] refl (All-nil (λ c. is_blank c ≡ false))) refl
    ∙ ap (λ fs. (102 ∷ []) ∷ fs) (fields_of-blank 32 (s ++ 32 ∷ (t ++ 32 ∷ x)) refl
    ∙ fields_of-field s 32 (t ++ 32 ∷ x) p.some (digits_solid s p.digits).0 refl
    ∙ ap (λ fs. s ∷ fs) (fields_of-blank 32 (t ++ 32 ∷ x) refl
    ∙ fields_of-field t 32 x q.some (digits_solid t q.digits).0 refl
    ∙ ap (λ fs. t ∷ fs) (fields_of-blank 32 x refl ∙ fields_of-last x r.some (digits_solid x r.digits).0)))

-- ---- no byte 10 in them

-- no byte of either is byte 10
ends : ℕ → Type 0
ends c = is_end c ≡ false

value_no_end : (value : ℕ) (ds : List ℕ) → IsPrinted value ds → HasNoEnd (115 ∷ 32 ∷ ds)
value_no_end value ds p =
    All-cons (λ c. is_end c ≡ false) 115 (32 ∷ ds) refl
    (All-cons (λ c. is_end c ≡ false) 32 ds refl (digits_solid ds p.digits).1)

flow_no_end : (src dst flow : ℕ) (s t x : List ℕ) → IsPrinted src s → IsPrinted dst t → IsPrinted flow x
    → HasNoEnd (102 ∷ 32 ∷ (s ++ 32 ∷ (t ++ 32 ∷ x)))
flow_no_end src dst flow s t x p q r =
    let E : ℕ → Type 0 = λ c. is_end c ≡ false in
    All-cons E 102 (32 ∷ (s ++ 32 ∷ (t ++ 32 ∷ x))) refl (All-cons E 32 (s ++ 32 ∷ (t ++ 32 ∷ x)) refl
    (All-append E s (32 ∷ (t ++ 32 ∷ x)) (digits_solid s p.digits).1 (All-cons E 32 (t ++ 32 ∷ x) refl
    (All-append E t (32 ∷ x) (digits_solid t q.digits).1 (All-cons E 32 x refl (digits_solid x r.digits).1)))))

-- ---- no faults in them, and what they add

-- the value passes all tests of its line
value_passes : (nodes value : ℕ) (ds : List ℕ) → IsPrinted value ds → value ≤ GREATEST_VALUE
    → first_failed (solution_tests (so_far_of nodes []) ((115 ∷ []) ∷ ds ∷ [])) ≡ None
unfolding value_tests stated_of
value_passes nodes value ds p h =
    let is : is_number ds ≡ true = number_printed value ds p in
    let least : nat_lt (value_of ds) 0 ≡ false = le-ltb (value_of ds) 0 (omega arith) in
    let most : nat_lt GREATEST_VALUE (value_of ds) ≡ false =
    le-ltb GREATEST_VALUE (value_of ds) (omega (arith, p.value)) in
    simp (is, least, most)

-- what is known after it
begun : (nodes : ℕ) (ds : List ℕ) (value : ℕ) → value_of ds ≡ value
    → ◌≡◌ {A = SolutionSoFar} (record (so_far_of nodes []) { value = Some (given_of ((115 ∷ []) ∷ ds ∷ [])) })
    (record { nodes = nodes; value = Some value; lines = [] })
unfolding stated_of
begun nodes ds value e =
    ap (λ (v : ℕ). let so_far : SolutionSoFar = record { nodes = nodes; value = Some v; lines = [] } in so_far) e

-- so the first line has no fault, and says the value
value_added : (nodes value : ℕ) → value ≤ GREATEST_VALUE
    → (fault_of so_far_rules (so_far_of nodes []) (value_body value) ≡ None)
    × (so_far_of nodes (value_body value ∷ []) ≡ record { nodes = nodes; value = Some value; lines = [] })
value_added nodes value h =
    let ds = decimal value in
    let p = printed value (omega arith) in
    let size : length (line_of "s" (value ∷ [])) ≤ 128 = value_line_short value (omega arith) in
    let short : length (value_body value) ≤ LONGEST_LINE =
    omega (arith, ap length (value_line_is value), length-append (value_body value) (10 ∷ [])) in
    let of = of_fields so_far_rules with_solution_record (so_far_of nodes []) (value_body value) (115 ∷ []) (ds ∷ [])
    refl short (value_fields value ds p) in
    let as_value = of_solution (so_far_of nodes []) (115 ∷ []) (ds ∷ []) refl in
    let fine = of.0 ∙ as_value.0 ∙ value_passes nodes value ds p h in
    (fine, Adds-solution nodes [] (value_body value) fine ∙ of.1 ∙ as_value.1 ∙ begun nodes ds value p.value)

-- a flow line behind it has no fault, and is kept
flow_added : (old : SolutionSoFar) (flow : FlowLine) → old.nodes ≤ MOST_NODES → is_some old.value ≡ true
    → length old.lines < MOST_FLOW_LINES → 1 ≤ flow.src → flow.src ≤ old.nodes → 1 ≤ flow.dst → flow.dst ≤ old.nodes
    → flow.flow < 2 ^ 64
    → (fault_of so_far_rules old (flow_body flow.src flow.dst flow.flow) ≡ None)
    × (with_line with_solution_record old (flow_body flow.src flow.dst flow.flow)
    ≡ record old { lines = old.lines ++ flow ∷ [] })
flow_added old flow n some room s_least s_most d_least d_most fits =
    let s = decimal flow.src in
    let t = decimal flow.dst in
    let x = decimal flow.flow in
    let p = printed flow.src (omega arith) in
    let q = printed flow.dst (omega arith) in
    let r = printed flow.flow (omega arith) in
    let body = flow_body flow.src flow.dst flow.flow in
    let size : length (line_of "f" (flow.src ∷ flow.dst ∷ flow.flow ∷ [])) ≤ 128 =
    flow_line_short flow.src flow.dst flow.flow (omega arith) (omega arith) fits in
    let short : length body ≤ LONGEST_LINE =
    omega (arith, ap length (flow_line_is flow.src flow.dst flow.flow), length-append body (10 ∷ [])) in
    let of = of_fields so_far_rules with_solution_record old body (102 ∷ []) (s ∷ t ∷ x ∷ []) refl short
    (flow_fields flow.src flow.dst flow.flow s t x p q r) in
    let as_flow = of_flow old (102 ∷ []) (s ∷ t ∷ x ∷ []) refl refl in
    let is : flow_of ((102 ∷ []) ∷ s ∷ t ∷ x ∷ []) ≡ flow = rw (p.value, q.value, r.value) refl in
    let few : nat_le MOST_FLOW_LINES (length old.lines) ≡ false = search (std_rules, arith) in
    let passes : first_failed (flow_tests old.nodes (stated_in old) ((102 ∷ []) ∷ s ∷ t ∷ x ∷ [])) ≡ None =
    rw (some, few) (ends-pass old.nodes FlowOutOfRange (102 ∷ []) s t x
    (number_printed flow.src s p, rw p.value (s_least, s_most))
    (number_printed flow.dst t q, rw q.value (d_least, d_most))
    (number_printed flow.flow x r) (rw r.value (omega arith))) in (
      of.0 ∙ as_flow.0 ∙ passes,
      of.1 ∙ as_flow.1
          ∙ ap (λ (f : FlowLine). let so_far : SolutionSoFar = record old { lines = old.lines ++ f ∷ [] } in so_far) is,
    )

-- ---- all lines

-- what is known after the line of the value and some flow lines
abbrev pub known : ℕ → ℕ → List FlowLine → SolutionSoFar
known nodes value done = record { nodes = nodes; value = Some value; lines = done }

-- no fault in a line and none in those behind it: none in all
one_fine : (before after : List (List ℕ)) (line : List ℕ) (nodes : ℕ)
    → fault_of so_far_rules (so_far_of nodes before) line ≡ None
    → first_fault so_far_rules (so_far_of nodes) (before ++ line ∷ []) after ≡ None
    → first_fault so_far_rules (so_far_of nodes) before (line ∷ after) ≡ None
unfolding first_fault
one_fine before after line nodes fine rest = rw (fine, rest) refl

none_fine : (before : List (List ℕ)) (nodes : ℕ) → first_fault so_far_rules (so_far_of nodes) before [] ≡ None
unfolding first_fault
none_fine before nodes = refl

module _ (nodes value : ℕ) (n : nodes ≤ MOST_NODES) where
  -- so no line has a fault, and all flow lines are kept
  flows_fine : (before : List (List ℕ)) (done : List FlowLine) (arcs : List Arc) (xs : List ℕ)
      → so_far_of nodes before ≡ known nodes value done → length done + length arcs ≤ MOST_FLOW_LINES
      → AllByRecursion (IsArcWithin nodes) arcs → AllZip (λ a x. x ≤ a.cap) arcs xs
      → (first_fault so_far_rules (so_far_of nodes) before (map body_of (zip arcs xs)) ≡ None)
      × (so_far_of nodes (before ++ map body_of (zip arcs xs))
      ≡ known nodes value (done ++ map carried_line (zip arcs xs)))
  flows_fine before done [] [] e few w f = (
    none_fine before nodes,
    ap (so_far_of nodes) (append-nil before) ∙ e ∙ ap (known nodes value) (sym (append-nil done)),
  )
  flows_fine before done [] (x ∷ xs) e few w f = absurd f
  flows_fine before done (a ∷ arcs) [] e few w f = absurd f
  flows_fine before done (a ∷ arcs) (x ∷ xs) e few w f =
      let line : FlowLine = carried_line (a, x) in
      let body = flow_body a.src a.dst x in
      let cap = w.0.cap_fits in
      let at_most = f.0 in
      let added = flow_added (known nodes value done) line n refl (omega arith) w.0.src_least w.0.src_most w.0.dst_least
      w.0.dst_most (omega arith) in
      let fine : fault_of so_far_rules (so_far_of nodes before) body ≡ None =
      ap (λ k. fault_of so_far_rules k body) e ∙ added.0 in
      let next : so_far_of nodes (before ++ body ∷ []) ≡ known nodes value (done ++ line ∷ []) =
      Adds-solution nodes before body fine ∙ ap (λ k. with_line with_solution_record k body) e ∙ added.1 in
      let rest = flows_fine (before ++ body ∷ []) (done ++ line ∷ []) arcs xs next
      (omega (arith, length-append done (line ∷ []))) w.1 f.1 in (
        one_fine before (map body_of (zip arcs xs)) body nodes fine rest.0,
        ap (so_far_of nodes) (sym (append_assoc before (body ∷ []) (map body_of (zip arcs xs)))) ∙ rest.1
            ∙ ap (known nodes value) (append_assoc done (line ∷ []) (map carried_line (zip arcs xs))),
      )

-- nor has any line byte 10
flows_no_end : (nodes : ℕ) (arcs : List Arc) (xs : List ℕ) → nodes ≤ MOST_NODES
    → AllByRecursion (IsArcWithin nodes) arcs → AllZip (λ a x. x ≤ a.cap) arcs xs
    → All HasNoEnd (map body_of (zip arcs xs))
flows_no_end nodes [] [] n w f = All-nil HasNoEnd
flows_no_end nodes [] (x ∷ xs) n w f = absurd f
flows_no_end nodes (a ∷ arcs) [] n w f = absurd f
flows_no_end nodes (a ∷ arcs) (x ∷ xs) n w f =
    let cap = w.0.cap_fits in
    let at_most = f.0 in
    let src = w.0.src_most in
    let dst = w.0.dst_most in
    All-cons HasNoEnd (flow_body a.src a.dst x) (map body_of (zip arcs xs))
    (flow_no_end a.src a.dst x (decimal a.src) (decimal a.dst) (decimal x) (printed a.src (omega arith))
    (printed a.dst (omega arith)) (printed x (omega arith))) (flows_no_end nodes arcs xs n w.1 f.1)

-- joined lines without byte 10 are cut into themselves
lines_of_joined : (ls : List (List ℕ)) → All HasNoEnd ls → lines (joined ls []) ≡ ls
unfolding lines
lines_of_joined ls none =
    let cut = ended-joined ls [] none (All-nil (λ c. is_end c ≡ false)) in
    rw (cut.0, cut.1) (append-nil ls)

-- a text whose lines have no fault is the solution that they say
no_fault : (nodes value : ℕ) (b : List ℕ) (done : List FlowLine)
    → first_fault so_far_rules (so_far_of nodes) [] (lines b) ≡ None
    → stated_of (lines b) ≡ stated_in (known nodes value done) → whole_fault so_far_rules (so_far_of nodes) b ≡ None
unfolding whole_fault
no_fault nodes value b done fine said = rw (fine, said) refl

whole_read : (nodes value : ℕ) (ls : List (List ℕ)) (b : List ℕ) (done : List FlowLine) → lines b ≡ ls
    → first_fault so_far_rules (so_far_of nodes) [] ls ≡ None → so_far_of nodes ls ≡ known nodes value done
    → solution b nodes ≡ Ok (value, done)
unfolding solution
whole_read nodes value ls b done e fine says =
    let so_far : so_far_of nodes (lines b) ≡ known nodes value done = ap (so_far_of nodes) e ∙ says in
    let said : stated_of (lines b) ≡ stated_in (known nodes value done) =
    ap (λ (k : SolutionSoFar). stated_in k) so_far in
    let none = no_fault nodes value b done (rw e fine) said in
    rw (sym (whole-same nodes b) ∙ none, said) refl

-- a printed flow, read as a solution
pub solved_is_accepted : (net : Net) (value : ℕ) (flows : List ℕ) → IsNet net → length net.arcs ≤ MOST_PROBLEM_ARCS
    → value ≤ GREATEST_VALUE → Fits net flows
    → solution (solve_text false net value flows) net.nodes ≡ Ok (value, map carried_line (zip net.arcs flows))
solved_is_accepted net value flows n few small f =
    let arcs = recursion_from_All (IsArcWithin net.nodes) net.arcs n.arcs_within in
    let fits = zip_from_fits net flows f in
    let first = value_added net.nodes value small in
    let rest = flows_fine net.nodes value n.nodes_most (value_body value ∷ []) [] net.arcs flows first.1 (omega arith)
    arcs fits in
    let bodies = map body_of (zip net.arcs flows) in
    let none = All-cons HasNoEnd (value_body value) bodies
    (value_no_end value (decimal value) (printed value (omega arith)))
    (flows_no_end net.nodes net.arcs flows n.nodes_most arcs fits) in
    whole_read net.nodes value (value_body value ∷ bodies) (solve_text false net value flows)
    (map carried_line (zip net.arcs flows))
    (ap lines (text_joined net value flows) ∙ lines_of_joined (value_body value ∷ bodies) none)
    (one_fine [] bodies (value_body value) net.nodes first.0 rest.0) rest.1
