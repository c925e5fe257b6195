-- The fault of a solution's line and what it adds, by its fields.
use Rattle.std.proofs.Common.{◌≡◌, ℕ, true, false, List, [], ◌∷◌, ◌++◌, length, take, refl}
use Rattle.std.proofs.Common.{ap, ◌∙◌, sym, ◌<◌, arith, Some, None, nat_le, is_some, rules as std_rules}
use Rattle.std.proofs.lemmas.Grind.{common_steps}
use Rattle.std.specs.Str.{bytes_eq}
use Rattle.std.specs.Prelude.{codes, if◌then◌else◌}
use Rattle.std.proofs.Common.{map, ◌==◌, inl, inr}
use Rattle.std.proofs.lemmas.Bool.{cases_Bool}
use Rattle.std.proofs.lemmas.List.{map-append}
use Rattle.flow_text.specs.Fields.{fields_of}
use Rattle.flow_text.specs.Tests.{first_failed}
use Rattle.flow_text.specs.Rules.{is_comment, names, at_line, length_fault, fault_of, first_fault, early_fault}
use Rattle.flow_text.specs.Rules.{whole_fault}
use Rattle.flow_text.specs.Lines.{ended, rest, lines}
use Rattle.flow_text.specs.Solution.{stated_of, solution_record_fault, solution_end_fault, solution_rules}
use Rattle.flow_text.specs.Solution.{early_solution}
use Rattle.flow_text.specs.SolutionReading.{SolutionSoFar, so_far_of, so_far_rules, stated_in, FeedsSolution}
use Rattle.flow_text.specs.SolutionReading.{solution_tests}
use Rattle.flow_text.specs.Solution.{flow_tests}
use Rattle.flow_text.specs.SolutionReading.{given_of, flow_of, with_solution_record, IsLineWithin}
use Rattle.flow_text.specs.Reading.{State, with_line, Adds, FeedsBy}
use Rattle.flow_text.specs.declared.faults.ReadFault.{ReadFault}
use Rattle.std.proofs.Common.{◌+◌, Result, Ok, Err}
use Rattle.std.specs.Option.{option_or}
use Rattle.flow_text.specs.declared.solutions.FlowLine.{FlowLine}
use Rattle.flow_text.specs.declared.faults.FaultCode.TheVariants.{UnknownLine, FlowOutOfRange}
use Rattle.flow_text.specs.UsualLines.{IsUsual}
use Rattle.flow_text.proofs.RuleLemmas.{of_fields, record-fine, has_some}
use Rattle.flow_text.proofs.UsualLemmas.{ends-pass}
use Rattle.flow_text.proofs.KindLemmas.{none_from, has_field, comment_is_none, kind_is_plain, first-push, list-push}
use Rattle.flow_text.proofs.KindLemmas.{is_not_other}
use Rattle.flow_text.specs.declared.limits.TheConstants.{MOST_FLOW_LINES}

pub of_solution : (k : SolutionSoFar) (kind : List ℕ) (others : List (List ℕ)) → bytes_eq kind (codes "s") ≡ true
    → (solution_record_fault k.nodes (stated_in k) (kind ∷ others) ≡ first_failed (solution_tests k (kind ∷ others)))
    × (with_solution_record k (kind ∷ others) ≡ record k { value = Some (given_of (kind ∷ others)) })
unfolding solution_record_fault with_solution_record
of_solution k kind others is = (simp is, simp (is, is_not_other kind (codes "s") (codes "f") is refl))

pub of_flow : (k : SolutionSoFar) (kind : List ℕ) (others : List (List ℕ)) → bytes_eq kind (codes "s") ≡ false
    → bytes_eq kind (codes "f") ≡ true
    → (solution_record_fault k.nodes (stated_in k) (kind ∷ others)
    ≡ first_failed (flow_tests k.nodes (stated_in k) (kind ∷ others)))
    × (with_solution_record k (kind ∷ others) ≡ record k { lines = k.lines ++ flow_of (kind ∷ others) ∷ [] })
unfolding solution_record_fault with_solution_record
of_flow k kind others s is = (simp (s, is), simp (s, is))

pub of_unknown : (k : SolutionSoFar) (kind : List ℕ) (others : List (List ℕ)) → bytes_eq kind (codes "s") ≡ false
    → bytes_eq kind (codes "f") ≡ false
    → solution_record_fault k.nodes (stated_in k) (kind ∷ others) ≡ Some UnknownLine
unfolding solution_record_fault
of_unknown k kind others s f = simp (s, f)

-- a second solution line has a fault
no_value : (k : SolutionSoFar) (line : List ℕ) → names (codes "s") (fields_of line) ≡ true
    → fault_of so_far_rules k line ≡ None → k.value ≡ None
unfolding solution_record_fault
no_value k line is fine =
    let fault = record-fine so_far_rules k line (kind_is_plain 115 line is refl) (has_field 115 (fields_of line) is)
    fine in
    none_from k.value (grind (arith, common_steps, is, fault))

-- what a line adds: a comment, which is of no kind, and a line without fields add nothing
by_kind : (known : SolutionSoFar) (line : List ℕ)
    → with_solution_record known (fields_of line) ≡ with_line with_solution_record known line
unfolding with_solution_record with_line
by_kind known line = elim (cases_Bool (is_comment line)) [
  | inl comment ↦ rw (comment, comment_is_none 115 line comment refl, comment_is_none 102 line comment refl) refl
  | inr plain ↦ rw plain (by_fields (fields_of line))
] where
  by_fields : (fields : List (List ℕ)) → with_solution_record known fields
      ≡ (if length fields == 0 then known else with_solution_record known fields)
  by_fields [] = refl
  by_fields (f ∷ fields) = rw (has_some f fields) refl

pub Adds-solution : (nodes : ℕ) → Adds so_far_rules (so_far_of nodes) with_solution_record
unfolding stated_of with_line with_solution_record
Adds-solution nodes = λ before line fine.
    let records = map fields_of before in
    rw (
      map-append fields_of before (line ∷ []),
      first-push given_of (names (codes "s")) records (fields_of line)
          (λ is. no_value (so_far_of nodes before) line is fine),
      list-push flow_of (names (codes "f")) records (fields_of line),
    )
    (by_kind (so_far_of nodes before) line)

-- a flow line of the usual form, with no fault
pub of_usual : (old : SolutionSoFar) (text : List ℕ) (flow : FlowLine) (at : ℕ)
    → IsUsual 102 text flow.src flow.dst flow.flow at → is_some old.value ≡ true → length old.lines < MOST_FLOW_LINES
    → IsLineWithin old.nodes flow
    → (fault_of so_far_rules old (take at text) ≡ None)
    × (record old { lines = old.lines ++ flow ∷ [] } ≡ with_line with_solution_record old (take at text))
of_usual old text flow at u some room within =
    let fields = u.src_field ∷ u.dst_field ∷ u.number_field ∷ [] in
    let of = of_fields so_far_rules with_solution_record old (take at text) (102 ∷ []) fields u.plain u.short
    u.fields in
    let as_flow = of_flow old (102 ∷ []) fields refl refl in
    let is : flow_of ((102 ∷ []) ∷ fields) ≡ flow = rw (u.src_value, u.dst_value, u.number_value) refl in
    let few : nat_le MOST_FLOW_LINES (length old.lines) ≡ false = search (std_rules, arith) in
    let fits = within.flow_fits in
    let passes : first_failed (flow_tests old.nodes (stated_in old) ((102 ∷ []) ∷ fields)) ≡ None =
    rw (some, few)
    (ends-pass old.nodes FlowOutOfRange (102 ∷ []) u.src_field u.dst_field u.number_field
    (u.src_digits, rw u.src_value (within.src_least, within.src_most))
    (u.dst_digits, rw u.dst_value (within.dst_least, within.dst_most)) u.number_digits
    (rw u.number_value (omega arith))) in (
      of.0 ∙ as_flow.0 ∙ passes,
      sym (of.1 ∙ as_flow.1
          ∙ ap (λ (f : FlowLine). let known : SolutionSoFar = record old { lines = old.lines ++ f ∷ [] } in known) is),
    )

-- the faults of a text, where NODES is known with what the lines say
first_fault-same : (nodes : ℕ) (before after : List (List ℕ)) → first_fault so_far_rules (so_far_of nodes) before after
    ≡ first_fault (solution_rules nodes) stated_of before after
unfolding first_fault fault_of
first_fault-same nodes before [] = refl
first_fault-same nodes before (line ∷ after) =
    ap (option_or (at_line (length before + 1) (fault_of (solution_rules nodes) (stated_of before) line)))
    (first_fault-same nodes (before ++ line ∷ []) after)

pub early-same : (nodes : ℕ) (b : List ℕ) → early_fault so_far_rules (so_far_of nodes) b ≡ early_solution b nodes
unfolding early_fault
early-same nodes b =
    ap (λ f. option_or f (at_line (length (ended b) + 1) (length_fault (rest b))))
    (first_fault-same nodes [] (ended b))

pub whole-same : (nodes : ℕ) (b : List ℕ)
    → whole_fault so_far_rules (so_far_of nodes) b ≡ whole_fault (solution_rules nodes) stated_of b
unfolding whole_fault
whole-same nodes b =
    ap (λ f. option_or f (at_line (length (lines b) + 1) (solution_end_fault (stated_of (lines b)))))
    (first_fault-same nodes [] (lines b))

pub feeds : (nodes : ℕ) (b : List ℕ) (r : Result (Unit {0}) ReadFault) (new : State SolutionSoFar)
    → FeedsBy so_far_rules (so_far_of nodes) b r new → FeedsSolution nodes b r new
feeds nodes b (Ok done) new h = (h, sym (early-same nodes b) ∙ h.fine)
feeds nodes b (Err fault) new h = (rw (early-same nodes b) at h.0, h.1)
