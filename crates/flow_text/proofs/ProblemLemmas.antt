-- The fault of a problem's line and what it adds, by its fields.
use Rattle.std.proofs.Common.{◌≡◌, ◌<◌, ℕ, Bool, true, false, List, [], ◌∷◌, ◌++◌, length, refl}
use Rattle.std.proofs.Common.{ap, ◌∙◌, sym, arith, Option, Some, None, nat_le, take, rules as std_rules}
use Rattle.std.proofs.lemmas.Grind.{common_steps}
use Rattle.std.specs.Str.{bytes_eq}
use Rattle.std.specs.Prelude.{codes, if◌then◌else◌}
use Rattle.std.proofs.Common.{map, ◌==◌, inl, inr}
use Rattle.std.proofs.lemmas.Bool.{cases_Bool}
use Rattle.std.proofs.lemmas.List.{map-append}
use Rattle.std.proofs.lemmas.List.Elements.{All-append, All-cons}
use Rattle.flow_net.specs.Nets.{Net, IsNode}
use Rattle.flow_net.specs.Limits.{IsArcWithin}
use Rattle.flow_net.specs.declared.networks.Arc.{Arc}
use Rattle.flow_text.specs.Fields.{fields_of}
use Rattle.flow_text.specs.Tests.{first_failed}
use Rattle.flow_text.specs.Rules.{is_comment, names, fault_of}
use Rattle.flow_text.specs.Terminals.{Marks, lacks_one, with_mark}
use Rattle.flow_text.specs.Problem.{Known, known_of, problem_record_fault, problem_rules, node_tests}
use Rattle.flow_text.specs.ProblemReading.{problem_tests, mark_tests}
use Rattle.flow_text.specs.Problem.{arc_tests, is_terminal}
use Rattle.flow_text.specs.ProblemReading.{size_of, arc_of, node_of, ProblemSoFar, known_with, with_problem_record}
use Rattle.flow_text.specs.ProblemReading.{with_terminal, KeepsDeclared}
use Rattle.std.specs.Prelude.{Result, Ok, Err}
use Rattle.flow_text.specs.Reading.{with_line, Adds, Judges}
use Rattle.flow_text.specs.declared.machine.Refusal.{Refusal}
use Rattle.flow_text.specs.declared.faults.FaultCode.{FaultCode}
use Rattle.flow_text.specs.declared.faults.FaultCode.TheVariants.{UnknownLine, CapacityOutOfRange}
use Rattle.flow_text.specs.UsualLines.{IsUsual}
use Rattle.flow_text.proofs.KindLemmas.{none_from, has_field, comment_is_none, kind_is_plain, first-push, list-push}
use Rattle.flow_text.proofs.KindLemmas.{is_not_other}
use Rattle.flow_text.proofs.RuleLemmas.{of_fields, record-fine, has_some}
use Rattle.flow_text.proofs.UsualLemmas.{ends-pass}

-- a terminal more is kept
pub IsKept-mark : (net : Net) (declared : ℕ) (marks : Marks) (node : ℕ) (is_source : Bool)
    → KeepsDeclared net declared marks
    → IsNode net node → KeepsDeclared net declared (with_mark marks node is_source)
IsKept-mark net declared marks node true k is = record {
  nodes_most = k.nodes_most;
  declared_most = k.declared_most;
  arcs_most = k.arcs_most;
  sources_within =
      All-append (IsNode net) marks.sources (node ∷ []) k.sources_within
      (All-cons (IsNode net) node [] is (search std_rules));
  sinks_within = k.sinks_within;
}
IsKept-mark net declared marks node false k is = record {
  nodes_most = k.nodes_most;
  declared_most = k.declared_most;
  arcs_most = k.arcs_most;
  sources_within = k.sources_within;
  sinks_within =
      All-append (IsNode net) marks.sinks (node ∷ []) k.sinks_within
      (All-cons (IsNode net) node [] is (search std_rules));
}

pub of_problem : (k : Known) (kind : List ℕ) (others : List (List ℕ)) → bytes_eq kind (codes "p") ≡ true
    → (problem_record_fault k (kind ∷ others) ≡ first_failed (problem_tests k (kind ∷ others)))
    × (with_problem_record k (kind ∷ others) ≡ record k { size = Some (size_of (kind ∷ others)) })
unfolding problem_record_fault with_problem_record
of_problem k kind others is =
    let n = is_not_other kind (codes "p") (codes "n") is refl in
    let a = is_not_other kind (codes "p") (codes "a") is refl in
    (simp is, simp (is, n, a))

pub of_node : (k : Known) (kind : List ℕ) (others : List (List ℕ)) → bytes_eq kind (codes "p") ≡ false
    → bytes_eq kind (codes "n") ≡ true
    → (problem_record_fault k (kind ∷ others) ≡ first_failed (node_tests k (kind ∷ others)))
    × (with_problem_record k (kind ∷ others) ≡ with_terminal k (kind ∷ others))
unfolding problem_record_fault with_problem_record
of_node k kind others p is =
    let a = is_not_other kind (codes "n") (codes "a") is refl in
    (simp (p, is), simp (p, is, a))

pub of_arc : (k : Known) (kind : List ℕ) (others : List (List ℕ)) → bytes_eq kind (codes "p") ≡ false
    → bytes_eq kind (codes "n") ≡ false → bytes_eq kind (codes "a") ≡ true
    → (problem_record_fault k (kind ∷ others) ≡ first_failed (arc_tests k (kind ∷ others)))
    × (with_problem_record k (kind ∷ others) ≡ record k { arcs = k.arcs ++ arc_of (kind ∷ others) ∷ [] })
unfolding problem_record_fault with_problem_record
of_arc k kind others p n is = (simp (p, n, is), simp (p, n, is))

pub of_unknown : (k : Known) (kind : List ℕ) (others : List (List ℕ)) → bytes_eq kind (codes "p") ≡ false
    → bytes_eq kind (codes "n") ≡ false → bytes_eq kind (codes "a") ≡ false
    → problem_record_fault k (kind ∷ others) ≡ Some UnknownLine
unfolding problem_record_fault
of_unknown k kind others p n a = simp (p, n, a)

-- a node line before the first arc line
pub node_tests-own : (k : ProblemSoFar) (fields : List (List ℕ)) → length k.arcs ≡ 0
    → first_failed (node_tests (known_with k) fields) ≡ first_failed (mark_tests k.nodes k.marks fields)
unfolding mark_tests
node_tests-own k fields none = rw none refl

-- what is judged once a problem line has ended
pub Judges-with : (fault : Option FaultCode) (after new : ProblemSoFar) (r : Result (Unit {0}) Refusal)
    → Judges fault after r new → Judges fault (known_with after) r (known_with new)
Judges-with fault after new (Ok done) h = (h.0, ap known_with h.1)
Judges-with fault after new (Err refusal) h = h

-- a second problem line has a fault
no_size : (k : Known) (line : List ℕ) → names (codes "p") (fields_of line) ≡ true
    → fault_of problem_rules k line ≡ None → k.size ≡ None
unfolding problem_record_fault
no_size k line is fine =
    let fault = record-fine problem_rules k line (kind_is_plain 112 line is refl) (has_field 112 (fields_of line) is)
    fine in
    none_from k.size (grind (arith, common_steps, is, fault))

-- what a line adds: a comment, which is of no kind, and a line without fields add nothing
by_kind : (known : Known) (line : List ℕ)
    → with_problem_record known (fields_of line) ≡ with_line with_problem_record known line
unfolding with_problem_record with_line
by_kind known line = elim (cases_Bool (is_comment line)) [
  | inl comment ↦
      rw (
        comment,
        comment_is_none 112 line comment refl,
        comment_is_none 110 line comment refl,
        comment_is_none 97 line comment refl,
      ) refl
  | inr plain ↦ rw plain (by_fields (fields_of line))
] where
  by_fields : (fields : List (List ℕ)) → with_problem_record known fields
      ≡ (if length fields == 0 then known else with_problem_record known fields)
  by_fields [] = refl
  by_fields (f ∷ fields) = rw (has_some f fields) refl

pub Adds-problem : Adds problem_rules known_of with_problem_record
unfolding known_of with_line with_problem_record
Adds-problem before line fine =
    let records = map fields_of before in
    rw (
      map-append fields_of before (line ∷ []),
      first-push size_of (names (codes "p")) records (fields_of line) (λ is. no_size (known_of before) line is fine),
      list-push arc_of (names (codes "a")) records (fields_of line),
      list-push node_of (is_terminal (codes "s")) records (fields_of line),
      list-push node_of (is_terminal (codes "t")) records (fields_of line),
    )
    (by_kind (known_of before) line)

-- an arc line of the usual form, with no fault
pub of_usual : (old : ProblemSoFar) (text : List ℕ) (arc : Arc) (at : ℕ) → IsUsual 97 text arc.src arc.dst arc.cap at
    → lacks_one old.marks ≡ false → length old.arcs < old.declared → IsArcWithin old.nodes arc
    → (fault_of problem_rules (known_with old) (take at text) ≡ None)
    × (known_with (record old { arcs = old.arcs ++ arc ∷ [] })
    ≡ with_line with_problem_record (known_with old) (take at text))
of_usual old text arc at u lacks room within =
    let fields = u.src_field ∷ u.dst_field ∷ u.number_field ∷ [] in
    let of = of_fields problem_rules with_problem_record (known_with old) (take at text) (97 ∷ []) fields u.plain
    u.short u.fields in
    let as_arc = of_arc (known_with old) (97 ∷ []) fields refl refl refl in
    let is : arc_of ((97 ∷ []) ∷ fields) ≡ arc = rw (u.src_value, u.dst_value, u.number_value) refl in
    let few : nat_le old.declared (length old.arcs) ≡ false = search (std_rules, arith) in
    let fits = within.cap_fits in
    let passes : first_failed (arc_tests (known_with old) ((97 ∷ []) ∷ fields)) ≡ None =
    rw (lacks, few)
    (ends-pass old.nodes CapacityOutOfRange (97 ∷ []) u.src_field u.dst_field u.number_field
    (u.src_digits, rw u.src_value (within.src_least, within.src_most))
    (u.dst_digits, rw u.dst_value (within.dst_least, within.dst_most)) u.number_digits
    (rw u.number_value (omega arith))) in (
      of.0 ∙ as_arc.0 ∙ passes,
      sym (of.1 ∙ as_arc.1 ∙ ap (λ (a : Arc). known_with (record old { arcs = old.arcs ++ a ∷ [] })) is),
    )
