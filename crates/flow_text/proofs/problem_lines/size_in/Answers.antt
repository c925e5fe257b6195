-- `size_in`: the fault is that of the first field which has one.
use Rattle.std.proofs.Common.{◌≡◌, ◌∙◌, ℕ, true, List, [], ◌∷◌, refl}
use Rattle.std.specs.Option.{option_or}
use Rattle.std.specs.Prelude.{codes}
use Rattle.std.specs.Str.{bytes_eq}
use Rattle.flow_net.specs.declared.limits.TheConstants.{FEWEST_NODES, MOST_PROBLEM_NODES, MOST_PROBLEM_ARCS}
use Rattle.flow_text.specs.Tests.{first_failed, number_tests}
use Rattle.flow_text.specs.Problem.{size_tests}
use Rattle.flow_text.specs.declared.faults.FaultCode.TheVariants.{NodesOutOfRange, ArcsOutOfRange}
use Rattle.flow_text.proofs.TestLemmas.{two_parts, not_four}
use Rattle.flow_text.proofs.problem_lines.size_in.Goals as goal

by_number : (kind max nodes arcs : List ℕ) (others : List (List ℕ)) → others ≡ max ∷ nodes ∷ arcs ∷ []
    → true ≡ bytes_eq max (codes "max") → first_failed (size_tests (kind ∷ others))
    ≡ option_or (first_failed (number_tests nodes FEWEST_NODES MOST_PROBLEM_NODES NodesOutOfRange))
    (first_failed (number_tests arcs 0 MOST_PROBLEM_ARCS ArcsOutOfRange))
unfolding size_tests
by_number kind max nodes arcs others is word =
    rw (is, ← word) (two_parts (number_tests nodes FEWEST_NODES MOST_PROBLEM_NODES NodesOutOfRange)
    (number_tests arcs 0 MOST_PROBLEM_ARCS ArcsOutOfRange))

pub returns-in_default-clause-tests : goal.returns-in_default-clause-tests
unfolding size_tests
returns-in_default-clause-tests c = λ kind. rw (not_four kind c.args.others c.in_default.ensures) refl

pub returns-in-Err-default-clause-tests : goal.returns-in-Err-default-clause-tests
returns-in-Err-default-clause-tests c = λ kind.
    let nodes = rw c.in-Err-default.is-0 at c.number_in-nodes.ensures in
    by_number kind _ _ _ _ c.in-Some.ensures c.if-not-is_word.ensures ∙ rw nodes refl

pub returns-in_default-Err-clause-tests : goal.returns-in_default-Err-clause-tests
returns-in_default-Err-clause-tests c = λ kind.
    let nodes = rw c.in_default-Err.is-0 at c.number_in-nodes.ensures in
    let arcs = rw c.in_default-Err.is-1 at c.number_in-arcs.ensures in
    by_number kind _ _ _ _ c.in-Some.ensures c.if-not-is_word.ensures ∙ rw (nodes.0, arcs) refl

pub returns-in-Ok-Ok : goal.returns-in-Ok-Ok
returns-in-Ok-Ok c =
    let nodes = rw c.in-Ok-Ok.is-0 at c.number_in-nodes.ensures in
    let arcs = rw c.in-Ok-Ok.is-1 at c.number_in-arcs.ensures in
    record {
      tests = λ kind. (
        by_number kind _ _ _ _ c.in-Some.ensures c.if-not-is_word.ensures ∙ rw (nodes.0, arcs.0) refl,
        rw (c.in-Some.ensures, nodes.1, arcs.1) refl,
      );
      nodes_least = nodes.2;
      nodes_most = nodes.3;
      arcs_most = arcs.3;
    }
