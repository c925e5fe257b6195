-- `ends_in`: the fault is that of the first number which has one.
use Rattle.std.proofs.Common.{◌≡◌, ℕ, ◌∙◌, List, [], ◌∷◌, refl, sym, ap, arith}
use Rattle.std.specs.Option.{option_or}
use Rattle.flow_net.specs.declared.limits.TheConstants.{GREATEST_CAPACITY}
use Rattle.flow_text.specs.Fields.{field_at}
use Rattle.flow_text.specs.Digits.{value_of}
use Rattle.flow_text.specs.Tests.{first_failed, number_tests, ends_tests}
use Rattle.flow_text.specs.declared.faults.FaultCode.{FaultCode}
use Rattle.flow_text.specs.declared.faults.FaultCode.TheVariants.{NodeOutOfRange}
use Rattle.flow_text.proofs.TestLemmas.{three_parts, not_four}
use Rattle.flow_text.proofs.records.ends_in.Goals as goal

by_number : (nodes : ℕ) (code : FaultCode) (kind src dst number : List ℕ) (others : List (List ℕ))
    → others ≡ src ∷ dst ∷ number ∷ [] → first_failed (ends_tests nodes code (kind ∷ others))
    ≡ option_or (first_failed (number_tests src 1 nodes NodeOutOfRange))
    (option_or (first_failed (number_tests dst 1 nodes NodeOutOfRange))
    (first_failed (number_tests number 0 GREATEST_CAPACITY code)))
unfolding ends_tests
by_number nodes code kind src dst number others is =
    rw is (three_parts (number_tests src 1 nodes NodeOutOfRange) (number_tests dst 1 nodes NodeOutOfRange)
    (number_tests number 0 GREATEST_CAPACITY code))

pub returns-in_default-clause-tests : goal.returns-in_default-clause-tests
unfolding ends_tests
returns-in_default-clause-tests c = λ kind. rw (not_four kind c.args.others c.in_default.ensures) refl

pub returns-in-Err-default-default-clause-tests : goal.returns-in-Err-default-default-clause-tests
returns-in-Err-default-default-clause-tests c = λ kind.
    let src = rw c.in-Err-default-default.is-0 at c.number_in-src.ensures in
    by_number c.args.nodes c.args.code kind _ _ _ _ c.in-Some.ensures ∙ rw src refl

pub returns-in_default-Err-default-clause-tests : goal.returns-in_default-Err-default-clause-tests
returns-in_default-Err-default-clause-tests c = λ kind.
    let src = rw c.in_default-Err-default.is-0 at c.number_in-src.ensures in
    let dst = rw c.in_default-Err-default.is-1 at c.number_in-dst.ensures in
    by_number c.args.nodes c.args.code kind _ _ _ _ c.in-Some.ensures ∙ rw (src.0, dst) refl

pub returns-in_default-default-Err-clause-tests : goal.returns-in_default-default-Err-clause-tests
returns-in_default-default-Err-clause-tests c = λ kind.
    let src = rw c.in_default-default-Err.is-0 at c.number_in-src.ensures in
    let dst = rw c.in_default-default-Err.is-1 at c.number_in-dst.ensures in
    let number = rw c.in_default-default-Err.is-2 at c.number_in-number.ensures in
    by_number c.args.nodes c.args.code kind _ _ _ _ c.in-Some.ensures ∙ rw (src.0, dst.0, number) refl

pub returns-in-Ok-Ok-Ok : goal.returns-in-Ok-Ok-Ok
returns-in-Ok-Ok-Ok c =
    let src = rw c.in-Ok-Ok-Ok.is-0 at c.number_in-src.ensures in
    let dst = rw c.in-Ok-Ok-Ok.is-1 at c.number_in-dst.ensures in
    let number = rw c.in-Ok-Ok-Ok.is-2 at c.number_in-number.ensures in
    let at = λ (k : ℕ). ap (λ fields. value_of (field_at fields k)) (sym c.in-Some.ensures) in
    record {
      tests = λ kind. (
        by_number c.args.nodes c.args.code kind _ _ _ _ c.in-Some.ensures ∙ rw (src.0, dst.0, number.0) refl,
        src.1 ∙ at 0,
        dst.1 ∙ at 1,
        number.1 ∙ at 2,
      );
      src = (src.2, src.3);
      dst = (dst.2, dst.3);
      fits = omega (arith, number.3);
    }
