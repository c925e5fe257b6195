-- `are_opposite`: one arc more has its opposite where it is looked for.
use Rattle.std.proofs.Common.{◌≡◌, ◌/◌, ◌%◌, ◌∙◌, ap, drop, eqb-true, length-drop, subst, sym, take, arith}
use Rattle.std.specs.List.{count_by}
use Rattle.std.proofs.lemmas.List.{get_or-drop}
use Rattle.flow_net.specs.declared.networks.Arc.{Arc}
use Rattle.flow_net.specs.Arcs.{enters, no_arc}
use Rattle.flow_net.specs.Cuts.{leaves}
use Rattle.flow_solve.proofs.ForestLemmas.Degrees.{both_ways, opposite_more}
use Rattle.flow_solve.proofs.forests.degrees.are_opposite.Goals as goal

pub loop-i-preserved : goal.loop-i-preserved
loop-i-preserved c =
    let j = c.loop-i.invariant in
    let arcs = c.args.net.now.arcs in
    let half = c.len-half.result / 2 in
    let i = c.loop-i.i in
    let here = get_or-drop half arcs i no_arc in
    record {
      half = j.half;
      passed = omega arith;
      opposite = λ X.
          opposite_more X arcs (drop half arcs) i (omega arith) (omega (arith, length-drop half arcs))
          (ap (λ (a : Arc). a.src) (sym c.arc-there.ensures.arc) ∙ c.if-there-back.false
          ∙ ap (λ (a : Arc). a.dst) (c.arc-back.ensures.arc ∙ sym here))
          (ap (λ (a : Arc). a.dst) (sym c.arc-there.ensures.arc) ∙ c.if-there-back-2.false
          ∙ ap (λ (a : Arc). a.src) (c.arc-back.ensures.arc ∙ sym here))
          (j.opposite X);
    }

pub returns : goal.returns
returns c = λ even.
    let j = c.loop-i.invariant in
    let net = c.args.net.now in
    let half = c.len-half.result / 2 in
    let all : c.loop-i.i ≡ half = omega (arith, j.passed, c.loop-i-test.false) in
    both_ways net half c.nodes-half.ensures.is_net (omega (arith, j.half, eqb-true (c.len.result % 2) 0 even))
    (λ X. subst (λ h. count_by (leaves X) (take h (drop half net.arcs)) ≡ count_by (enters X) (take h net.arcs)) all
    (j.opposite X))
