-- `are_balanced`: the counts are the same at each node, so as many arcs leave a set as enter it. And where as many
-- leave each node as enter it, the counts are the same.
use Rattle.std.proofs.Common.{◌≡◌, ◌-◌, ◌+◌, ◌∙◌, length, sym, ap, drop, take, arith, get_or}
use Rattle.std.specs.Cmp.Lexicographic.{same_text, other_text}
use Rattle.std.proofs.lemmas.Bool.{true_from_ne_false}
use Rattle.std.proofs.lemmas.Grind.{same_number_lists}
use Rattle.std.proofs.lemmas.List.{get_or-take, length-take-le, length-drop}
use Rattle.flow_net.specs.NodeSets.{just}
use Rattle.flow_net.proofs.NodeCounts.{balanced_sets}
use Rattle.flow_solve.proofs.ForestLemmas.Degrees.{degree_at, degree_into}
use Rattle.flow_solve.proofs.forests.degrees.are_balanced.Goals as goal

pub returns-clause-balanced : goal.returns-clause-balanced
returns-clause-balanced c = λ yes.
    let net = c.args.net.now in
    let n = net.nodes in
    let out = c.args.degrees.now in
    let into = drop n out in
    let deg = c.requires.degrees in
    let same : take n out ≡ take n into =
    same_text (take n out) (take n into) (sym yes ∙ grind (
      arith,
      c.eq.ensures,
      c.split_at.ensures.front,
      c.split_at-2.ensures.front,
      c.split_at.ensures.back,
    )) in
    balanced_sets net c.nodes-n.ensures.is_net
    (λ v at. (let low = at.0 in let high = at.1 in
    sym (degree_at net v out into at deg) ∙ sym (get_or-take n out (v - 1) 0 (omega arith))
    ∙ ap (λ z. get_or z (v - 1) 0) same ∙ get_or-take n into (v - 1) 0 (omega arith)
    ∙ degree_into net v out into at deg))

pub returns-clause-unbalanced : goal.returns-clause-unbalanced
returns-clause-unbalanced c = λ way.
    let n = c.args.net.now.nodes in
    let out = c.args.degrees.now in
    let into = drop n out in
    let deg = c.requires.degrees in
    let cells = c.requires.cells in
    let small : length (take n out) ≡ n = length-take-le n out (omega (arith, cells)) in
    let behind : length (take n into) ≡ n = length-take-le n into (omega (arith, cells, length-drop n out)) in
    let same : take n out ≡ take n into =
    same_number_lists (take n out) (take n into) (small ∙ sym behind) (λ k l.
    get_or-take n out k 0 (omega (arith, l, small)) ∙ deg.leaving k (omega (arith, l, small)) ∙ way (just (k + 1))
    ∙ sym (deg.entering k (omega (arith, l, small))) ∙ sym (get_or-take n into k 0 (omega (arith, l, small)))) in
    true_from_ne_false c.eq.result (λ no.
    other_text (take n out) (take n into) (sym no ∙ grind (
      arith,
      c.eq.ensures,
      c.split_at.ensures.front,
      c.split_at-2.ensures.front,
      c.split_at.ensures.back,
    )) same)
