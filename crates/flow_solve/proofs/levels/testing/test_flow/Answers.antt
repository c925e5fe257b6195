-- `test_flow`: what the sums over all arcs show.
use Rattle.std.proofs.Common.{◌≡◌, ◌+◌, List, ℕ, sym, subst, refl, arith}
use Rattle.flow_solve.specs.Solving.{IsFlow}
use Rattle.flow_solve.proofs.LevelLemmas.Tested.{feasible, maximum}
use Rattle.flow_solve.proofs.levels.testing.test_flow.Goals as goal

pub returns : goal.returns
returns c =
    let given = c.args.given in let net = given.net.now in let s = given.s.now in let t = given.t.now in
    let k = c.in_ok-value.value in
    let limits = c.nodes-n.ensures.is_net in
    let sums = c.in_ok-sums.ensures.sums in
    let value : c.in_ok-sums.sums.out ≡ k + c.in_ok-sums.sums.inward = omega (arith, c.in_ok-value.ensures) in
    let flow = feasible limits c.requires.fits c.give_roles.ensures sums (c.if-not-are_even.ensures refl) value in
    record {
      flow = subst (λ (xs : List ℕ). IsFlow net s t xs k) (sym c.add_up.ensures.looks.flows) flow;
      greatest = λ yes. (maximum limits c.requires.terminals c.give_roles.ensures sums yes flow).0;
      least = λ yes. (maximum limits c.requires.terminals c.give_roles.ensures sums yes flow).1;
      looks = c.add_up.ensures.looks;
    }
