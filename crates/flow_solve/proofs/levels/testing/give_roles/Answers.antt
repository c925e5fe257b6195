-- `give_roles`: no node is a source and a sink.
use Rattle.std.proofs.Common.{◌≡◌, ℕ, ◌+◌, ◌-◌, ◌≤◌, ◌<◌, true, false, cond, Bool, List, length, get_or, ◌∙◌, ap, arith}
use Rattle.flow_net.specs.NodeSets.{one_of}
use Rattle.flow_net.proofs.NodeLists.{terminals_apart}
use Rattle.flow_solve.proofs.levels.testing.give_roles.Goals as goal

-- the role of a node of a list, and that of any other
given_to : (nodes before after : List ℕ) (role v : ℕ) (b : Bool)
    → ((p : ℕ) → p < length before → get_or after p 0 ≡ cond (one_of nodes (p + 1)) role (get_or before p 0))
    → 1 ≤ v → v ≤ length before → one_of nodes v ≡ b → get_or after (v - 1) 0 ≡ cond b role (get_or before (v - 1) 0)
given_to nodes before after role v b all low high is =
    all (v - 1) (omega arith) ∙ ap (λ u. cond (one_of nodes u) role (get_or before (v - 1) 0)) (omega arith)
    ∙ ap (λ c. cond c role (get_or before (v - 1) 0)) is

pub returns : goal.returns
returns c =
    let given = c.args.given in
    let source = c.give_role.ensures.roles in let sink = c.give_role-2.ensures.roles in
    record {
      size = omega arith;
      sources = λ v low high is.
          given_to _ _ _ _ v false sink low (omega arith)
          (terminals_apart given.net.now given.s.now given.t.now c.requires.terminals v is)
          ∙ given_to _ _ _ _ v true source low (omega arith) is;
      sinks = λ v low high is. given_to _ _ _ _ v true sink low (omega arith) is;
      inner = λ v low high no_source no_sink.
          let same = given_to _ _ _ _ v false sink low (omega arith) no_sink
          ∙ given_to _ _ _ _ v false source low (omega arith) no_source in
          let inner = c.keep_marks.ensures.inner (v - 1) (omega arith) in
          omega arith;
    }
