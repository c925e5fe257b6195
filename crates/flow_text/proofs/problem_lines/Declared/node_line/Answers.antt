-- `node_line`: the terminals stay nodes, none twice, where one is added and where memory is refused.
use Rattle.std.proofs.Common.{rules, ◌≡◌, ◌∷◌, ◌∙◌, length, arith}
use Rattle.flow_text.proofs.ProblemLemmas.{IsKept-mark, node_tests-own}
use Rattle.flow_text.proofs.problem_lines.Declared.node_line.Goals as goal
use Rattle.flow_text.proofs.problem_lines.Declared.node_line.Goals.{in-Ok-add, in-Err-add}

pub invariant_of-self : goal.invariant_of-self
invariant_of-self c = elim c.match-add.branch [
  | in-Ok-add w ↦
      rw w.in-Ok-add.ensures.ok
      (IsKept-mark c.self.inside.net c.self.inside.arcs c.self.inside.terminals _ _ c.self.invariant
      (c.in-Ok.ensures.least, rw (c.nodes.ensures.nodes) at c.in-Ok.ensures.most))
  | in-Err-add w ↦ rw w.in-Err-add.ensures.err (record {
    nodes_most = c.self.invariant.nodes_most;
    declared_most = c.self.invariant.declared_most;
    arcs_most = c.self.invariant.arcs_most;
    sources_within = search rules;
    sinks_within = search rules;
  })
]

pub returns-after-add : goal.returns-after-add
returns-after-add c = λ kind.
    let none : length c.args.self.now.arcs ≡ 0 = search (rules, arith) in
    rw (node_tests-own c.args.self.now (kind ∷ c.args.others) none) (elim c.match-add.branch [
      | in-Ok-add w ↦ search rules
      | in-Err-add w ↦ search rules
    ])

pub returns-in-Err : goal.returns-in-Err
returns-in-Err c = λ kind.
    let none : length c.args.self.now.arcs ≡ 0 = search (rules, arith) in
    node_tests-own c.args.self.now (kind ∷ c.args.others) none
    ∙ rw (← c.self.view_is) (rw (c.nodes.ensures.nodes) at c.in-Err.ensures.tests kind)
