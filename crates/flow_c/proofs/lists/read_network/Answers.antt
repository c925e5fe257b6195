-- `read_network`: the terminals are some nodes, all different.
use Rattle.std.proofs.Common.{◌≡◌, ◌<◌, ◌∙◌, ap, ℕ, List, length, suc, false, refl, rules, arith}
use Rattle.std.proofs.lemmas.Grind.{common_steps}
use Rattle.std.specs.Prelude.{◌==◌}
use Rattle.std.proofs.lemmas.List.{length-map}
use Rattle.flow_c.proofs.ListLemmas.{passed_on}
use Rattle.flow_c.proofs.FaultLemmas.{terminals_reason, taken_ends}
use Rattle.flow_c.proofs.lists.read_network.Goals as goal

-- a list as long as one that isn't empty
some_at : (xs ys : List ℕ) → length ys ≡ length xs → false ≡ length xs == 0 → 0 < length ys
some_at xs ys same some = grind (arith, common_steps)

pub returns-clause-taken : goal.returns-clause-taken
returns-clause-taken c =
    let some_source = some_at c.args.lent.sources.now c.args.lent.sources.now refl c.if-is_empty.ensures in
    let some_sink = some_at c.args.lent.sinks.now c.args.lent.sinks.now refl c.if-is_empty-2.ensures in (
      record {
        nodes_least = omega arith;
        nodes_most = omega arith;
        lengths = search rules;
        src_within = search rules;
        dst_within = search rules;
      },
      taken_ends _ _ _ _ _ some_source some_sink c.in_ok-s.ensures.0 c.in_ok-s.ensures.1,
    )

pub new-requires : goal.new-requires
new-requires c =
    let taken = c.in_ok-s.ensures in let nodes = ap (λ n. n.nodes) c.in_ok-net.ensures in
    let s = ap length taken.0.all ∙ length-map c.args.lent.sources.now (λ v. suc v) in
    let t = ap length taken.1.all ∙ length-map c.args.lent.sinks.now (λ v. suc v) in
    record {
      some_source = some_at c.args.lent.sources.now c.in_ok-s.s.items s c.if-is_empty.ensures;
      some_sink = some_at c.args.lent.sinks.now c.in_ok-s.t.items t c.if-is_empty-2.ensures;
      sources_within = rw nodes taken.0.within;
      sinks_within = rw nodes taken.1.within;
      distinct = taken.1.distinct;
    }

pub returns-in_err-s-clause-refused : goal.returns-in_err-s-clause-refused
returns-in_err-s-clause-refused c =
    passed_on _ _ _ _ c.from_residual-in_err-s.ensures.1 (terminals_reason _ _ _ _ _ _ _ (search rules) c.in_err-s.ensures)

pub returns-clause-network : goal.returns-clause-network
returns-clause-network c =
    let taken = c.in_ok-s.ensures in rw (c.in_ok-net.ensures, taken.0.all, taken.1.all) at c.new.ensures
