-- `value_of`: the sums at the sources are those of the flow, which fit 127 bits.
use Rattle.std.proofs.Common.{◌∙◌, ap, subst, sym, arith}
use Rattle.std.specs.Int.{cast_unsigned, w128}
use Rattle.std.proofs.lemmas.Int.{to_z-of_z}
use Rattle.flow_net.specs.NodeSets.{one_of}
use Rattle.flow_tools.proofs.NodeSumLemmas.{into_at, out_at, distinct_front}
use Rattle.flow_c.specs.Checks.{HasWord}
use Rattle.flow_c.proofs.CheckLemmas.{carried_most, word_of}
use Rattle.flow_c.proofs.checking.value_of.Goals as goal

pub outflow_of-requires : goal.outflow_of-requires
outflow_of-requires c =
    let p = c.args.network.now in let t = c.net.ensures.terminals in let r = c.requires.2 in let xs = c.requires.0 in
    let into = c.args.sums.now.into.items in let out = c.args.sums.now.out.items in
    let limits = rw c.net.ensures.net at c.nodes.ensures.is_net in
    let apart = distinct_front p.sources p.sinks t.distinct in
    rw c.sources.ensures.sources (record {
      same = r.2.out_len ∙ sym r.2.into_len;
      within = rw r.2.into_len t.sources_within;
      distinct = apart;
      fit = (
        omega (
          arith,
          into_at p.net.nodes p.sources r.0 into out t.sources_within apart r.2,
          carried_most p.net r.0 xs (λ u v. one_of p.sources v) limits c.requires.1 r.1,
        ),
        omega (
          arith,
          out_at p.net.nodes p.sources r.0 into out t.sources_within apart r.2,
          carried_most p.net r.0 xs (λ u v. one_of p.sources u) limits c.requires.1 r.1,
        ),
      );
    })

pub returns-clause-value : goal.returns-clause-value
returns-clause-value c = λ xs fits sums.
    let p = c.args.network.now in let s = one_of p.sources in
    let limits = rw c.net.ensures.net at c.nodes.ensures.is_net in
    let found = rw c.sources.ensures.sources at c.outflow_of.ensures p.net.nodes sums.0 sums.2 in
    let bits = c.cast_unsigned.ensures
    ∙ ap (cast_unsigned w128) (to_z-of_z w128 c.outflow_of.result (record { sfits = c.outflow_of.type_inv })) in
    subst (HasWord p.net s xs) (sym bits) (word_of _ _ _ _ c.outflow_of.result (sums.1 (λ u v. s u))
    (sums.1 (λ u v. s v)) found
    (let most = carried_most p.net sums.0 xs (λ u v. s u) limits fits sums.1 in omega (arith, most))
    (let most = carried_most p.net sums.0 xs (λ u v. s v) limits fits sums.1 in omega (arith, most)))
