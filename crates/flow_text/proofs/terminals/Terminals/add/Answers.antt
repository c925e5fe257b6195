-- `add`: a node that is no terminal yet joins the sources or the sinks, and none stands there twice.
use Rattle.std.proofs.Common.{arith, ◌≡◌, ◌∙◌, ◌++◌, ◌∷◌, [], refl}
use Rattle.std.proofs.lemmas.Grind.{common_steps}
use Rattle.flow_text.proofs.TerminalLemmas.{AreDistinct-source, AreDistinct-sink}
use Rattle.flow_text.proofs.terminals.Terminals.add.Goals as goal

-- a source
pub invariant_of-self : goal.invariant_of-self
invariant_of-self c =
    let items : c.push.new.self.items ≡ c.self.inside.sources.items ++ c.args.node ∷ [] =
    c.push.ensures.items ∙ rw (← c.if-is_ok-2.ensures.value) refl in
    record {
      all = λ q. let h = c.self.invariant.all q in grind (arith, common_steps);
      distinct =
          rw items (AreDistinct-source
          (record { sources = c.self.inside.sources.items; sinks = c.self.inside.sinks.items }) c.args.node
          c.self.invariant.distinct (rw (← c.self.view_is) at c.requires));
    }

-- a sink
pub invariant_of-self-then-is_ok-3 : goal.invariant_of-self-then-is_ok-3
invariant_of-self-then-is_ok-3 c =
    let items : c.push-else-is_source.new.self.items ≡ c.self.inside.sinks.items ++ c.args.node ∷ [] =
    c.push-else-is_source.ensures.items ∙ rw (← c.if-is_ok-3.ensures.value) refl in
    record {
      all = λ q. let h = c.self.invariant.all q in grind (arith, common_steps);
      distinct =
          rw items (AreDistinct-sink
          (record { sources = c.self.inside.sources.items; sinks = c.self.inside.sinks.items }) c.args.node
          c.self.invariant.distinct (rw (← c.self.view_is) at c.requires));
    }
