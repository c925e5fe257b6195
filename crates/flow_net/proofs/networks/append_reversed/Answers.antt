-- `append_reversed`: at first nothing is appended, and there is room for as many arcs again.
use Rattle.std.proofs.Common.{sym, ◌∙◌, rules}
use Rattle.std.proofs.Math.Nat.{add-zero}
use Rattle.std.proofs.lemmas.List.{append-nil}
use Rattle.flow_net.proofs.networks.append_reversed.Goals as goal

pub loop-i-init : goal.loop-i-init
loop-i-init c = record {
  all = c.len-len.ensures ∙ c.args.arcs.now.ok.0;
  items = c.reserve.ensures.items ∙ sym (append-nil c.args.arcs.now.items);
  grown = c.reserve.ensures.len ∙ sym c.len-len.ensures ∙ sym (add-zero c.len-len.result);
  room = search rules;
}
