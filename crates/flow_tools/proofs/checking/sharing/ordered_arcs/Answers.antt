-- Sorting keeps the places, and orders them by their pairs.
use Rattle.std.proofs.Common.{rules}
use Rattle.std.proofs.lemmas.List.Sorted.{IsNonDecreasingBy-from_sort_by_key}
use Rattle.flow_tools.specs.checking.ArcShares.{place_rank}
use Rattle.flow_tools.proofs.checking.Shares.{places_moved}
use Rattle.flow_tools.proofs.checking.sharing.ordered_arcs.Goals as goal

pub returns : goal.returns
returns c = record {
  listed = places_moved c.args.net.now _ _ c.sort_unstable_by_key.ensures.permutation c.in_ok-places.ensures;
  ordered =
      IsNonDecreasingBy-from_sort_by_key place_rank _ c.sort_unstable_by_key.ensures.sorted (λ a r q k. search rules);
}
