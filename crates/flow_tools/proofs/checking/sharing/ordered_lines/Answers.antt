-- Sorting orders the lines by their pairs.
use Rattle.std.proofs.Common.{rules}
use Rattle.std.proofs.lemmas.List.Sorted.{IsNonDecreasingBy-from_sort_by_key}
use Rattle.flow_tools.specs.checking.ArcShares.{line_rank}
use Rattle.flow_tools.proofs.checking.sharing.ordered_lines.Goals as goal

pub returns-clause-ordered : goal.returns-clause-ordered
returns-clause-ordered c =
    IsNonDecreasingBy-from_sort_by_key line_rank _ c.sort_unstable_by_key.ensures.sorted (λ a r q k. search rules)
