-- `find_trail`: where no sink is seen the search has missed them all.
use Rattle.std.proofs.Common.{arith}
use Rattle.flow_solve.proofs.ResidualLemmas.Searched.{none_wanted, if_none}
use Rattle.flow_solve.proofs.paths.find_trail.Goals as goal

pub returns-clause-missed : goal.returns-clause-missed
returns-clause-missed c =
    let found = c.search.ensures in
    if_none c.first_seen.result _ _
    (λ out. found.missed (none_wanted c.args.plan.until.now c.search.new.dist c.search.result.wanted found.count out)
    (omega (arith, c.requires.enough))) c.first_seen.ensures.none
