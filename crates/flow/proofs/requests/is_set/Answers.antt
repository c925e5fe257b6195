-- A flag is given where its value is the text `true`.
use Rattle.std.proofs.Common.{rules}
use Rattle.clap.proofs.WalkLemmas.{first_value-rows}
use Rattle.clap.specs.declared.parser.matches.ArgMatches.TheViews.{out-ArgMatches}
use Rattle.flow.proofs.requests.is_set.Goals as goal

pub returns-in-Some : goal.returns-in-Some
returns-in-Some c =
    rw (← first_value-rows (out-ArgMatches c.args.m.now).found c.args.id.now, ← c.in-Some.ensures) (search rules)

pub returns-in-None : goal.returns-in-None
returns-in-None c =
    rw (← first_value-rows (out-ArgMatches c.args.m.now).found c.args.id.now, ← c.in-None.ensures) (search rules)
