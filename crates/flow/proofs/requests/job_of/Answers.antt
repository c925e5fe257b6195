-- What `job_of` answers of a matched command: the job of its name with its flags, and its files as they were given.
use Rattle.std.proofs.Common.{sym, ◌∙◌, codes}
use Rattle.clap.proofs.WalkLemmas.{first_value-rows}
use Rattle.clap.specs.declared.parser.matches.ArgMatches.TheViews.{out-ArgMatches, out-SubCommand}
use Rattle.clap.specs.Words.{rows_of, found_of}
use Rattle.std.specs.Box.{box_value}
use Rattle.flow.proofs.RequestLemmas.{job_is}
use Rattle.flow.proofs.requests.job_of.Goals as goal

pub returns-in-Some-job_named : goal.returns-in-Some-job_named
returns-in-Some-job_named c =
    job_is (λ b. (out-SubCommand (box_value b)).name.now)
    (λ b. rows_of (found_of (out-SubCommand (box_value b)).matches)) (out-ArgMatches c.args.m.now).subcommand
    c.in-Some.name.now (rows_of (found_of c.in-Some.sub.now)) c.in-Some-job_named.job _ c.in-Some.ensures.name
    c.in-Some.ensures.rows (sym c.in-Some-job_named.ensures)
    (record {
      problem = c.get_str-problem.ensures ∙ first_value-rows (found_of c.in-Some.sub.now) (codes "problem");
      solution = c.get_str-solution.ensures ∙ first_value-rows (found_of c.in-Some.sub.now) (codes "solution");
    })
