-- What a command line that was read asks for.
use Rattle.std.specs.Prelude.{◌≡◌, Bool, false, List, codes, Option, Some, None, option_map, if◌then◌else◌}
use Rattle.std.specs.Str.{bytes_eq}
use Rattle.std.specs.Option.{option_map_or}
use Rattle.std.specs.Borrow.{Bor}
use Rattle.clap.specs.Words.{Row, Text, first_of}
use Rattle.flow_tools.specs.declared.running.jobs.Job.{Job}
use Rattle.flow_tools.specs.declared.running.jobs.Job.TheVariants.{Solve, Cut, Connect, Check}
use Rattle.flow.specs.declared.requests.Files.{Files}

-- whether the flag was given
abbrev pub is_given : Text → List Row → Bool
is_given id rows = option_map_or (λ t. bytes_eq t (codes "true")) (first_of id rows) false

-- the job that a command of this name asks for, with these entries
abbrev pub job_for : Text → List Row → Option Job
job_for name rows =
    if bytes_eq name (codes "solve") then Some (Solve (is_given (codes "value") rows))
    else if bytes_eq name (codes "cut") then Some (Cut (is_given (codes "arcs") rows) (is_given (codes "sink") rows))
    else if bytes_eq name (codes "connect")
    then Some (Connect (is_given (codes "undirected") rows) (is_given (codes "pair") rows))
    else if bytes_eq name (codes "check") then Some (Check (is_given (codes "feasible") rows))
    else None

-- the name of a file
abbrev pub name_of : Option (Bor Text) → Option Text
name_of name = option_map (λ t. t.now) name

-- The files are the texts of the entries.
pub record HasFiles (rows : List Row) (files : Files) : Type 0 where
  pub problem : name_of files.problem ≡ first_of (codes "problem") rows
  pub solution : name_of files.solution ≡ first_of (codes "solution") rows

-- the answer for the command that was matched, if one was: its job and its files, or none where it isn't one of the
-- program's
abbrev pub IsJobOf : Option (Text × List Row) → Option (Job × Files) → Type 0
IsJobOf None answer = answer ≡ None
IsJobOf (Some (name, rows)) None = job_for name rows ≡ None
IsJobOf (Some (name, rows)) (Some (job, files)) = (job_for name rows ≡ Some job) × HasFiles rows files
