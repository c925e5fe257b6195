-- From the clauses of a matched command to its job.
use Rattle.std.proofs.Common.{◌≡◌, List, Option, Some, None, option_map}
use Rattle.clap.specs.Words.{Row, Text}
use Rattle.flow_tools.specs.declared.running.jobs.Job.{Job}
use Rattle.flow.specs.declared.requests.Files.{Files}
use Rattle.flow.specs.Requests.{job_for, HasFiles, IsJobOf}

-- what stands in two equal options
some_is : {A : Type 0} (x y : A) → Some x ≡ Some y → x ≡ y
some_is x y e = cc

-- a matched command with the name of a job has this job and these files
pub job_is : {S : Type 0} (name_of : S → Text) (rows_in : S → List Row) (s : Option S) (name : Text) (rows : List Row)
    (job : Job) (files : Files)
    → Some name ≡ option_map name_of s
    → Some rows ≡ option_map (λ (p : Text × List Row). p.1) (option_map (λ (b : S). (name_of b, rows_in b)) s)
    → job_for name rows ≡ Some job → HasFiles rows files
    → IsJobOf (option_map (λ (b : S). (name_of b, rows_in b)) s) (Some (job, files))
job_is name_of rows_in None name rows job files n r j f = absurd (let e : Some name ≡ None = n in cc)
job_is name_of rows_in (Some b) name rows job files n r j f =
    let en : name ≡ name_of b = some_is name (name_of b) n in
    let er : rows ≡ rows_in b = some_is rows (rows_in b) r in
    (rw (← en, ← er) j, rw (← er) f)
