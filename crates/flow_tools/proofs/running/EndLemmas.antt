-- The exits of a run, from how its inputs were read, its answer was found, and that was put.
use Rattle.std.proofs.Common.{true≢false, ◌≡◌, ◌↔◌, ℕ, Bool, true, false, List, [], refl, sym, not, IsTrue, IsFalse}
use Rattle.std.proofs.Common.{Option, Result, Ok, Err, inl, inr, ◌⊎◌}
use Rattle.std.specs.Io.KnownBytes.{Appends}
use Rattle.std.proofs.KnownBytes.{Consumes-nil, Appends-nil}
use Rattle.flow_net.specs.Nets.{Instance}
use Rattle.flow_text.specs.Problem.{early, problem}
use Rattle.flow_text.specs.Solution.{early_solution, solution}
use Rattle.flow_tools.specs.streams.Streams.{StreamState, Stream, over, IsKept, HasFailed}
use Rattle.flow_tools.specs.streams.Sending.{Stops}
use Rattle.flow_tools.proofs.streams.StreamParts.{stream}
use Rattle.flow_tools.specs.running.Reading.{IsRead}
use Rattle.flow_tools.specs.running.OnePass.{IsOnePass}
use Rattle.flow_tools.specs.running.Exits.{EndsAt, HasComeToSolution, IsAllowed, IsCheck}
use Rattle.flow_tools.specs.running.AnswerExits.{Runs, Finds, FindsAt, IsAnswerTo, text_of, status_of}
use Rattle.flow_tools.specs.declared.running.answers.Answer.{Answer}
use Rattle.flow_tools.specs.declared.running.jobs.Job.{Job}
use Rattle.flow_tools.specs.declared.running.jobs.Stop.{Stop}
use Rattle.flow_tools.specs.declared.running.jobs.Stop.TheVariants.{Fault, ReadFailed, WriteFailed, OutOfMemory}

-- the opposite of a test holds where the test fails
pub false_of_not : (b : Bool) (P : Type 0) → IsTrue b ↔ P → IsFalse (not b) ↔ P
false_of_not true P h = (λ e. h.0 refl, λ q. refl)
false_of_not false P h = (λ e. absurd (true≢false e), λ q. absurd (true≢false (sym (h.1 q))))

module _ (source : Stream) (q : Option (List ℕ)) (qf : Bool) (job : Job) where
  -- the problem is refused, or can't be read
  pub problem_stops : (w : Option (List ℕ)) (wf : Bool) (stop : Stop)
      → IsRead {T = Instance} early (λ b fault. problem b ≡ Err fault) (λ b p. problem b ≡ Ok p) source false (Err stop)
      → Runs job source (stream q q qf qf) (stream w w wf wf) (Err stop)
  problem_stops w wf stop r err status told answered = record {
    end = Err stop;
    p = r.text;
    q = [];
    o = [];
    delivered_p = r.delivered;
    delivered_q = Consumes-nil q;
    put_o = Appends-nil w;
    one_pass = r.one_pass;
    solution_read = inl (refl, refl);
    exit = exit_of stop r;
    e = told.0;
    put_e = told.1;
    told = told.2;
    answered = answered;
  } where
    exit_of : (stop : Stop)
        (r : IsRead {T = Instance} early (λ b fault. problem b ≡ Err fault) (λ b p. problem b ≡ Ok p) source false
        (Err stop)) → EndsAt job source (stream q q qf qf) (stream w w wf wf) r.text [] [] (Err stop)
    exit_of (Fault true line code) r = absurd (true≢false r.judged.1)
    exit_of (Fault false line code) r = (r.judged.0, refl, refl, refl, refl, r.judged.2)
    exit_of ReadFailed r = (refl, refl, inl (r.judged.0, refl, refl, r.judged.1))
    exit_of WriteFailed r = absurd r.judged
    exit_of OutOfMemory r = (r.judged, refl, refl, refl)

module _ (job : Job) (source given : Stream) (instance : Instance)
    (r : IsRead {T = Instance} early (λ b fault. problem b ≡ Err fault) (λ b p. problem b ≡ Ok p) source false
    (Ok instance)) where
  -- what a run reads of a solution
  read_so_far : (q : List ℕ)
      → ((q ≡ []) × IsKept given) ⊎ (IsCheck job × IsOnePass (λ b. early_solution b instance.net.nodes) q)
      → ((q ≡ []) × IsKept given)
      ⊎ HasComeToSolution job source r.text (λ nodes. IsOnePass (λ b. early_solution b nodes) q)
  read_so_far q read = elim read [
    | inl none ↦ inl none
    | inr some ↦ inr (some.0, r.judged.0, (instance, r.judged.1, some.1))
  ]

  -- no answer is found
  pub none_found : (w : Option (List ℕ)) (wf : Bool) (stop : Stop) → Finds job instance given (Err stop)
      → Runs job source given (stream w w wf wf) (Err stop)
  none_found w wf stop a err status told answered = record {
    end = Err stop;
    p = r.text;
    q = a.q;
    o = [];
    delivered_p = r.delivered;
    delivered_q = a.delivered;
    put_o = Appends-nil w;
    one_pass = r.one_pass;
    solution_read = read_so_far a.q a.solution_read;
    exit = exit_of stop a.exit;
    e = told.0;
    put_e = told.1;
    told = told.2;
    answered = answered;
  } where
    exit_of : (stop : Stop) → FindsAt job instance given a.q (Err stop)
        → EndsAt job source given (stream w w wf wf) r.text a.q [] (Err stop)
    exit_of (Fault false line code) x = absurd x
    exit_of (Fault true line code) x = (x.0, refl, refl, (x.1, r.judged.0, (instance, r.judged.1, x.2)))
    exit_of ReadFailed x = (refl, refl, inr (x.0, (x.1, r.judged.0, (instance, r.judged.1, x.2))))
    exit_of WriteFailed x = absurd x
    exit_of OutOfMemory x = (r.judged.0.0, x, refl, refl)

  module _ (out : Stream) (answer : Answer) (a : Finds job instance given (Ok answer)) where
    allowed : IsAllowed job source given r.text a.q (text_of answer) (status_of answer)
    allowed = (r.judged.0, a.exit.0, a.exit.1, (instance, r.judged.1, a.exit.2.0))

    -- all of it is put
    pub answer_put : Appends out.before.bytes out.after.bytes (text_of answer) → IsKept out
        → Runs job source given out (Ok (status_of answer))
    answer_put put kept err status told answered = record {
      end = Ok (status_of answer);
      p = r.text;
      q = a.q;
      o = text_of answer;
      delivered_p = r.delivered;
      delivered_q = a.delivered;
      put_o = put;
      one_pass = r.one_pass;
      solution_read = read_so_far a.q a.solution_read;
      exit = (kept, allowed);
      e = told.0;
      put_e = told.1;
      told = told.2;
      answered = answered;
    }

    -- a put failed
    pub put_failed : Stops out.before.bytes out.after.bytes (text_of answer) → HasFailed out
        → Runs job source given out (Err WriteFailed)
    put_failed put failed err status told answered = record {
      end = Err WriteFailed;
      p = r.text;
      q = a.q;
      o = put.sent;
      delivered_p = r.delivered;
      delivered_q = a.delivered;
      put_o = put.taken;
      one_pass = r.one_pass;
      solution_read = read_so_far a.q a.solution_read;
      exit = (failed, (text_of answer, status_of answer, allowed, put.part));
      e = told.0;
      put_e = told.1;
      told = told.2;
      answered = answered;
    }

module _ (job : Job) (instance : Instance) (given : StreamState) where
  -- a job that has to do with no solution
  pub found : (answer : Answer) → (IsCheck job → ⊥) → IsAnswerTo job instance [] answer
      → Finds job instance (over given given) (Ok answer)
  found answer no_check a = record {
    q = [];
    delivered = Consumes-nil given.bytes;
    solution_read = inl (refl, refl);
    exit = (refl, (λ c. absurd (no_check c)), a);
  }

  pub no_memory : Finds job instance (over given given) (Err OutOfMemory)
  no_memory = record {
    q = [];
    delivered = Consumes-nil given.bytes;
    solution_read = inl (refl, refl);
    exit = refl;
  }

module _ (job : Job) (check : IsCheck job) (instance : Instance) (given : Stream) {T : Type 0}
    (accepts : List ℕ → T → Type 0) where
  -- how a solution was read
  abbrev pub IsReadAs : Result T Stop → Type 0
  IsReadAs end =
      IsRead {T = T} (λ b. early_solution b instance.net.nodes) (λ b fault. solution b instance.net.nodes ≡ Err fault)
      accepts given true end

  -- the solution is refused, or can't be read
  pub solution_stops : (stop : Stop) → IsReadAs (Err stop) → Finds job instance given (Err stop)
  solution_stops stop r = record {
    q = r.text;
    delivered = r.delivered;
    solution_read = inr (check, r.one_pass);
    exit = exit_of stop r;
  } where
    exit_of : (stop : Stop) (r : IsReadAs (Err stop)) → FindsAt job instance given r.text (Err stop)
    exit_of (Fault false line code) r = absurd (true≢false (sym r.judged.1))
    exit_of (Fault true line code) r = (r.judged.0, check, r.judged.2)
    exit_of ReadFailed r = (r.judged.0, check, r.judged.1)
    exit_of WriteFailed r = absurd r.judged
    exit_of OutOfMemory r = r.judged

  module _ (written : T) (r : IsReadAs (Ok written)) where
    -- it is judged
    pub solution_judged : (answer : Answer) → IsAnswerTo job instance r.text answer
        → Finds job instance given (Ok answer)
    solution_judged answer a = record {
      q = r.text;
      delivered = r.delivered;
      solution_read = inr (check, r.one_pass);
      exit = (r.judged.0.0, (λ c. r.judged.0), a);
    }

    -- it can't be, for want of memory
    pub not_judged : Finds job instance given (Err OutOfMemory)
    not_judged = record {
      q = r.text;
      delivered = r.delivered;
      solution_read = inr (check, r.one_pass);
      exit = r.judged.0.0;
    }
