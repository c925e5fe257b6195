-- A run over texts in memory: what its exits say where no input can fail and all that an input has is known.
use Rattle.std.proofs.Common.{true≢false, ◌≡◌, ◌≢◌, ℕ, Bool, true, false, List, [], ◌++◌, refl, sym, ap, subst, ◌∙◌}
use Rattle.std.proofs.Common.{append-nil, Some, Result, Ok, Err, inl, inr, ◌⊎◌, length}
use Rattle.std.specs.Prelude.{take}
use Rattle.std.proofs.Math.Seq.{take-append_seam}
use Rattle.flow_net.specs.Nets.{Instance}
use Rattle.flow_net.specs.declared.networks.OutOfMemory.{OutOfMemory as NoMemory}
use Rattle.flow_text.specs.Problem.{early, problem}
use Rattle.flow_text.specs.Solution.{early_solution, solution}
use Rattle.flow_text.specs.TextLaws.{EarlyFaultStays, EarlySolutionFaultStays}
use Rattle.flow_text.specs.declared.faults.FaultCode.{FaultCode}
use Rattle.flow_tools.specs.streams.Streams.{Stream, IsBeginning}
use Rattle.flow_tools.specs.running.Answers.{IsAnswer}
use Rattle.flow_tools.specs.running.Exits.{EndsAt, EndsWith, HasFault, IsAllowed, IsCheck, ending}
use Rattle.flow_tools.specs.running.AnswerExits.{IsTold}
use Rattle.flow_tools.specs.running.TextRuns.{Answers, RunsOn}
use Rattle.flow_tools.specs.declared.running.jobs.Job.{Job}
use Rattle.flow_tools.specs.declared.running.jobs.Job.TheVariants.{Solve, Cut, Connect, Check}
use Rattle.flow_tools.specs.declared.running.jobs.Stop.{Stop}
use Rattle.flow_tools.specs.declared.running.jobs.Stop.TheVariants.{Fault, ReadFailed, WriteFailed, OutOfMemory}
use Rattle.flow_tools.proofs.streams.StreamParts.{stream}

-- an input that has ended has delivered its whole text
whole : (b p rest : List ℕ) → b ≡ p ++ rest → rest ≡ [] → p ≡ b
whole b p rest is none = sym (is ∙ ap (λ l. p ++ l) none ∙ append-nil p)

-- no job but the check of a solution has to do with a solution's text
of_text : (job : Job) (instance : Instance) (q r text : List ℕ) (status : ℕ) → (IsCheck job → q ≡ r)
    → IsAnswer job instance q text status → IsAnswer job instance r text status
of_text (Solve value_only) instance q r text status same h = h
of_text (Cut arcs sink) instance q r text status same h = h
of_text (Connect undirected pair) instance q r text status same h = h
of_text (Check feasible_only) instance q r text status same h =
    subst (λ l. IsAnswer (Check feasible_only) instance l text status) (same (feasible_only, refl)) h

module _ (job : Job) (b b_rest q q_rest : List ℕ) where
  -- the problem and the solution, over the run
  abbrev source : Stream
  source = stream (Some b) (Some b_rest) false false

  abbrev given : Stream
  given = stream (Some q) (Some q_rest) false false

  answers : (p r text : List ℕ) (status : ℕ) → b ≡ p ++ b_rest → q ≡ r ++ q_rest
      → IsAllowed job source given p r text status → Answers job b q text status
  answers p r text status is r_is h =
      let same = whole b p b_rest is h.0.1 in
      let said = h.3 in (
        said.0,
        subst (λ l. problem l ≡ Ok said.0) same said.1,
        of_text job said.0 r q text status (λ c. whole q r q_rest r_is (h.2 c).1) said.2,
      )

  -- the first fault of what an input delivered is that of its text
  problem_fault : (p : List ℕ) (fault : ℕ × FaultCode) → EarlyFaultStays → b ≡ p ++ b_rest
      → HasFault (early p) (problem p) source fault → problem b ≡ Err fault
  problem_fault p fault stays is h = elim h [
    | inl early' ↦ subst (λ l. problem l ≡ Err fault) (sym is) (stays p b_rest fault early')
    | inr late ↦ subst (λ l. problem l ≡ Err fault) (whole b p b_rest is late.0.1) late.1
  ]

  solution_fault : (r : List ℕ) (nodes : ℕ) (fault : ℕ × FaultCode) → EarlySolutionFaultStays → q ≡ r ++ q_rest
      → HasFault (early_solution r nodes) (solution r nodes) given fault → solution q nodes ≡ Err fault
  solution_fault r nodes fault stays is h = elim h [
    | inl early' ↦ subst (λ l. solution l nodes ≡ Err fault) (sym is) (stays r q_rest nodes fault early')
    | inr late ↦ subst (λ l. solution l nodes ≡ Err fault) (whole q r q_rest is late.0.1) late.1
  ]

  module _ (out_before out_after err_before err_after : List ℕ) (out_had out_has err_had err_has : Bool) where
    abbrev out : Stream
    out = stream (Some out_before) (Some out_after) out_had out_has

    abbrev err : Stream
    err = stream (Some err_before) (Some err_after) err_had err_has

    -- what was put, and the answer of the call
    abbrev pub Ran : Result ℕ NoMemory → Type 0
    Ran r = (o : List ℕ) × (e : List ℕ) × (out_after ≡ out_before ++ o) × (err_after ≡ err_before ++ e)
        × RunsOn job b q o e r

    -- whatever the exit was, the output got nothing or a beginning of an answer, and what the errors had is left of
    -- them
    pub ran_refused : (status : ℕ) (refused : NoMemory) (had : ℕ) → EndsWith job source given out err status
        → had ≡ length err_before
        → (o : List ℕ) × (out_after ≡ out_before ++ o) × (take had err_after ≡ err_before ++ [])
        × RunsOn job b q o [] (Err refused)
    ran_refused status refused had run is =
        let left : take had err_after ≡ err_before ++ [] =
        rw (is, run.put_e) (take-append_seam err_before run.e ∙ sym (append-nil err_before)) in
        (run.o, run.put_o, left, (refl, at run.end run.exit)) where
          at : (end : Result ℕ Stop) → EndsAt job source given out run.p run.q run.o end
              → (run.o ≡ []) ⊎ ((text : List ℕ) × (s : ℕ) × Answers job b q text s × IsBeginning run.o text)
          at (Ok s) h =
              let text = answers run.p run.q run.o s run.delivered_p run.delivered_q h.1 in
              inr (run.o, s, text, ([], sym (append-nil run.o)))
          at (Err (Fault false line code)) h = inl h.3
          at (Err (Fault true line code)) h = inl h.2
          at (Err ReadFailed) h = inl h.1
          at (Err WriteFailed) h =
              inr (h.1.0, h.1.1, answers run.p run.q h.1.0 h.1.1 run.delivered_p run.delivered_q h.1.2, h.1.3)
          at (Err OutOfMemory) h = inl h.3

    -- a message that was told by a stream that hasn't failed was told whole
    told_whole : (message : List ℕ) (told : IsTold err message) → err_has ≡ false → told.0 ≡ message
    told_whole message told none = elim told.2 [
      | inl kept ↦ kept.1
      | inr failed ↦ absurd (true≢false (sym failed.0 ∙ none))
    ]

    -- where the status isn't that of a failure, and the message was told, the run has answered or told a fault
    pub ran_done : (status : ℕ) → EarlyFaultStays → EarlySolutionFaultStays
        → EndsWith job source given out err status → status ≢ 4 → err_has ≡ false → Ran (Ok status)
    ran_done status stays solution_stays run done none =
        let told = told_whole (ending run.end).0 (run.e, run.put_e, run.told) none in
        (run.o, run.e, run.put_o, run.put_e, at run.end run.exit told run.answered) where
          at : (end : Result ℕ Stop) → EndsAt job source given out run.p run.q run.o end → run.e ≡ (ending end).0
              → status ≡ (ending end).1 → RunsOn job b q run.o run.e (Ok status)
          at (Ok s) h told is =
              inl (
                subst (λ k. Answers job b q run.o k) (sym is)
                    (answers run.p run.q run.o s run.delivered_p run.delivered_q h.1),
                told,
              )
          at (Err (Fault false line code)) h told is =
              inr (inl (line, code, problem_fault run.p (line, code) stays run.delivered_p h.5, told), h.3, is)
          at (Err (Fault true line code)) h told is =
              let come = h.3 in
              let said = come.2 in
              let same = whole b run.p b_rest run.delivered_p come.1.1 in
              inr (
                inr (
                  come.0,
                  (
                    said.0,
                    line,
                    code,
                    subst (λ l. problem l ≡ Ok said.0) same said.1,
                    solution_fault run.q said.0.net.nodes (line, code) solution_stays run.delivered_q said.2,
                    told,
                  ),
                ),
                h.2,
                is,
              )
          at (Err ReadFailed) h told is = absurd (done is)
          at (Err WriteFailed) h told is = absurd (done is)
          at (Err OutOfMemory) h told is = absurd (done is)
