-- What goes on holding while an input is read.
use Rattle.std.proofs.Common.{◌≡◌, ◌≤◌, ℕ, Bool, true, List, [], ◌++◌, length, take, refl, ◌∙◌, inl, inr, append-nil}
use Rattle.std.proofs.Common.{arith, lit≤, length-take, Option, None, Ok, Err}
use Rattle.std.specs.Io.KnownBytes.{Consumes, Keeps, IsAtEnd}
use Rattle.std.proofs.KnownBytes.{Consumes-nil, Consumes-trans, Consumes-kept}
use Rattle.flow_text.specs.declared.faults.FaultCode.{FaultCode}
use Rattle.flow_text.specs.declared.faults.ReadFault.{ReadFault}
use Rattle.flow_text.specs.declared.faults.ReadFault.TheVariants.{Fault, OutOfMemory}
use Rattle.flow_tools.proofs.streams.StreamParts.{stream}
use Rattle.flow_tools.specs.running.Reading.{FeedsOn, FinishesAs, IsRead, stop_for}
use Rattle.flow_tools.specs.running.OnePass.{IsOnePass}
use Rattle.flow_tools.specs.declared.running.jobs.Stop.{Stop}
use Rattle.flow_tools.specs.declared.running.jobs.Stop.TheVariants.{ReadFailed}

-- What was delivered so far was fed, and no pull has failed.
pub record IsReading (fed : List ℕ → Type 0) (before after : Option (List ℕ)) (failed_before failed_after : Bool)
    : Type 0 where
  pub text : List ℕ
  pub delivered : Consumes before after text
  pub has_text : fed text
  pub kept : failed_after ≡ failed_before

-- before the first pull
pub reading_starts : (fed : List ℕ → Type 0) (a : Option (List ℕ)) (f : Bool) → fed [] → IsReading fed a a f f
reading_starts fed a f h = record { text = []; delivered = Consumes-nil a; has_text = h; kept = refl }

-- a piece is at most as long as the buffer
pub piece_fits : (n : ℕ) (buf : List ℕ) → n ≤ 4096 → length (take n buf) ≤ 4096
piece_fits n buf h = omega (arith, length-take n buf)

module _ (early : List ℕ → Option (ℕ × FaultCode)) (fed : List ℕ → Type 0)
    (quiet : (b : List ℕ) → fed b → early b ≡ None) (before mid after : Option (List ℕ)) (fb fm fa : Bool)
    (so_far : IsReading fed before mid fb fm) where
  -- what was fed so far has no early fault, with a piece that isn't fed yet, and without one
  pass_of : (last : List ℕ) → length last ≤ 4096 → IsOnePass early (so_far.text ++ last)
  pass_of last short = (so_far.text, last, refl, short, quiet so_far.text so_far.has_text)

  pass_of_all : IsOnePass early so_far.text
  pass_of_all = (so_far.text, [], search append-nil, lit≤ tt, quiet so_far.text so_far.has_text)

  -- the next piece is fed
  pub goes_on : (fed_more : List ℕ → Type 0) (piece : List ℕ) → Consumes mid after piece → fa ≡ fm
      → ((b : List ℕ) → fed b → fed_more (b ++ piece)) → IsReading fed_more before after fb fa
  goes_on fed_more piece pulled unfailed feeds = record {
    text = so_far.text ++ piece;
    delivered = Consumes-trans before mid after so_far.text piece so_far.delivered pulled;
    has_text = feeds so_far.text so_far.has_text;
    kept = unfailed ∙ so_far.kept;
  }

  -- a pull fails
  pub pull_fails : {T : Type 0} (has_fault : List ℕ → ℕ × FaultCode → Type 0) (accepts : List ℕ → T → Type 0)
      (solution : Bool) → Keeps mid after → fa ≡ true
      → IsRead {T = T} early has_fault accepts (stream before after fb fa) solution (Err ReadFailed)
  pull_fails has_fault accepts solution kept failed = record {
    text = so_far.text;
    delivered = Consumes-kept before mid after so_far.text so_far.delivered kept;
    one_pass = pass_of_all;
    judged = (failed, quiet so_far.text so_far.has_text);
  }

  module _ {T : Type 0} (has_fault : List ℕ → ℕ × FaultCode → Type 0) (accepts : List ℕ → T → Type 0) (solution : Bool)
      (fed_more : List ℕ → Type 0) (piece : List ℕ) (short : length piece ≤ 4096) (pulled : Consumes mid after piece)
      (unfailed : fa ≡ fm) where
    -- the next piece is refused
    pub refused : (fault : ReadFault) (result : Stop)
        → ((b : List ℕ) → fed b → FeedsOn (early (b ++ piece)) (fed_more (b ++ piece)) (Err fault))
        → result ≡ stop_for solution fault
        → IsRead {T = T} early has_fault accepts (stream before after fb fa) solution (Err result)
    refused (Fault line code) result fails e = rw e (record {
      text = so_far.text ++ piece;
      delivered = Consumes-trans before mid after so_far.text piece so_far.delivered pulled;
      one_pass = pass_of piece short;
      judged = (unfailed ∙ so_far.kept, refl, inl (fails so_far.text so_far.has_text));
    })
    refused OutOfMemory result fails e = rw e (record {
      text = so_far.text ++ piece;
      delivered = Consumes-trans before mid after so_far.text piece so_far.delivered pulled;
      one_pass = pass_of piece short;
      judged = unfailed ∙ so_far.kept;
    })

  module _ {T : Type 0} (has_fault : List ℕ → ℕ × FaultCode → Type 0) (accepts : List ℕ → T → Type 0) (solution : Bool)
      (pulled : Consumes mid after []) (at_end : IsAtEnd after) (unfailed : fa ≡ fm) where
    delivered_all : Consumes before after so_far.text
    delivered_all = rw append-nil at (Consumes-trans before mid after so_far.text [] so_far.delivered pulled)

    -- the input ends, and the text is accepted
    pub accepted : (value : T) → ((b : List ℕ) → fed b → FinishesAs (has_fault b) (accepts b) (Ok value))
        → IsRead early has_fault accepts (stream before after fb fa) solution (Ok value)
    accepted value finishes = record {
      text = so_far.text;
      delivered = delivered_all;
      one_pass = pass_of_all;
      judged = ((unfailed ∙ so_far.kept, at_end), finishes so_far.text so_far.has_text);
    }

    -- the input ends, and the text is refused
    pub refused_at_end : (fault : ReadFault) (result : Stop)
        → ((b : List ℕ) → fed b → FinishesAs (has_fault b) (accepts b) (Err fault)) → result ≡ stop_for solution fault
        → IsRead {T = T} early has_fault accepts (stream before after fb fa) solution (Err result)
    refused_at_end (Fault line code) result finishes e = rw e (record {
      text = so_far.text;
      delivered = delivered_all;
      one_pass = pass_of_all;
      judged = (
        unfailed ∙ so_far.kept,
        refl,
        inr ((unfailed ∙ so_far.kept, at_end), finishes so_far.text so_far.has_text),
      );
    })
    refused_at_end OutOfMemory result finishes e =
        rw e (record {
          text = so_far.text;
          delivered = delivered_all;
          one_pass = pass_of_all;
          judged = unfailed ∙ so_far.kept;
        })
