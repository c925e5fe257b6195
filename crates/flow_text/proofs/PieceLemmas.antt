-- A piece, cut at the places of byte 10.
use Rattle.std.proofs.Common.{◌≡◌, ◌<◌, ℕ, ◌+◌, Bool, true, false, List, [], ◌∷◌, ◌++◌, length, take, drop, refl, ap}
use Rattle.std.proofs.Common.{◌∙◌, sym, arith, append_assoc, Some, None, Result, Ok, Err, take-add}
use Rattle.std.proofs.lemmas.Bool.{eqb-true}
use Rattle.std.proofs.lemmas.List.{take-append-drop, get_or-take, take_more, length-take-le}
use Rattle.std.proofs.lemmas.List.Elements.{All-from_get_or}
use Rattle.memchr.specs.Find.{IsFirstByte, is_byte}
use Rattle.flow_text.specs.LineParts.{is_end, HasNoEnd}
use Rattle.flow_text.specs.Rules.{Rules}
use Rattle.flow_text.specs.Reading.{State, HasRead, BuffersTail, Takes}
use Rattle.flow_text.specs.declared.machine.Refusal.{Refusal}
use Rattle.flow_text.proofs.ReaderLemmas.{HasRead-buffers, Tells-buffers}

not_true : (x : Bool) → (x ≡ true → ⊥) → x ≡ false
not_true true h = absurd (h refl)
not_true false h = refl

-- the first byte 10 of these bytes stands at this place
pub record LineEndsAt (text : List ℕ) (at : ℕ) : Type 0 where
  pub within : at < length text
  pub none : HasNoEnd (take at text)
  pub front : take (at + 1) text ≡ take at text ++ 10 ∷ []

pub LineEndsAt-from : (text : List ℕ) (at : ℕ) → IsFirstByte (is_byte 10) text (Some at) → LineEndsAt text at
LineEndsAt-from text at f =
    let inside : at < length text = f.0.high in
    let span = length-take-le at text (omega arith) in
    record {
      within = inside;
      none = All-from_get_or (λ c. is_end c ≡ false) (take at text) 0 (λ k below.
          let low : k < at = omega arith in
          rw (get_or-take at text k 0 low) (not_true _ (f.0.before k (omega arith) low)));
      front = take_more text at 0 inside ∙ ap (λ c. take at text ++ c ∷ []) (eqb-true _ _ f.1);
    }

-- where none is found, the line goes on
pub no_end_left : (text : List ℕ) → IsFirstByte (is_byte 10) text None → HasNoEnd text
no_end_left text f = All-from_get_or (λ c. is_end c ≡ false) text 0 (λ k below. not_true _ (f k (omega arith) below))

pub text-more : (b piece : List ℕ) (start at : ℕ) → LineEndsAt (drop start piece) at
    → (b ++ take start piece) ++ (take at (drop start piece) ++ 10 ∷ []) ≡ b ++ take (start + (at + 1)) piece
text-more b piece start at f =
    append_assoc b (take start piece) _
    ∙ ap (λ more. b ++ more)
    (ap (λ more. take start piece ++ more) (sym f.front) ∙ sym (take-add start (at + 1) piece))

pub text-all : (b piece : List ℕ) (start at : ℕ) → LineEndsAt (drop start piece) at
    → ((b ++ take start piece) ++ (take at (drop start piece) ++ 10 ∷ [])) ++ drop (start + (at + 1)) piece ≡ b ++ piece
text-all b piece start at f =
    ap (λ text. text ++ drop (start + (at + 1)) piece) (text-more b piece start at f) ∙ append_assoc b _ _
    ∙ ap (λ more. b ++ more) (take-append-drop (start + (at + 1)) piece)

pub text-last : (b piece : List ℕ) (start : ℕ) → (b ++ take start piece) ++ drop start piece ≡ b ++ piece
text-last b piece start = append_assoc b _ _ ∙ ap (λ more. b ++ more) (take-append-drop start piece)

pub Takes-from : {K : Type 0} (rules : Rules K) (known_of : List (List ℕ) → K) (old new : State K) (b tail : List ℕ)
    (r : Result (Unit {0}) Refusal) → HasNoEnd tail → HasRead rules known_of old b
    → BuffersTail old tail r new → Takes rules known_of (b ++ tail) r new
Takes-from rules known_of old new b tail (Ok done) none r h = HasRead-buffers rules known_of old new b tail none r h
Takes-from rules known_of old new b tail (Err refusal) none r h =
    Tells-buffers rules known_of old new b tail refusal none r h
