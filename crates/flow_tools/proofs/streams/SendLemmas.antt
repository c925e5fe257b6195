-- What goes on holding of a text that is sent in parts.
use Rattle.std.proofs.Common.{Result, Ok, Err, OnOk, OnErr, ◌-◌, arith, ◌≡◌, ℕ, List, [], ◌++◌, length, take, drop}
use Rattle.std.proofs.Common.{refl, sym, ap, ◌∙◌, append_assoc, take-append-drop, Option, Bool}
use Rattle.std.specs.Result.{IsErr}
use Rattle.std.proofs.lemmas.Bool.{false≢true}
use Rattle.std.specs.Io.KnownBytes.{Appends}
use Rattle.std.proofs.KnownBytes.{Appends-nil, Appends-trans}
use Rattle.std.proofs.lemmas.Slice.{between_to_end}
use Rattle.flow_tools.specs.streams.Streams.{Stream, Flags}
use Rattle.flow_tools.specs.streams.Sending.{IsPut, IsGathered, Sends, Stops}
use Rattle.flow_tools.proofs.streams.StreamParts.{stream}

-- nothing was taken, and all of the text waits
pub sends_start : (a : Option (List ℕ)) (text : List ℕ) → Sends a a text text
sends_start a text = record { sent = []; taken = Appends-nil a; whole = refl }

-- some of what waits is taken
pub sends_taken : (a b c : Option (List ℕ)) (waiting text : List ℕ) (n : ℕ) → Sends a b waiting text
    → Appends b c (take n waiting) → Sends a c (drop n waiting) text
sends_taken a b c waiting text n s p = record {
  sent = s.sent ++ take n waiting;
  taken = Appends-trans a b c s.sent (take n waiting) s.taken p;
  whole =
      s.whole ∙ ap (λ l. s.sent ++ l) (sym (take-append-drop n waiting))
      ∙ sym (append_assoc s.sent (take n waiting) (drop n waiting));
}

-- what was taken so far is a beginning of the text
pub sends_stopped : (a b : Option (List ℕ)) (waiting text : List ℕ) → Sends a b waiting text → Stops a b text
sends_stopped a b waiting text s = record { sent = s.sent; taken = s.taken; part = (waiting, s.whole) }

-- how a text is put from its first byte to its last, or to where a put failed
pub ruleset sends = (sends_start, sends_taken, sends_stopped)

-- the same, of `&waiting[n..]`
pub sends_rest : (a b c : Option (List ℕ)) (waiting text : List ℕ) (n : ℕ) → Sends a b waiting text
    → Appends b c (take n waiting) → Sends a c (take (length waiting - n) (drop n waiting)) text
sends_rest a b c waiting text n s p =
    let e : take (length waiting - n) (drop n waiting) ≡ drop n waiting =
    between_to_end waiting n (length waiting) (omega arith) in
    rw e (sends_taken a b c waiting text n s p)

-- a line more waits
pub sends_more : (a b c : Option (List ℕ)) (waiting more text line : List ℕ) → Sends a b waiting text
    → Sends b c more (waiting ++ line) → Sends a c more (text ++ line)
sends_more a b c waiting more text line s r = record {
  sent = s.sent ++ r.sent;
  taken = Appends-trans a b c s.sent r.sent s.taken r.taken;
  whole =
      ap (λ l. l ++ line) s.whole ∙ append_assoc s.sent waiting line ∙ ap (λ l. s.sent ++ l) r.whole
      ∙ sym (append_assoc s.sent r.sent more);
}

-- all that waited is taken
pub sends_all : (a b c : Option (List ℕ)) (waiting text : List ℕ) → Sends a b waiting text → Appends b c waiting
    → Appends a c text
sends_all a b c waiting text s p = rw s.whole (Appends-trans a b c s.sent waiting s.taken p)

-- a stream fails at some of what waited
pub stops_in : (a b c : Option (List ℕ)) (waiting text : List ℕ) → Sends a b waiting text → Stops b c waiting
    → Stops a c text
stops_in a b c waiting text s r = record {
  sent = s.sent ++ r.sent;
  taken = Appends-trans a b c s.sent r.sent s.taken r.taken;
  part = (r.part.0, s.whole ∙ ap (λ l. s.sent ++ l) r.part.1 ∙ sym (append_assoc s.sent r.sent r.part.0));
}

-- a stream fails at some of what follows what was taken
pub stops_at : (a b c : Option (List ℕ)) (waiting line before : List ℕ) → Sends a b waiting before
    → Stops b c (waiting ++ line) → Stops a c (before ++ line)
stops_at a b c waiting line before s r = record {
  sent = s.sent ++ r.sent;
  taken = Appends-trans a b c s.sent r.sent s.taken r.taken;
  part = (
    r.part.0,
    ap (λ l. l ++ line) s.whole ∙ append_assoc s.sent waiting line ∙ ap (λ l. s.sent ++ l) r.part.1
        ∙ sym (append_assoc s.sent r.sent r.part.0),
  );
}

-- a stream fails before the text's end
pub stops_early : (a b : Option (List ℕ)) (front rest text : List ℕ) → Stops a b front → text ≡ front ++ rest
    → Stops a b text
stops_early a b front rest text s e = record {
  sent = s.sent;
  taken = s.taken;
  part = (s.part.0 ++ rest, e ∙ ap (λ l. l ++ rest) s.part.1 ∙ append_assoc s.sent s.part.0 rest);
}

-- what holds anyway holds where a result is an error
pub on_err : {T E : Type 0} {P : Type 0} (r : Result T E) → P → OnErr r P
on_err (Ok x) p = tt
on_err (Err e) p = p

-- a flag over two calls
pub flags_on : {E : Type 0} (f g h : Bool) (r : Result (Unit {0}) E) → g ≡ f → Flags g h r → Flags f h r
flags_on f g h (Ok x) e p = p ∙ e
flags_on f g h (Err x) e p = p

module _ {E : Type 0} (a b c : Option (List ℕ)) (waiting text bytes : List ℕ) (sent : Sends a b waiting text)
    (same : bytes ≡ waiting) where
  -- what waited is put: all of the text was taken, or a beginning of it
  put_ok : (r : Result (Unit {0}) E) → OnOk r (Appends b c bytes) → OnOk r (Appends a c text)
  put_ok (Ok x) p = sends_all a b c waiting text sent (rw (← same) p)
  put_ok (Err x) p = tt

  put_err : (r : Result (Unit {0}) E) → OnErr r (Stops b c bytes) → OnErr r (Stops a c text)
  put_err (Ok x) p = tt
  put_err (Err x) p = stops_in a b c waiting text sent (rw (← same) p)

  -- so a text of which some waits is put once what waits is put
  pub waiting_put : (f g h : Bool) (r : Result (Unit {0}) E) → g ≡ f → IsPut bytes (stream b c g h) r
      → IsPut text (stream a c f h) r
  waiting_put f g h r kept put = record {
    ok = put_ok r put.ok;
    err = put_err r put.err;
    flag = flags_on f g h r kept put.flag;
  }

-- a line more waits, and none more is taken
pub sends_with : (a b : Option (List ℕ)) (waiting text line : List ℕ) → Sends a b waiting text
    → Sends a b (waiting ++ line) (text ++ line)
sends_with a b waiting text line s = record {
  sent = s.sent;
  taken = s.taken;
  whole = ap (λ l. l ++ line) s.whole ∙ append_assoc s.sent waiting line;
}

-- a stream fails at some of what waited, and so of what waits with a line more
pub stops_with : (a b : Option (List ℕ)) (text line : List ℕ) → Stops a b text → Stops a b (text ++ line)
stops_with a b text line s = stops_early a b text line (text ++ line) s refl

-- a line is gathered behind what waits
pub gathered_with : {E : Type 0} (waiting text line : List ℕ) (out : Stream) (x y : Unit {0})
    → IsGathered {E = E} waiting text out (Ok x) → IsGathered {E = E} (waiting ++ line) (text ++ line) out (Ok y)
gathered_with waiting text line out x y g = record {
  ok = sends_with out.before.bytes out.after.bytes waiting text line g.ok;
  err = tt;
  flag = g.flag;
}

-- where a put failed, none is
pub gathered_stops : {E : Type 0} (waiting more text line : List ℕ) (out : Stream) (e : E) (r : Result (Unit {0}) E)
    → IsErr r → IsGathered {T = Unit {0}} waiting text out (Err e) → IsGathered more (text ++ line) out r
gathered_stops waiting more text line out e (Ok x) f g = absurd (false≢true f)
gathered_stops waiting more text line out e (Err x) f g = record {
  ok = tt;
  err = stops_with out.before.bytes out.after.bytes text line g.err;
  flag = g.flag;
}
