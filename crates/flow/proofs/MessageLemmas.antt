-- How far a message was taken where a put of one of its parts failed.
use Rattle.std.proofs.Common.{Result, Ok, Err, OnOk, OnErr, ◌≡◌, Bool, ℕ, List, [], ◌∷◌, ◌++◌, refl, sym, ap, ◌∙◌}
use Rattle.std.proofs.Common.{append_assoc, Option}
use Rattle.std.specs.Prelude.{codes}
use Rattle.std.specs.Io.KnownBytes.{Appends}
use Rattle.std.proofs.KnownBytes.{Appends-trans}
use Rattle.flow_tools.specs.streams.Sending.{IsPut, Stops}
use Rattle.flow_tools.proofs.SendLemmas.{flags_on, stops_early}
use Rattle.flow_tools.proofs.StreamParts.{stream}
use Rattle.flow.specs.Messages.{cannot_open}

-- a stream fails behind what it took
stops_behind : (a b c : Option (List ℕ)) (front text : List ℕ) → Appends a b front → Stops b c text
    → Stops a c (front ++ text)
stops_behind a b c front text p s = record {
  sent = front ++ s.sent;
  taken = Appends-trans a b c front s.sent p s.taken;
  part = (s.part.0, ap (λ l. front ++ l) s.part.1 ∙ sym (append_assoc front s.sent s.part.0));
}

-- in the words before the name
pub stops_before_name : (a b : Option (List ℕ)) (name : List ℕ) → Stops a b (codes "flow: cannot open ")
    → Stops a b (cannot_open name)
stops_before_name a b name s = stops_early a b (codes "flow: cannot open ") (name ++ 10 ∷ []) (cannot_open name) s refl

-- in the name
pub stops_in_name : (a b c : Option (List ℕ)) (name : List ℕ) → Appends a b (codes "flow: cannot open ")
    → Stops b c name → Stops a c (cannot_open name)
stops_in_name a b c name p s =
    stops_behind a b c (codes "flow: cannot open ") (name ++ 10 ∷ []) p
    (stops_early b c name (10 ∷ []) (name ++ 10 ∷ []) s refl)

-- behind the words and the name
module _ {E : Type 0} (a b c d : Option (List ℕ)) (name : List ℕ) (words : Appends a b (codes "flow: cannot open "))
    (named : Appends b c name) where
  -- at the line's end
  stops_behind_name : (r : Result (Unit {0}) E) → OnErr r (Stops c d (10 ∷ [])) → OnErr r (Stops a d (cannot_open name))
  stops_behind_name (Ok x) s = tt
  stops_behind_name (Err e) s =
      stops_behind a b d (codes "flow: cannot open ") (name ++ 10 ∷ []) words
      (stops_behind b c d name (10 ∷ []) named s)

  -- the whole line is put
  whole_put : (r : Result (Unit {0}) E) → OnOk r (Appends c d (10 ∷ [])) → OnOk r (Appends a d (cannot_open name))
  whole_put (Ok x) s =
      Appends-trans a b d (codes "flow: cannot open ") (name ++ 10 ∷ []) words
      (Appends-trans b c d name (10 ∷ []) named s)
  whole_put (Err e) s = tt

  -- all of it
  pub put_whole : (f g h : Bool) (r : Result (Unit {0}) E) → g ≡ f → IsPut (10 ∷ []) (stream c d g h) r
      → IsPut (cannot_open name) (stream a d f h) r
  put_whole f g h r kept put = record {
    ok = whole_put r put.ok;
    err = stops_behind_name r put.err;
    flag = flags_on f g h r kept put.flag;
  }
