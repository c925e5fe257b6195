-- What goes on holding while the lines of a list are sent.
use Rattle.std.proofs.Common.{◌≡◌, ◌+◌, ◌<◌, ◌≤◌, ℕ, Bool, true, false, List, [], ◌∷◌, ◌++◌, length, take, drop, filter}
use Rattle.std.proofs.Common.{cond, get_or, refl, sym, ap, ◌∙◌, append_assoc, append-nil, take-append-drop, Option}
use Rattle.std.proofs.lemmas.List.{take_more, take_all}
use Rattle.std.proofs.lemmas.Grind.{flat_map-append}
use Rattle.std.specs.List.{flat_map}
use Rattle.flow_tools.specs.streams.Sending.{Sends, Stops}
use Rattle.flow_tools.proofs.streams.SendLemmas.{sends_more, stops_at, stops_early}

-- the line of an item that passes a test, and nothing for another
abbrev pub line_if : {X : Type 0} → (X → Bool) → (X → List ℕ) → X → List ℕ
line_if p text_of x = cond (p x) (text_of x) []

-- an item that passes, and one that doesn't
pub line_if-true : {X : Type 0} (p : X → Bool) (text_of : X → List ℕ) (x : X) → true ≡ p x
    → text_of x ≡ line_if p text_of x
line_if-true p text_of x e = rw (← e) refl

pub line_if-false : {X : Type 0} (p : X → Bool) (text_of : X → List ℕ) (x : X) → false ≡ p x → line_if p text_of x ≡ []
line_if-false p text_of x e = rw (← e) refl

-- Behind what waited first, the lines of the first i items were sent or wait.
pub record HasSent {X : Type 0} (text_of : X → List ℕ) (xs : List X) (i : ℕ) (before after : Option (List ℕ))
    (held_before held_after : List ℕ) : Type 0 where
  pub sends : Sends before after held_after (held_before ++ flat_map text_of (take i xs))

module _ {X : Type 0} (text_of : X → List ℕ) (xs : List X) (i : ℕ) (d : X) (within : i < length xs) where
  -- the lines so far, and one more
  line_more : flat_map text_of (take (i + 1) xs) ≡ flat_map text_of (take i xs) ++ text_of (get_or xs i d)
  line_more =
      ap (flat_map text_of) (take_more xs i d within) ∙ flat_map-append text_of (take i xs) (get_or xs i d ∷ [])
      ∙ ap (λ l. flat_map text_of (take i xs) ++ l) (append-nil (text_of (get_or xs i d)))

  -- the lines so far, one more, and the others
  line_split : flat_map text_of xs
      ≡ (flat_map text_of (take i xs) ++ text_of (get_or xs i d)) ++ flat_map text_of (drop (i + 1) xs)
  line_split =
      ap (flat_map text_of) (sym (take-append-drop (i + 1) xs))
      ∙ flat_map-append text_of (take (i + 1) xs) (drop (i + 1) xs)
      ∙ ap (λ l. l ++ flat_map text_of (drop (i + 1) xs)) line_more

module _ {X : Type 0} (text_of : X → List ℕ) (xs : List X) (i : ℕ) (a b : Option (List ℕ)) (first waiting : List ℕ)
    (so_far : HasSent text_of xs i a b first waiting) where
  -- the next line waits
  pub lines_more : (d : X) (c : Option (List ℕ)) (more line : List ℕ) → i < length xs → line ≡ text_of (get_or xs i d)
      → Sends b c more (waiting ++ line) → HasSent text_of xs (i + 1) a c first more
  lines_more d c more line within same s =
      let e : first ++ flat_map text_of (take (i + 1) xs) ≡ (first ++ flat_map text_of (take i xs)) ++ line =
      ap (λ l. first ++ l) (line_more text_of xs i d within ∙ ap (λ l. flat_map text_of (take i xs) ++ l) (sym same))
      ∙ sym (append_assoc first (flat_map text_of (take i xs)) line) in
      record { sends = rw e (sends_more a b c waiting more _ line so_far.sends s) }

  -- the next item has no line
  pub lines_skip : (d : X) → i < length xs → text_of (get_or xs i d) ≡ [] → HasSent text_of xs (i + 1) a b first waiting
  lines_skip d within none =
      let e : flat_map text_of (take (i + 1) xs) ≡ flat_map text_of (take i xs) =
      line_more text_of xs i d within ∙ ap (λ l. flat_map text_of (take i xs) ++ l) none
      ∙ append-nil (flat_map text_of (take i xs)) in
      record { sends = rw e so_far.sends }

  -- a stream fails at the next line
  pub lines_stop : (d : X) (c : Option (List ℕ)) (line : List ℕ) → i < length xs → line ≡ text_of (get_or xs i d)
      → Stops b c (waiting ++ line) → Stops a c (first ++ flat_map text_of xs)
  lines_stop d c line within same s =
      let done = flat_map text_of (take i xs) in
      let rest = flat_map text_of (drop (i + 1) xs) in
      let split : flat_map text_of xs ≡ (done ++ line) ++ rest = rw same (line_split text_of xs i d within) in
      let e : first ++ flat_map text_of xs ≡ ((first ++ done) ++ line) ++ rest =
      ap (λ l. first ++ l) split ∙ sym (append_assoc first (done ++ line) rest)
      ∙ ap (λ l. l ++ rest) (sym (append_assoc first done line)) in
      stops_early a c ((first ++ done) ++ line) rest _ (stops_at a b c waiting line (first ++ done) so_far.sends s) e

  -- all lines are sent or wait
  pub lines_end : length xs ≤ i → Sends a b waiting (first ++ flat_map text_of xs)
  lines_end h = rw (take_all i xs h) at so_far.sends

-- the lines of the items that pass a test
flat_map-cond : {X : Type 0} (text_of : X → List ℕ) (x : X) (rest : List X) (b : Bool)
    → flat_map text_of (cond b (x ∷ rest) rest) ≡ cond b (text_of x) [] ++ flat_map text_of rest
flat_map-cond text_of x rest true = refl
flat_map-cond text_of x rest false = refl

-- for all items
pub flat_map-filter : {X : Type 0} (p : X → Bool) (text_of : X → List ℕ) (xs : List X)
    → flat_map text_of (filter p xs) ≡ flat_map (line_if p text_of) xs
flat_map-filter p text_of [] = refl
flat_map-filter p text_of (x ∷ xs) =
    flat_map-cond text_of x (filter p xs) (p x) ∙ ap (λ l. line_if p text_of x ++ l) (flat_map-filter p text_of xs)
