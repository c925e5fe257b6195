-- One node more is taken: it is a node, differs from those before, and is marked.
use Rattle.std.proofs.Common.{◌≡◌, ◌<◌, ℕ, zero, suc, ◌+◌, ◌||◌, true, false, Bool, List, [], ◌∷◌, ◌++◌, length}
use Rattle.std.proofs.Common.{get_or, set, ◌∙◌, sym, ap, inl, inr, arith, eqb, eq-eqb, append_assoc, take}
use Rattle.std.proofs.Common.{add-one, ◌≤◌, refl, append-nil}
use Rattle.std.proofs.lemmas.Bool.{cases_eq, ne_eqb}
use Rattle.std.proofs.lemmas.List.{get_or-set_same, get_or-set_other, map-append, take-append-drop, get_or_append_left}
use Rattle.std.proofs.lemmas.List.{get_or-append-add}
use Rattle.std.proofs.lemmas.List.{get_or-map, length-map, length-take-le}
use Rattle.std.proofs.Common.{drop, length-append}
use Rattle.std.proofs.lemmas.List.Folds.{list_any-append}
use Rattle.std.proofs.Math.Seq.{take-suc}
use Rattle.std.specs.List.{All}
use Rattle.std.proofs.lemmas.List.Elements.{All-append}
use Rattle.flow_net.specs.NodeSets.{one_of}
use Rattle.flow_net.specs.Limits.{AreDistinct}
use Rattle.flow_net.specs.MarkedNodes.{marked}
use Rattle.flow_text.proofs.TerminalLemmas.{AreDistinct-sink}
use Rattle.flow_net.proofs.NodeLists.{place_in}
use Rattle.flow_c.specs.Lists.{from_one, AreTaken}
use Rattle.flow_c.specs.Refusals.{HasTwice}

-- a node more in a list
one_of-more : (all : List ℕ) (n v : ℕ) → one_of (all ++ n ∷ []) v ≡ (one_of all v || (eqb n v || false))
one_of-more all n v = list_any-append (λ w. eqb w v) all (n ∷ [])

marked-one : (marks : List Bool) (all : List ℕ) (n : ℕ) → n < length marks
    → ((v : ℕ) → marked marks v ≡ one_of all v) → (v : ℕ) → marked (set marks n true) v ≡ one_of (all ++ suc n ∷ []) v
marked-one marks all n within same zero =
    let old = same zero in let new = one_of-more all (suc n) zero in grind arith
marked-one marks all n within same (suc v) =
    let old = same (suc v) in
    let new = one_of-more all (suc n) (suc v) in
    elim (cases_eq v n) [
      | inl e ↦
          let here : get_or (set marks n true) v false ≡ true =
          ap (λ k. get_or (set marks n true) k false) e ∙ get_or-set_same marks n true false within in
          let sees = eq-eqb (suc n) (suc v) (ap suc (sym e)) in grind arith
      | inr e ↦
          let other = get_or-set_other marks n v true false e in
          let misses = ne_eqb (suc n) (suc v) (λ h. e (omega (arith, h))) in grind arith
    ]

-- the marks after one more
pub marked-more : (marks : List Bool) (before taken : List ℕ) (n : ℕ) → n < length marks
    → ((v : ℕ) → marked marks v ≡ one_of (before ++ taken) v)
    → (v : ℕ) → marked (set marks n true) v ≡ one_of (before ++ (taken ++ (n + 1) ∷ [])) v
marked-more marks before taken n within same v =
    rw (← append_assoc before taken ((n + 1) ∷ [])) (rw add-one (marked-one marks (before ++ taken) n within same v))

-- all differ with one more that isn't marked
distinct-more : (marks : List Bool) (before taken : List ℕ) (n : ℕ)
    → ((v : ℕ) → marked marks v ≡ one_of (before ++ taken) v) → get_or marks n false ≡ false
    → AreDistinct (before ++ taken) → AreDistinct (before ++ (taken ++ (n + 1) ∷ []))
distinct-more marks before taken n same free distinct =
    let parts = list_any-append (λ w. eqb w (suc n)) before taken in
    let at = same (suc n) in
    AreDistinct-sink (record { sources = before; sinks = taken }) (n + 1) distinct (rw add-one
    (sym parts ∙ sym at ∙ free))

-- the list of those taken is one longer
taken-more : (given : List ℕ) (i : ℕ) → i < length given
    → from_one (take (i + 1) given) ≡ from_one (take i given) ++ (get_or given i 0 + 1) ∷ []
taken-more given i within =
    let a : i + 1 ≡ suc i = omega arith in
    let b : get_or given i 0 + 1 ≡ suc (get_or given i 0) = omega arith in
    rw a (rw b (ap from_one (take-suc given i 0 within) ∙ map-append suc (take i given) (get_or given i 0 ∷ [])))

-- a property of one more
All-one : (P : ℕ → Type 0) (xs : List ℕ) (x : ℕ) → All P xs → P x → All P (xs ++ x ∷ [])
All-one P xs x all at = All-append P xs (x ∷ []) all one
  where
    one : All P (x ∷ [])
    one zero d h = at
    one (suc k) d h = absurd (omega arith)

-- one more node of a list is taken
pub AreTaken-more : (n : ℕ) (marks : List Bool) (before given taken : List ℕ) (i : ℕ) → i < length given
    → get_or given i 0 < n → get_or marks (get_or given i 0) false ≡ false
    → ((v : ℕ) → marked marks v ≡ one_of (before ++ taken) v) → AreTaken n before (take i given) taken
    → AreTaken n before (take (i + 1) given) (taken ++ (get_or given i 0 + 1) ∷ [])
AreTaken-more n marks before given taken i within low free same old = record {
  all = ap (λ xs. xs ++ (get_or given i 0 + 1) ∷ []) old.all ∙ sym (taken-more given i within);
  within =
      All-one (λ v. (1 ≤ v) × (v ≤ n)) taken (get_or given i 0 + 1) old.within (omega arith, omega (arith, low));
  distinct = distinct-more marks before taken (get_or given i 0) same free old.distinct;
}

-- none are taken as yet
pub none_taken : (n : ℕ) (before : List ℕ) → AreDistinct before → AreTaken n before [] []
none_taken n before distinct =
    record { all = refl; within = λ k d l. absurd (omega (arith, l)); distinct = rw append-nil distinct }

-- a node that is among those taken already stands at two places
pub twice : (before given : List ℕ) (i : ℕ) → i < length given
    → one_of (before ++ from_one (take i given)) (get_or given i 0 + 1) ≡ true → HasTwice (before ++ from_one given)
twice before given i within e =
    let taken = from_one (take i given) in
    let p = place_in (before ++ taken) (get_or given i 0 + 1) e in
    let count : length (before ++ taken) ≡ length before + i =
    let a = length-append before taken in
    let b = length-map (take i given) (λ v. suc v) in
    let c = length-take-le i given (omega (arith, within)) in omega (arith, a, b, c) in
    let total : length (before ++ from_one given) ≡ length before + length given =
    let a = length-append before (from_one given) in
    let b = length-map given (λ v. suc v) in omega (arith, a, b) in
    let parts : before ++ from_one given ≡ (before ++ taken) ++ from_one (drop i given) =
    ap (λ xs. before ++ from_one xs) (sym (take-append-drop i given))
    ∙ ap (λ xs. before ++ xs) (map-append (λ v. suc v) (take i given) (drop i given))
    ∙ sym (append_assoc before taken (from_one (drop i given))) in
    let first : get_or (before ++ from_one given) p.0 0 ≡ get_or given i 0 + 1 =
    ap (λ xs. get_or xs p.0 0) parts
    ∙ get_or_append_left (before ++ taken) (from_one (drop i given)) 0 p.0 p.1 ∙ p.2 in
    let one : suc (get_or given i 0) ≡ get_or given i 0 + 1 = omega arith in
    let second : get_or (before ++ from_one given) (length before + i) 0 ≡ get_or given i 0 + 1 =
    get_or-append-add before (from_one given) i 0 ∙ get_or-map (λ v. suc v) given i 0 0 within ∙ one in
    let low : p.0 < length before + i = omega (arith, p.1, count) in
    let high : length before + i < length (before ++ from_one given) = omega (arith, within, total) in
    (p.0, length before + i, low, high, first ∙ sym second)
