-- A network and its arrangements: sums over the arcs, and sets of nodes, carried over.
use Rattle.std.proofs.Common.{◌≡◌, ◌≢◌, ℕ, zero, suc, ◌+◌, ◌-◌, ◌<◌, Bool, true, false, cond, eqb, List, [], ◌∷◌}
use Rattle.std.proofs.Common.{length, map, get_or, refl, ◌∙◌, sym, ap, subst, inl, inr, eq-eqb, arith}
use Rattle.std.specs.Prelude.{IsPermutation}
use Rattle.std.specs.List.{All, AllByRecursion, sum_by, range_with_len, swap}
use Rattle.std.proofs.lemmas.Bool.{cases_eq, cases_Bool, ne_eqb, eqb-true, or_cases, or_left, or_right}
use Rattle.std.proofs.lemmas.List.{length-map, get_or-map, ext_get_or}
use Rattle.std.proofs.lemmas.List.Edits.{length-swap, swapped_from_swap}
use Rattle.std.proofs.lemmas.List.Elements.{All-get_or}
use Rattle.std.proofs.lemmas.List.FromFn.{length-range_with_len, get_or-range_with_len, fill_by_all}
use Rattle.std.proofs.lemmas.List.Sorted.{sum_by-IsPermutation, length_permutation, IsPermutation-keeps}
use Rattle.std.proofs.lemmas.List.Sums.{sum_by-cons}
use Rattle.flow_net.specs.declared.networks.Arc.{Arc}
use Rattle.flow_net.specs.Nets.{Net, IsNode, arc_at}
use Rattle.flow_net.specs.Arcs.{no_arc}
use Rattle.flow_net.specs.NodeSets.{one_of, just}
use Rattle.flow_net.specs.Flows.{flow_over}
use Rattle.flow_net.specs.Cuts.{cap_over}
use Rattle.flow_net.specs.Arrangements.{named, renamed, IsNaming, IsArranged, carried, all_named}
use Rattle.flow_net.proofs.NodeLists.{one_of-at, place_in}

-- ---- sums over the arcs

-- arcs and flows in the order of a list of places
flow_over_places : (p : Arc → Bool) (f : ℕ → Arc) (g : ℕ → ℕ) (is : List ℕ)
    → flow_over p (map f is) (map g is) ≡ sum_by (λ i. cond (p (f i)) (g i) 0) is
flow_over_places p f g [] = refl
flow_over_places p f g (i ∷ is) =
    ap (λ k. cond (p (f i)) (g i) 0 + k) (flow_over_places p f g is)
    ∙ sym (sum_by-cons (λ j. cond (p (f j)) (g j) 0) i is)

cap_over_places : (p : Arc → Bool) (f : ℕ → Arc) (is : List ℕ)
    → cap_over p (map f is) ≡ sum_by (λ i. cond (p (f i)) (f i).cap 0) is
cap_over_places p f [] = refl
cap_over_places p f (i ∷ is) =
    ap (λ k. cond (p (f i)) (f i).cap 0 + k) (cap_over_places p f is)
    ∙ sym (sum_by-cons (λ j. cond (p (f j)) (f j).cap 0) i is)

-- each place in turn gives the list again
pub arcs_in_turn : (arcs : List Arc) → map (λ i. get_or arcs i no_arc) (range_with_len 0 (length arcs)) ≡ arcs
arcs_in_turn arcs = sym (fill_by_all (λ i. get_or arcs i no_arc) arcs (length arcs) no_arc refl (λ k l. refl))

pub flows_in_turn : (xs : List ℕ) (n : ℕ) → length xs ≡ n → map (λ i. get_or xs i 0) (range_with_len 0 n) ≡ xs
flows_in_turn xs n e = sym (fill_by_all (λ i. get_or xs i 0) xs n 0 e (λ k l. refl))

module _ (net other : Net) (names places : List ℕ) (a : IsArranged net other names places) where
  -- a flow over the arcs that pass a test
  pub flow_over_carried : (p : Arc → Bool) (xs : List ℕ) → length xs ≡ length net.arcs
      → flow_over p other.arcs (carried places xs) ≡ flow_over (λ b. p (renamed names b)) net.arcs xs
  flow_over_carried p xs l =
      let q : Arc → Bool = λ b. p (renamed names b) in
      let part : ℕ → ℕ = λ i. cond (q (arc_at net i)) (get_or xs i 0) 0 in
      let all = range_with_len 0 (length net.arcs) in
      let there : flow_over p other.arcs (carried places xs) ≡ sum_by part places =
      ap (λ arcs. flow_over p arcs (carried places xs)) a.arcs
      ∙ flow_over_places p (λ i. renamed names (arc_at net i)) (λ i. get_or xs i 0) places in
      let here : flow_over q net.arcs xs ≡ sum_by part all =
      ap (λ arcs. flow_over q arcs xs) (sym (arcs_in_turn net.arcs))
      ∙ ap (λ ys. flow_over q (map (λ i. get_or net.arcs i no_arc) all) ys)
      (sym (flows_in_turn xs (length net.arcs) l))
      ∙ flow_over_places q (λ i. arc_at net i) (λ i. get_or xs i 0) all in
      there ∙ sum_by-IsPermutation part all places a.once ∙ sym here

  pub cap_over_arranged : (p : Arc → Bool) → cap_over p other.arcs ≡ cap_over (λ b. p (renamed names b)) net.arcs
  cap_over_arranged p =
      let q : Arc → Bool = λ b. p (renamed names b) in
      let part : ℕ → ℕ = λ i. cond (q (arc_at net i)) (arc_at net i).cap 0 in
      let all = range_with_len 0 (length net.arcs) in
      let there : cap_over p other.arcs ≡ sum_by part places =
      ap (cap_over p) a.arcs ∙ cap_over_places p (λ i. renamed names (arc_at net i)) places in
      let here : cap_over q net.arcs ≡ sum_by part all =
      ap (cap_over q) (sym (arcs_in_turn net.arcs)) ∙ cap_over_places q (λ i. arc_at net i) all in
      there ∙ sum_by-IsPermutation part all places a.once ∙ sym here

-- two tests that agree on the arcs
pub flow_over_agree : (p q : Arc → Bool) (arcs : List Arc) (xs : List ℕ) → AllByRecursion (λ b. p b ≡ q b) arcs
    → flow_over p arcs xs ≡ flow_over q arcs xs
flow_over_agree p q [] xs h = refl
flow_over_agree p q (b ∷ arcs) [] h = refl
flow_over_agree p q (b ∷ arcs) (x ∷ xs) h = let rest = flow_over_agree p q arcs xs h.1 in rw (h.0, rest) refl

pub cap_over_agree : (p q : Arc → Bool) (arcs : List Arc) → AllByRecursion (λ b. p b ≡ q b) arcs
    → cap_over p arcs ≡ cap_over q arcs
cap_over_agree p q [] h = refl
cap_over_agree p q (b ∷ arcs) h = let rest = cap_over_agree p q arcs h.1 in rw (h.0, rest) refl

-- ---- names

-- where a number stands first
abbrev place_of : List ℕ → ℕ → ℕ
place_of [] w = 0
place_of (x ∷ xs) w = cond (eqb x w) 0 (suc (place_of xs w))

place_of_at : (xs : List ℕ) (i : ℕ) → i < length xs
    → ((j : ℕ) → j < i → get_or xs j 0 ≢ get_or xs i 0) → place_of xs (get_or xs i 0) ≡ i
place_of_at [] i l d = absurd (omega arith)
place_of_at (x ∷ xs) zero l d = rw (eq-eqb x x refl) refl
place_of_at (x ∷ xs) (suc i) l d =
    let other : eqb x (get_or xs i 0) ≡ false = ne_eqb x (get_or xs i 0) (d 0 (omega arith)) in
    let rest : place_of xs (get_or xs i 0) ≡ i =
    place_of_at xs i (omega arith) (λ j k. d (suc j) (omega arith)) in
    rw (other, rest) refl

-- the node that has a name
abbrev pub unnamed : List ℕ → ℕ → ℕ
unnamed names w = suc (place_of names w)

module _ (net : Net) (names : List ℕ) (n : IsNaming net names) where
  pub name_is_node : (v : ℕ) → IsNode net v → IsNode net (named names v)
  name_is_node v h = let count = n.count in n.order.within (v - 1) (omega (arith, h.0, h.1))

  pub unnamed_named : (v : ℕ) → IsNode net v → unnamed names (named names v) ≡ v
  unnamed_named v h =
      let count = n.count in
      let l : v - 1 < length names = omega (arith, h.0, h.1) in
      let at = place_of_at names (v - 1) l (λ j k. n.order.distinct j (v - 1) k l) in
      omega (arith, at, h.0)

  -- each node is a name
  pub node_of : (w : ℕ) → IsNode net w → (v : ℕ) × IsNode net v × (named names v ≡ w)
  node_of w h =
      let count = n.count in
      let at = n.order.stands w h in
      (suc at.0, (omega arith, omega (arith, at.1)), ap (λ i. get_or names i 0) (omega arith) ∙ at.2)

  pub one_name : (v w : ℕ) → IsNode net v → IsNode net w → named names v ≡ named names w → v ≡ w
  one_name v w h k e = sym (unnamed_named v h) ∙ ap (unnamed names) e ∙ unnamed_named w k

  -- one node, under its new name
  pub just_named : (v w : ℕ) → IsNode net v → IsNode net w → just (named names v) (named names w) ≡ just v w
  just_named v w h k = elim (cases_eq w v) [
    | inl e ↦ ap (λ u. eqb (named names u) (named names v)) e ∙ eq-eqb _ _ refl ∙ sym (eq-eqb w v e)
    | inr d ↦ ne_eqb (named names w) (named names v) (λ e. d (one_name w v k h e)) ∙ sym (ne_eqb w v d)
  ]

-- a set of nodes, under their new names
pub node_in : (names vs : List ℕ) (w : ℕ) → one_of (all_named names vs) w ≡ true
    → (v : ℕ) × (one_of vs v ≡ true) × (named names v ≡ w)
node_in names vs w e =
    let at = place_in (all_named names vs) w e in
    let l : at.0 < length vs = omega (arith, at.1, length-map vs (named names)) in
    (get_or vs at.0 0, one_of-at vs at.0 l, sym (get_or-map (named names) vs at.0 0 0 l) ∙ at.2)

pub is_among : (names vs : List ℕ) (v : ℕ) → one_of vs v ≡ true → one_of (all_named names vs) (named names v) ≡ true
is_among names [] v e = cc
is_among names (x ∷ vs) v e = elim (or_cases (eqb x v) (one_of vs v) e) [
  | inl h ↦
      or_left (eqb (named names x) (named names v)) (one_of (all_named names vs) (named names v))
      (eq-eqb _ _ (ap (named names) (eqb-true x v h)))
  | inr h ↦
      or_right (eqb (named names x) (named names v)) (one_of (all_named names vs) (named names v))
      (is_among names vs v h)
]

pub node_among : (net : Net) (vs : List ℕ) (v : ℕ) → All (IsNode net) vs → one_of vs v ≡ true → IsNode net v
node_among net vs v h e =
    let at = place_in vs v e in
    let P : ℕ → Type 0 = λ u. IsNode net u in
    subst P at.2 (All-get_or (IsNode net) vs at.0 0 at.1 h)

pub among_named : (net : Net) (names vs : List ℕ) (v : ℕ) → IsNaming net names → All (IsNode net) vs → IsNode net v
    → one_of (all_named names vs) (named names v) ≡ one_of vs v
among_named net names vs v n h k = elim (cases_Bool (one_of vs v)) [
  | inl e ↦ is_among names vs v e ∙ sym e
  | inr o ↦ elim (cases_Bool (one_of (all_named names vs) (named names v))) [
    | inr f ↦ f ∙ sym o
    | inl f ↦
        let u = node_in names vs (named names v) f in
        let same : u.0 ≡ v = one_name net names n u.0 v (node_among net vs u.0 h u.1) k u.2 in
        absurd (let yes : one_of vs v ≡ true = subst (λ (x : ℕ). one_of vs x ≡ true) same u.1 in cc)
  ]
]

-- ---- flows of the other network

-- numbers told in another order: each place of the list has its number
abbrev AreTold : ℕ → List ℕ → List ℕ → Type 0
AreTold n places ys =
    (xs : List ℕ) × (length xs ≡ n) × ((j : ℕ) → j < length places → get_or ys j 0 ≡ get_or xs (get_or places j 0) 0)

told_after_swap : (n : ℕ) (l : List ℕ) (i j : ℕ) → i < length l → j < length l
    → ((ys : List ℕ) → length ys ≡ length l → AreTold n l ys) → (ys : List ℕ) → length ys ≡ length (swap l i j)
    → AreTold n (swap l i j) ys
told_after_swap n l i j p q h ys e =
    let size = length-swap l i j in
    let sized : length ys ≡ length l = omega arith in
    let old = h (swap ys i j) (length-swap ys i j ∙ sized) in
    let moved = swapped_from_swap l (swap l i j) i j 0 p q refl in
    let back = swapped_from_swap ys (swap ys i j) i j 0 (omega arith) (omega arith) refl in
    let xs = old.0 in
    let at : (a b : ℕ) → b < length l → get_or (swap ys i j) b 0 ≡ get_or ys a 0
    → get_or (swap l i j) a 0 ≡ get_or l b 0 → get_or ys a 0 ≡ get_or xs (get_or (swap l i j) a 0) 0 =
    λ a b c f g. sym f ∙ old.2 b c ∙ ap (λ k. get_or xs k 0) (sym g) in (
      xs,
      old.1,
      λ k c.
          let d : k < length l = omega arith in
          let Is : ℕ → Type 0 = λ m. get_or ys m 0 ≡ get_or xs (get_or (swap l i j) m 0) 0 in
          elim (cases_eq k i) [
            | inl f ↦ subst Is (sym f) (at i j q back.1 moved.0)
            | inr f ↦ elim (cases_eq k j) [
              | inl g ↦ subst Is (sym g) (at j i p back.0 moved.1)
              | inr g ↦ at k k d (back.2 k f g) (moved.2 k f g)
            ]
          ],
    )

-- each list of as many numbers is carried over from one
pub carried_from : (n : ℕ) (places ys : List ℕ) → IsPermutation (range_with_len 0 n) places → length ys ≡ n
    → (xs : List ℕ) × (length xs ≡ n) × (ys ≡ carried places xs)
carried_from n places ys h l =
    let size = length_permutation (range_with_len 0 n) places h ∙ length-range_with_len 0 n in
    let found = all places h ys (l ∙ sym size) in
    let xs = found.0 in (
      xs,
      found.1,
      ext_get_or 0 ys (carried places xs) (l ∙ sym size ∙ sym (length-map places (λ i. get_or xs i 0)))
          (λ j c.
          let d : j < length places = omega arith in
          found.2 j d ∙ sym (get_or-map (λ i. get_or xs i 0) places j 0 0 d)),
    )
  where
    P : List ℕ → Type 0
    P = λ ps. (zs : List ℕ) → length zs ≡ length ps → AreTold n ps zs

    first : P (range_with_len 0 n)
    first zs e =
        let size = length-range_with_len 0 n in (
          zs,
          e ∙ size,
          λ j c.
              let d : j < n = omega arith in
              ap (λ i. get_or zs i 0) (omega (arith, get_or-range_with_len 0 n j 0 d)),
        )

    all : (ps : List ℕ) → IsPermutation (range_with_len 0 n) ps → P ps
    all ps = IsPermutation-keeps (range_with_len 0 n) P first (told_after_swap n) ps
