-- Sharing the flow lines out over the arcs.
use Rattle.std.proofs.Common.{◌≡◌, ℕ, ◌+◌, ◌-◌, ◌≤◌, ◌<◌, ◌⊎◌, true, false, cond, eqb, List, [], length}
use Rattle.std.proofs.Common.{get_or, set, take, drop, replicate, refl, length-drop, eq-eqb, ◌∙◌, sym, ap, subst, inl}
use Rattle.std.proofs.Common.{inr, get_or-set_same, get_or-set_other, arith}
use Rattle.std.specs.List.{All}
use Rattle.std.specs.List.Sorted.{IsNonDecreasingBy, IsPermutation}
use Rattle.std.proofs.lemmas.Bool.{cases_eq, cases_lt, eqb-true, ne_eqb, and_parts, and_left, and_right, and_from}
use Rattle.std.proofs.lemmas.List.{get_or_default, get_or-drop}
use Rattle.std.proofs.lemmas.List.Elements.{All-get_or}
use Rattle.std.proofs.lemmas.List.Sorted.{All-permutation, Contains-permutation}
use Rattle.flow_net.specs.Nets.{Net, arc_at}
use Rattle.flow_net.specs.Limits.{IsNet}
use Rattle.flow_net.specs.Flows.{Fits}
use Rattle.flow_net.proofs.Zips.{AllZip-from, zip_from_fits}
use Rattle.flow_net.proofs.Cuts.{flow_over-le-cap_over}
use Rattle.flow_net.proofs.ZeroFlows.{flow_over_zeros}
use Rattle.flow_text.specs.SolutionReading.{IsLineWithin}
use Rattle.flow_text.specs.declared.solutions.FlowLine.{FlowLine}
use Rattle.flow_tools.specs.checking.SolutionFlows.{pair_flow, pair_cap}
use Rattle.flow_tools.specs.checking.LineFlows.{line_flow}
use Rattle.flow_tools.specs.checking.ArcShares.{is_pair}
use Rattle.flow_tools.specs.checking.FirstFaults.{IsFirstOver}
use Rattle.flow_tools.specs.checking.ArcShares.{IsBefore}
use Rattle.flow_tools.specs.checking.ArcShares.{pair_rank, place_rank, line_rank, place_of, AreArcPlaces}
use Rattle.flow_tools.specs.checking.ArcShares.{AreOrderedArcs}
use Rattle.flow_tools.specs.checking.ArcShares.{arc_flow, Carries, HasMore, IsFull, ArePassed}
use Rattle.flow_tools.specs.declared.checking.sharing.ArcPlace.{ArcPlace}
use Rattle.flow_tools.specs.declared.checking.sharing.TheConstants.{NODE_NUMBERS}
use Rattle.flow_tools.proofs.checking.LineSums.{line_flow_more, line_flow-take-drop, line_flow_none}
use Rattle.flow_tools.proofs.checking.LineSums.{line_flow-IsPermutation}
use Rattle.flow_tools.proofs.checking.ArcSums.{full_over, set_more, more_twice, yes_step, no_step}

-- ---- places in order

-- stands for a place past the last
abbrev pub no_place : ArcPlace
no_place = record { src = 0; dst = 0; arc = 0 }

-- each arc listed in turn
pub places_listed : (net : Net) (places : List ArcPlace) → IsNet net → length places ≡ length net.arcs
    → ((k : ℕ) (d : ArcPlace) → k < length net.arcs → get_or places k d ≡ place_of net k) → AreArcPlaces net places
places_listed net places r n h = record {
  limits = r;
  sound = λ k d l.
      (let e = h k d (omega arith) in
      let at : (get_or places k d).arc ≡ k = ap (λ p. p.arc) e in
      (omega arith, e ∙ sym (ap (place_of net) at)));
  complete = λ i l. (i, omega arith, h i (place_of net i) l);
}

-- in another order
pub places_moved : (net : Net) (xs ys : List ArcPlace) → IsPermutation xs ys → AreArcPlaces net xs → AreArcPlaces net ys
places_moved net xs ys m a = record {
  limits = a.limits;
  sound = All-permutation (λ p. (p.arc < length net.arcs) × (p ≡ place_of net p.arc)) xs ys m a.sound;
  complete = λ i l. Contains-permutation xs ys (place_of net i) m (a.complete i l);
}

-- ---- places passed

module _ (net : Net) (xs : List ℕ) (i d : ℕ) (n : length xs ≡ length net.arcs) (l : i < length net.arcs)
    (f : Fits net (set xs i (get_or xs i 0 + d))) where
  -- an arc that is full stays full
  full_kept : (j : ℕ) → IsFull net xs j → IsFull net (set xs i (get_or xs i 0 + d)) j
  full_kept j e = elim (cases_eq j i) [
    | inl at ↦
        let same : get_or (set xs i (get_or xs i 0 + d)) i 0 ≡ get_or xs i 0 + d =
        get_or-set_same xs i (get_or xs i 0 + d) 0 (omega arith) in
        let low : get_or (set xs i (get_or xs i 0 + d)) i 0 ≤ (arc_at net i).cap = f.within i l in
        let P : ℕ → Type 0 = λ k. get_or (set xs i (get_or xs i 0 + d)) k 0 ≡ (arc_at net k).cap in
        let Q : ℕ → Type 0 = λ k. get_or xs k 0 ≡ (arc_at net k).cap in
        let there : get_or xs i 0 ≡ (arc_at net i).cap = subst Q at e in
        subst P (sym at) (omega arith)
    | inr other ↦ get_or-set_other xs i j (get_or xs i 0 + d) 0 other ∙ e
  ]

  -- more flow leaves them passed
  pub passed_kept : (places : List ArcPlace) (at rank : ℕ) → ArePassed net places at rank xs
      → ArePassed net places at rank (set xs i (get_or xs i 0 + d))
  passed_kept places at rank h k e b = elim (h k e b) [
    | inl less ↦ inl less
    | inr full ↦ inr (full_kept (get_or places k e).arc full)
  ]

-- one place more
pub passed_more : (net : Net) (places : List ArcPlace) (at rank : ℕ) (xs : List ℕ) → ArePassed net places at rank xs
    → ((d : ArcPlace) → (place_rank (get_or places at d) < rank) ⊎ IsFull net xs (get_or places at d).arc)
    → ArePassed net places (at + 1) rank xs
passed_more net places at rank xs h here k d b = elim (cases_eq k at) [
  | inl e ↦
      (let P : ℕ → Type 0 = λ j. (place_rank (get_or places j d) < rank) ⊎ IsFull net xs (get_or places j d).arc in
      subst P (sym e) (here d))
  | inr n ↦ h k d (omega arith)
]

-- for a greater rank
pub passed_further : (net : Net) (places : List ArcPlace) (at r s : ℕ) (xs : List ℕ) → r ≤ s
    → ArePassed net places at r xs → ArePassed net places at s xs
passed_further net places at r s xs le h k d b = elim (h k d b) [
  | inl less ↦ inl (omega arith)
  | inr full ↦ inr full
]

-- ---- a pair without room

-- the test of a pair tells its two nodes
pair_at : (u v src dst : ℕ) → is_pair u v src dst ≡ true → (u ≡ src) × (v ≡ dst)
pair_at u v src dst e = let p = and_parts (eqb u src) (eqb v dst) e in (eqb-true u src p.0, eqb-true v dst p.1)

-- where the places of a pair are passed, its arcs are full
pub pair_full : (net : Net) (places : List ArcPlace) (at src dst : ℕ) (xs : List ℕ) → AreOrderedArcs net places
    → Fits net xs → ArePassed net places at (pair_rank src dst) xs
    → (at < length places → pair_rank src dst < place_rank (get_or places at no_place))
    → arc_flow net (is_pair src dst) xs ≡ pair_cap net src dst
pair_full net places at src dst xs o f h past =
    full_over (λ a. is_pair src dst a.src a.dst) net.arcs xs
    (AllZip-from (λ a x. is_pair src dst a.src a.dst ≡ true → x ≡ a.cap) net.arcs xs f.count each)
  where
    each : (i : ℕ) → i < length net.arcs → is_pair src dst (arc_at net i).src (arc_at net i).dst ≡ true
        → get_or xs i 0 ≡ (arc_at net i).cap
    each i l e =
        let ends = pair_at src dst (arc_at net i).src (arc_at net i).dst e in
        let c = o.listed.complete i l in
        let place : ArcPlace = place_of net i in
        let found : get_or places c.0 place ≡ place = c.2 in
        let same : get_or places c.0 no_place ≡ get_or places c.0 place =
        get_or_default places c.0 no_place place c.1 in
        let rank : place_rank (get_or places c.0 place) ≡ pair_rank src dst =
        ap place_rank found ∙ sym (ap (λ u. pair_rank u dst) ends.0 ∙ ap (pair_rank (arc_at net i).src) ends.1) in
        elim (cases_lt c.0 at) [
          | inl before ↦ (elim (h c.0 place before) [
            | inl less ↦ absurd (omega arith)
            | inr full ↦ subst (λ (p : ArcPlace). get_or xs p.arc 0 ≡ (arc_at net p.arc).cap) found full
          ])
          | inr after ↦
              (let up = o.ordered at c.0 no_place after c.1 in
              let high = past (omega (arith, c.1)) in
              let equal = ap place_rank same in
              absurd (omega arith))
        ]

-- ---- one arc after another

-- a pair is told by its rank
same_pair : (u v src dst : ℕ) → v < NODE_NUMBERS → dst < NODE_NUMBERS → pair_rank u v ≡ pair_rank src dst
    → (u ≡ src) × (v ≡ dst)
same_pair u v src dst l k e = let first : u ≡ src = omega arith in (first, omega arith)

-- What holds while the flow of a line is put on the arcs of its pair: what is left of it, and the flow then.
pub record IsPouring (net : Net) (places : List ArcPlace) (before : List ℕ) (line : FlowLine) (at left : ℕ)
    (xs : List ℕ) : Type 0 where
  pub fits : Fits net xs
  pub at_most : left ≤ line.flow
  pub more : HasMore net before line.src line.dst (line.flow - left) xs
  pub passed : ArePassed net places at (line_rank line) xs

-- the place is of the line's pair
pub record IsOfPair (places : List ArcPlace) (line : FlowLine) (at : ℕ) : Type 0 where
  pub within : at < length places
  pub line_below : line.dst < NODE_NUMBERS
  pub place_below : (get_or places at no_place).dst < NODE_NUMBERS
  pub same : place_rank (get_or places at no_place) ≡ line_rank line

-- an arc takes all of an amount but the rest, and the flow was xs and is ys
pub record TakesUp (net : Net) (arc left rest : ℕ) (xs ys : List ℕ) : Type 0 where
  pub at_most : rest ≤ left
  pub put : ys ≡ set xs arc (get_or xs arc 0 + (left - rest))
  pub fits : Fits net ys

module _ (net : Net) (places : List ArcPlace) (before : List ℕ) (line : FlowLine) (at : ℕ) where
  -- a place of a lesser pair
  pub poured_past : (left : ℕ) (xs : List ℕ) → at < length places
      → place_rank (get_or places at no_place) < line_rank line → IsPouring net places before line at left xs
      → IsPouring net places before line (at + 1) left xs
  poured_past left xs l less h = record {
    fits = h.fits;
    at_most = h.at_most;
    more = h.more;
    passed =
        passed_more net places at (line_rank line) xs h.passed
        (λ d. inl (let same = ap place_rank (get_or_default places at d no_place l) in omega arith));
  }

  -- a place of the pair
  pub poured_here : (left rest : ℕ) (xs ys : List ℕ) → AreOrderedArcs net places → IsOfPair places line at
      → TakesUp net (get_or places at no_place).arc left rest xs ys → IsPouring net places before line at left xs
      → IsPouring net places before line at rest ys
  poured_here left rest xs ys o own t h =
      let src = line.src in
      let dst = line.dst in
      let place = get_or places at no_place in
      let ends = same_pair place.src place.dst src dst own.place_below own.line_below own.same in
      let known = All-get_or (λ p. (p.arc < length net.arcs) × (p ≡ place_of net p.arc)) places at no_place own.within
      o.listed.sound in
      let arc = place.arc in
      let first : (arc_at net arc).src ≡ src = sym (ap (λ p. p.src) known.1) ∙ ends.0 in
      let second : (arc_at net arc).dst ≡ dst = sym (ap (λ p. p.dst) known.1) ∙ ends.1 in
      let put = set_more net xs arc (left - rest) src dst h.fits.count known.0 first second in
      let after : HasMore net xs src dst (left - rest) ys =
      subst (λ zs. HasMore net xs src dst (left - rest) zs) (sym t.put) put in
      let both = more_twice net before xs ys src dst (line.flow - left) (left - rest) h.more after in
      let all : (line.flow - left) + (left - rest) ≡ line.flow - rest = omega (arith, h.at_most, t.at_most) in
      record {
        fits = t.fits;
        at_most = omega (arith, h.at_most, t.at_most);
        more = subst (λ n. HasMore net before src dst n ys) all both;
        passed =
            subst (λ zs. ArePassed net places at (line_rank line) zs) (sym t.put)
            (passed_kept net xs arc (left - rest) h.fits.count known.0 (subst (Fits net) t.put t.fits) places at
            (line_rank line) h.passed);
      }

  -- which is full then
  pub poured_full : (left : ℕ) (xs : List ℕ) → at < length places → IsFull net xs (get_or places at no_place).arc
      → IsPouring net places before line at left xs → IsPouring net places before line (at + 1) left xs
  poured_full left xs l full h = record {
    fits = h.fits;
    at_most = h.at_most;
    more = h.more;
    passed =
        passed_more net places at (line_rank line) xs h.passed
        (λ d. inr (subst (λ (p : ArcPlace). IsFull net xs p.arc) (get_or_default places at no_place d l) full));
  }

-- ---- all lines

-- stands for a line past the last
abbrev pub no_line : FlowLine
no_line = record { src = 0; dst = 0; flow = 0 }

-- a pair that comes before another has a lesser rank, and differs from it
before_rank : (u v src dst : ℕ) → v < NODE_NUMBERS → IsBefore u v src dst → pair_rank u v < pair_rank src dst
before_rank u v src dst l b = elim b [
  | inl less ↦ omega arith
  | inr same ↦ omega (arith, same.0, same.1)
]

other_pair : (u v src dst : ℕ) → pair_rank u v < pair_rank src dst → is_pair u v src dst ≡ false
other_pair u v src dst l = elim (cases_eq u src) [
  | inl e ↦ and_right (eqb u src) (eqb v dst) (ne_eqb v dst (λ f. omega (arith, e, f)))
  | inr n ↦ and_left (eqb u src) (eqb v dst) (ne_eqb u src n)
]

-- a pair is itself
own_pair : (u v : ℕ) → is_pair u v u v ≡ true
own_pair u v = and_from (eqb u u) (eqb v v) (eq-eqb u u refl) (eq-eqb v v refl)

-- the further lines are of no lesser pair
none_further : (lines : List FlowLine) (i u v : ℕ) → IsNonDecreasingBy line_rank lines
    → pair_rank u v < line_rank (get_or lines i no_line) → line_flow (is_pair u v) (drop i lines) ≡ 0
none_further lines i u v o l = line_flow_none (is_pair u v) (drop i lines) (λ k d b.
    let inside : i + k < length lines = omega (arith, length-drop i lines) in
    let up = o i (i + k) d (omega arith) inside in
    let here : line_rank (get_or lines i d) ≡ line_rank (get_or lines i no_line) =
    ap line_rank (get_or_default lines i d no_line (omega arith)) in
    let there : get_or (drop i lines) k d ≡ get_or lines (i + k) d = get_or-drop i lines k d in
    subst (λ (x : FlowLine). is_pair u v x.src x.dst ≡ false) (sym there)
    (other_pair u v (get_or lines (i + k) d).src (get_or lines (i + k) d).dst (omega arith)))

-- no line leads past the last node
none_past : (nodes : ℕ) (lines : List FlowLine) (u v : ℕ) → nodes < v → All (IsLineWithin nodes) lines
    → line_flow (is_pair u v) lines ≡ 0
none_past nodes lines u v l h =
    line_flow_none (is_pair u v) lines (λ k d b.
    let w = (h k d b).dst_most in
    and_right (eqb u (get_or lines k d).src) (eqb v (get_or lines k d).dst)
    (ne_eqb v (get_or lines k d).dst (λ e. omega arith)))

-- A line at which some flow is left though the arcs of its pair are full: the flow was xs, and is ys with the line.
pub record IsLeftOver (net : Net) (lines : List FlowLine) (i left : ℕ) (xs ys : List ℕ) (line : FlowLine)
    : Type 0 where
  pub within : i < length lines
  pub carries : Carries net (take i lines) xs
  pub more : HasMore net xs line.src line.dst (line.flow - left) ys
  pub some : 0 < left
  pub at_most : left ≤ line.flow
  pub full : arc_flow net (is_pair line.src line.dst) ys ≡ pair_cap net line.src line.dst
  pub fits : Fits net ys

-- the first line that finds no room is of the least pair whose flow passes its capacity
pub first_over : (net : Net) (lines : List FlowLine) (i left : ℕ) (xs ys : List ℕ) → IsNet net
    → All (IsLineWithin net.nodes) lines → IsNonDecreasingBy line_rank lines
    → IsLeftOver net lines i left xs ys (get_or lines i no_line)
    → IsFirstOver net lines (get_or lines i no_line).src (get_or lines i no_line).dst
first_over net lines i left xs ys n w o h = record { over = over; least = least }
  where
    s : ℕ
    s = (get_or lines i no_line).src

    t : ℕ
    t = (get_or lines i no_line).dst

    x : ℕ
    x = (get_or lines i no_line).flow

    over : pair_cap net s t < pair_flow lines s t
    over =
        let own : arc_flow net (is_pair s t) ys ≡ arc_flow net (is_pair s t) xs + (x - left) =
        yes_step (is_pair s t s t) (x - left) _ _ (own_pair s t) (h.more (is_pair s t)) in
        let next : line_flow (is_pair s t) (take (i + 1) lines) ≡ line_flow (is_pair s t) (take i lines) + x =
        yes_step (is_pair s t s t) x _ _ (own_pair s t) (line_flow_more (is_pair s t) lines i no_line h.within) in
        omega (
          arith,
          own,
          next,
          h.carries (is_pair s t),
          line_flow-take-drop (is_pair s t) lines (i + 1),
          h.full,
          h.some,
          h.at_most,
        )

    least : (u v : ℕ) → IsBefore u v s t → pair_flow lines u v ≤ pair_cap net u v
    least u v b = elim (cases_lt v NODE_NUMBERS) [
      | inl low ↦
          let rank : pair_rank u v < pair_rank s t = before_rank u v s t low b in
          let own : arc_flow net (is_pair u v) ys ≡ arc_flow net (is_pair u v) xs =
          no_step (is_pair u v s t) (x - left) _ _ (other_pair u v s t rank) (h.more (is_pair u v)) in
          omega (
            arith,
            own,
            h.carries (is_pair u v),
            none_further lines i u v o rank,
            line_flow-take-drop (is_pair u v) lines i,
            flow_over-le-cap_over (λ a. is_pair u v a.src a.dst) net.arcs ys (zip_from_fits net ys h.fits),
          )
      | inr high ↦ omega (arith, none_past net.nodes lines u v (omega (arith, n.nodes_most)) w)
    ]

-- what the flow carries with one line more
pub carries_more : (net : Net) (lines : List FlowLine) (i : ℕ) (xs ys : List ℕ) → i < length lines
    → Carries net (take i lines) xs
    → HasMore net xs (get_or lines i no_line).src (get_or lines i no_line).dst (get_or lines i no_line).flow ys
    → Carries net (take (i + 1) lines) ys
carries_more net lines i xs ys l c m p =
    m p
    ∙ ap (λ k. k + cond (p (get_or lines i no_line).src (get_or lines i no_line).dst) (get_or lines i no_line).flow 0)
    (c p) ∙ sym (line_flow_more p lines i no_line l)

-- a table of zeros carries no lines
pub carries_none : (net : Net) → Carries net [] (replicate (length net.arcs) 0)
carries_none net p = flow_over_zeros (λ a. p a.src a.dst) net.arcs

-- the order of the lines doesn't matter
pub carries_moved : (net : Net) (lines ordered : List FlowLine) (xs : List ℕ) → IsPermutation lines ordered
    → Carries net ordered xs → Carries net lines xs
carries_moved net lines ordered xs m c p = c p ∙ line_flow-IsPermutation p lines ordered m

-- nor does it to the least pair that is over
pub first_over_moved : (net : Net) (lines ordered : List FlowLine) (src dst : ℕ) → IsPermutation lines ordered
    → IsFirstOver net ordered src dst → IsFirstOver net lines src dst
first_over_moved net lines ordered src dst m h = record {
  over = omega (arith, h.over, line_flow-IsPermutation (is_pair src dst) lines ordered m);
  least = λ u v b. omega (arith, h.least u v b, line_flow-IsPermutation (is_pair u v) lines ordered m);
}
