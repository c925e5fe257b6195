-- Sums over arcs.
use Rattle.std.proofs.Common.{◌≡◌, ℕ, zero, suc, ◌+◌, ◌*◌, ◌≤◌, ◌<◌, Bool, true, false, cond, eqb, List}
use Rattle.std.proofs.Common.{[], ◌∷◌, length, get_or, set, take, refl, ◌∙◌, sym, ap, inl, inr, eq-eqb, add-one, arith}
use Rattle.std.proofs.lemmas.Bool.{cases_eq, ne_eqb, and_left, and_right, and_from}
use Rattle.std.specs.List.{AllByRecursion, AllZip}
use Rattle.std.proofs.lemmas.List.Elements.{recursion_from_All}
use Rattle.flow_net.specs.declared.limits.TheConstants.{GREATEST_CAPACITY}
use Rattle.flow_net.specs.declared.networks.Arc.{Arc}
use Rattle.flow_net.specs.Nets.{Net, arc_at}
use Rattle.flow_net.specs.Arcs.{no_arc}
use Rattle.flow_net.specs.Limits.{IsNet, IsArcWithin}
use Rattle.flow_net.specs.Flows.{flow_over}
use Rattle.flow_net.specs.Cuts.{cap_over}
use Rattle.flow_net.proofs.Pushes.{flow_over-set}
use Rattle.flow_tools.specs.checking.ArcShares.{is_pair}
use Rattle.flow_tools.specs.checking.ArcShares.{arc_flow, HasMore}

-- one arc more, with the place as a successor
cap_over_next : (p : Arc → Bool) (arcs : List Arc) (i : ℕ) → i < length arcs
    → cap_over p (take (suc i) arcs)
    ≡ cap_over p (take i arcs) + cond (p (get_or arcs i no_arc)) (get_or arcs i no_arc).cap 0
cap_over_next p [] i l = absurd (omega arith)
cap_over_next p (a ∷ arcs) zero l = omega arith
cap_over_next p (a ∷ arcs) (suc i) l = omega (arith, cap_over_next p arcs i (omega arith))

-- one arc more
pub cap_over_more : (p : Arc → Bool) (arcs : List Arc) (i : ℕ) → i < length arcs
    → cap_over p (take (i + 1) arcs)
    ≡ cap_over p (take i arcs) + cond (p (get_or arcs i no_arc)) (get_or arcs i no_arc).cap 0
cap_over_more p arcs i l = rw add-one (cap_over_next p arcs i l)

-- a capacity more is at most one greatest capacity more
most_step : (b : Bool) (c m k : ℕ) → c ≤ GREATEST_CAPACITY → m ≤ k * GREATEST_CAPACITY
    → cond b c 0 + m ≤ suc k * GREATEST_CAPACITY
most_step true c m k f h = omega arith
most_step false c m k f h = omega arith

-- the same of arcs within n nodes
most_of : (n : ℕ) (p : Arc → Bool) (arcs : List Arc) → AllByRecursion (IsArcWithin n) arcs
    → cap_over p arcs ≤ length arcs * GREATEST_CAPACITY
most_of n p [] h = omega arith
most_of n p (a ∷ arcs) h = most_step (p a) a.cap (cap_over p arcs) (length arcs) h.0.cap_fits (most_of n p arcs h.1)

-- a sum of 64 bit capacities
pub cap_over-most : (p : Arc → Bool) (net : Net) → IsNet net → cap_over p net.arcs ≤ length net.arcs * GREATEST_CAPACITY
cap_over-most p net n = most_of net.nodes p net.arcs (recursion_from_All (IsArcWithin net.nodes) net.arcs n.arcs_within)

-- the sum over the first arcs is at most the whole
pub cap_over-take-le : (p : Arc → Bool) (arcs : List Arc) (i : ℕ) → cap_over p (take i arcs) ≤ cap_over p arcs
cap_over-take-le p [] zero = omega arith
cap_over-take-le p [] (suc i) = omega arith
cap_over-take-le p (a ∷ arcs) zero = omega arith
cap_over-take-le p (a ∷ arcs) (suc i) = omega (arith, cap_over-take-le p arcs i)

-- what a sum gains where one of its parts is raised by d
set_step : (b : Bool) (x d m k : ℕ) → m + cond b x 0 ≡ k + cond b (x + d) 0 → m ≡ k + cond b d 0
set_step true x d m k h = omega arith
set_step false x d m k h = omega arith

-- more on an arc is more between its two nodes
pub set_more : (net : Net) (xs : List ℕ) (i d src dst : ℕ) → length xs ≡ length net.arcs → i < length net.arcs
    → (arc_at net i).src ≡ src → (arc_at net i).dst ≡ dst → HasMore net xs src dst d (set xs i (get_or xs i 0 + d))
set_more net xs i d src dst l k e f p =
    let s = flow_over-set (λ a. p a.src a.dst) net.arcs xs i (get_or xs i 0 + d) l k in
    let same : p (arc_at net i).src (arc_at net i).dst ≡ p src dst =
    ap (λ u. p u (arc_at net i).dst) e ∙ ap (p src) f in
    set_step (p (arc_at net i).src (arc_at net i).dst) (get_or xs i 0) d _ _ s
    ∙ ap (λ b. arc_flow net p xs + cond b d 0) same

-- a gain of x and then one of y is a gain of x + y
twice_step : (b : Bool) (x y m k j : ℕ) → k ≡ j + cond b x 0 → m ≡ k + cond b y 0 → m ≡ j + cond b (x + y) 0
twice_step true x y m k j h e = omega arith
twice_step false x y m k j h e = omega arith

-- more, and then more again
pub more_twice : (net : Net) (xs ys zs : List ℕ) (src dst c d : ℕ) → HasMore net xs src dst c ys
    → HasMore net ys src dst d zs → HasMore net xs src dst (c + d) zs
more_twice net xs ys zs src dst c d h k p =
    twice_step (p src dst) c d (arc_flow net p zs) (arc_flow net p ys) (arc_flow net p xs) (h p) (k p)

-- one arc more, which is full where it passes the test
full_step : (b : Bool) (x c m k : ℕ) → (b ≡ true → x ≡ c) → m ≡ k → cond b x 0 + m ≡ cond b c 0 + k
full_step true x c m k h e = let f = h refl in omega arith
full_step false x c m k h e = omega arith

-- where the arcs that pass a test are full, the flow over them is their capacity
pub full_over : (p : Arc → Bool) (arcs : List Arc) (xs : List ℕ) → AllZip (λ a x. p a ≡ true → x ≡ a.cap) arcs xs
    → flow_over p arcs xs ≡ cap_over p arcs
full_over p [] [] h = refl
full_over p [] (x ∷ xs) h = absurd h
full_over p (a ∷ arcs) [] h = absurd h
full_over p (a ∷ arcs) (x ∷ xs) h = full_step (p a) x a.cap _ _ h.0 (full_over p arcs xs h.1)

-- the test of a pair at its own two nodes, and at others
pair_yes : (u v src dst : ℕ) → src ≡ u → dst ≡ v → is_pair u v src dst ≡ true
pair_yes u v src dst e f = and_from (eqb u src) (eqb v dst) (eq-eqb u src (sym e)) (eq-eqb v dst (sym f))

pair_no : (u v src dst : ℕ) → (src ≡ u → dst ≡ v → ⊥) → is_pair u v src dst ≡ false
pair_no u v src dst n = elim (cases_eq u src) [
  | inl e ↦ and_right (eqb u src) (eqb v dst) (ne_eqb v dst (λ f. n (sym e) (sym f)))
  | inr m ↦ and_left (eqb u src) (eqb v dst) (ne_eqb u src m)
]

-- a sum with a part that passes the test, and with one that doesn't
pub yes_step : (b : Bool) (x m k : ℕ) → b ≡ true → m ≡ k + cond b x 0 → m ≡ k + x
yes_step b x m k e h = grind arith

pub no_step : (b : Bool) (x m k : ℕ) → b ≡ false → m ≡ k + cond b x 0 → m ≡ k
no_step b x m k e h = grind arith

-- an arc of the pair, and one that isn't
pub cap_pair_yes : (arcs : List Arc) (i u v : ℕ) (a : Arc) → i < length arcs → a ≡ get_or arcs i no_arc → a.src ≡ u
    → a.dst ≡ v
    → cap_over (λ b. is_pair u v b.src b.dst) (take (i + 1) arcs)
    ≡ cap_over (λ b. is_pair u v b.src b.dst) (take i arcs) + a.cap
cap_pair_yes arcs i u v a l e s d =
    let at = get_or arcs i no_arc in
    yes_step (is_pair u v at.src at.dst) at.cap _ _
    (pair_yes u v at.src at.dst (sym (ap (λ (b : Arc). b.src) e) ∙ s) (sym (ap (λ (b : Arc). b.dst) e) ∙ d))
    (cap_over_more (λ b. is_pair u v b.src b.dst) arcs i l)
    ∙ ap (λ k. cap_over (λ b. is_pair u v b.src b.dst) (take i arcs) + k) (sym (ap (λ (b : Arc). b.cap) e))

pub cap_pair_no : (arcs : List Arc) (i u v : ℕ) (a : Arc) → i < length arcs → a ≡ get_or arcs i no_arc
    → (a.src ≡ u → a.dst ≡ v → ⊥)
    → cap_over (λ b. is_pair u v b.src b.dst) (take (i + 1) arcs)
    ≡ cap_over (λ b. is_pair u v b.src b.dst) (take i arcs)
cap_pair_no arcs i u v a l e n =
    let at = get_or arcs i no_arc in
    no_step (is_pair u v at.src at.dst) at.cap _ _
    (pair_no u v at.src at.dst (λ s d. n (ap (λ (b : Arc). b.src) e ∙ s) (ap (λ (b : Arc). b.dst) e ∙ d)))
    (cap_over_more (λ b. is_pair u v b.src b.dst) arcs i l)
