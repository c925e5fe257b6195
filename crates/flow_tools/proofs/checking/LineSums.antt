-- Sums over flow lines.
use Rattle.std.proofs.Common.{◌≡◌, ℕ, ◌+◌, ◌*◌, ◌≤◌, ◌<◌, Bool, true, false, cond, List, [], ◌∷◌, length, get_or, take}
use Rattle.std.proofs.Common.{drop, refl, arith}
use Rattle.std.specs.List.{All}
use Rattle.std.specs.List.Sorted.{IsPermutation}
use Rattle.std.proofs.lemmas.List.Elements.{All-weaker, All-tail, All-head}
use Rattle.std.proofs.lemmas.List.Sums.{sum_by-cons, sum_by_more, sum_by-le, sum_by-take-drop}
use Rattle.std.proofs.lemmas.List.Sorted.{sum_by-IsPermutation}
use Rattle.flow_text.specs.SolutionReading.{IsLineWithin}
use Rattle.flow_text.specs.declared.solutions.FlowLine.{FlowLine}
use Rattle.flow_net.specs.declared.limits.TheConstants.{GREATEST_CAPACITY}
use Rattle.flow_tools.specs.checking.LineFlows.{line_flow}

-- the first line and the rest
pub line_flow-cons : (p : ℕ → ℕ → Bool) (x : FlowLine) (lines : List FlowLine)
    → line_flow p (x ∷ lines) ≡ cond (p x.src x.dst) x.flow 0 + line_flow p lines
line_flow-cons p x lines = sum_by-cons (λ y. cond (p y.src y.dst) y.flow 0) x lines

-- one line more
pub line_flow_more : (p : ℕ → ℕ → Bool) (lines : List FlowLine) (i : ℕ) (d : FlowLine) → i < length lines
    → line_flow p (take (i + 1) lines)
    ≡ line_flow p (take i lines) + cond (p (get_or lines i d).src (get_or lines i d).dst) (get_or lines i d).flow 0
line_flow_more p lines i d l = sum_by_more (λ x. cond (p x.src x.dst) x.flow 0) lines i d l

-- the first lines and the rest
pub line_flow-take-drop : (p : ℕ → ℕ → Bool) (lines : List FlowLine) (i : ℕ)
    → line_flow p (take i lines) + line_flow p (drop i lines) ≡ line_flow p lines
line_flow-take-drop p lines i = sum_by-take-drop (λ x. cond (p x.src x.dst) x.flow 0) lines i

-- the order of the lines doesn't matter
pub line_flow-IsPermutation : (p : ℕ → ℕ → Bool) (xs ys : List FlowLine) → IsPermutation xs ys
    → line_flow p ys ≡ line_flow p xs
line_flow-IsPermutation p xs ys h = sum_by-IsPermutation (λ x. cond (p x.src x.dst) x.flow 0) xs ys h

-- one line more that doesn't pass the test
none_step : (b : Bool) (f m : ℕ) → b ≡ false → m ≡ 0 → cond b f 0 + m ≡ 0
none_step b f m e h = grind arith

-- no line passes the test
pub line_flow_none : (p : ℕ → ℕ → Bool) (lines : List FlowLine) → All (λ x. p x.src x.dst ≡ false) lines
    → line_flow p lines ≡ 0
line_flow_none p [] h = refl
line_flow_none p (x ∷ lines) h =
    rw (sum_by-cons (λ y. cond (p y.src y.dst) y.flow 0) x lines)
    (none_step (p x.src x.dst) x.flow _ (All-head (λ y. p y.src y.dst ≡ false) x lines h)
    (line_flow_none p lines (All-tail (λ y. p y.src y.dst ≡ false) x lines h)))

-- a part of a sum is at most what bounds it
part_most : (b : Bool) (f m : ℕ) → f ≤ m → cond b f 0 ≤ m
part_most true f m h = h
part_most false f m h = omega arith

-- a sum of 64 bit flows
pub line_flow-most : (p : ℕ → ℕ → Bool) (nodes : ℕ) (lines : List FlowLine) → All (IsLineWithin nodes) lines
    → line_flow p lines ≤ length lines * GREATEST_CAPACITY
line_flow-most p nodes lines h =
    sum_by-le (λ x. cond (p x.src x.dst) x.flow 0) GREATEST_CAPACITY lines
    (All-weaker (IsLineWithin nodes) (λ x. cond (p x.src x.dst) x.flow 0 ≤ GREATEST_CAPACITY)
    (λ x w. part_most (p x.src x.dst) x.flow GREATEST_CAPACITY (let f = w.flow_fits in omega arith)) lines h)

-- two tests that agree
pub line_flow_agree : (p q : ℕ → ℕ → Bool) (lines : List FlowLine) → ((u v : ℕ) → p u v ≡ q u v)
    → line_flow p lines ≡ line_flow q lines
line_flow_agree p q [] h = refl
line_flow_agree p q (x ∷ lines) h =
    rw (line_flow-cons p x lines, line_flow-cons q x lines, h x.src x.dst, line_flow_agree p q lines h) refl
