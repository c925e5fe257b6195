-- `rename_all`: the next node gets its new name.
use Rattle.std.proofs.Common.{◌≡◌, ◌-◌, ◌<◌, ◌≤◌, ◌++◌, ◌∙◌, ℕ, List, length, get_or, map, take, drop, ap, arith}
use Rattle.std.proofs.Common.{length-take}
use Rattle.std.specs.List.{All}
use Rattle.std.proofs.lemmas.List.{get_or_default, get_or-append_right, get_or-drop, length-map}
use Rattle.std.proofs.lemmas.List.Edits.{map_over_more}
use Rattle.flow_net.specs.Arrangements.{named}
use Rattle.flow_tools.proofs.solving.arranging.rename_all.Goals as goal

-- a node ahead is as it was, and so has a name
ahead : (names xs ys : List ℕ) (i : ℕ) → All (λ v. (1 ≤ v) × (v ≤ length names)) xs → i < length xs
    → ys ≡ map (named names) (take i xs) ++ drop i xs → (1 ≤ get_or ys i 0) × (get_or ys i 0 ≤ length names)
ahead names xs ys i all within is =
    let mapped = length-map (take i xs) (named names) in
    let taken = length-take i xs in
    let size : length (map (named names) (take i xs)) ≡ i = omega arith in
    let same : get_or ys i 0 ≡ get_or xs i 0 =
    ap (λ l. get_or l i 0) is ∙ get_or-append_right (map (named names) (take i xs)) (drop i xs) i i 0 size (omega arith)
    ∙ get_or-drop i xs (i - i) 0 ∙ ap (λ k. get_or xs k 0) (omega arith) in
    rw same (all i 0 within)

pub overflow_sub-v : goal.overflow_sub-v
overflow_sub-v c =
    (ahead c.args.names.now c.args.vs.now.items c.loop-v.v-items c.loop-v.v-index c.requires
    (rw c.deref_mut-v-items.ensures.value at c.loop-v-test.true) c.loop-v.invariant).0

pub bounds-names-v : goal.bounds-names-v
bounds-names-v c =
    let named = ahead c.args.names.now c.args.vs.now.items c.loop-v.v-items c.loop-v.v-index c.requires
    (rw c.deref_mut-v-items.ensures.value at c.loop-v-test.true) c.loop-v.invariant in
    omega arith

pub loop-v-preserved : goal.loop-v-preserved
loop-v-preserved c =
    let ys = c.loop-v.v-items in let i = c.loop-v.v-index in
    let here : i < length ys = omega arith in
    map_over_more (named c.args.names.now) c.args.vs.now.items ys i _
    (rw c.deref_mut-v-items.ensures.value at c.loop-v-test.true) c.loop-v.invariant (get_or_default ys i 0 _ here)
