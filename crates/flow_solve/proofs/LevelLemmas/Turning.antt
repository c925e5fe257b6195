-- The turns of a walk.
use Rattle.std.proofs.Common.{◌≡◌, ◌≢◌, ℕ, ◌+◌, ◌-◌, ◌*◌, ◌≤◌, ◌<◌, min, true, false, List, [], ◌∷◌, ◌++◌, length}
use Rattle.std.proofs.Common.{take, get_or, set, length-set, refl, ◌∙◌, sym, ap, subst, inl, inr, arith}
use Rattle.std.specs.Prelude.{slice_index}
use Rattle.std.proofs.Math.Nat.{mul-le-mul_left, le-min}
use Rattle.std.proofs.lemmas.Bool.{cases_eq, cases_Bool}
use Rattle.std.proofs.lemmas.List.{get_or-take, take_more_set, length-take-le}
use Rattle.flow_net.specs.Nets.{Net, IsNode}
use Rattle.flow_net.specs.Limits.{IsNet, AreTerminals}
use Rattle.flow_net.specs.NodeSets.{one_of}
use Rattle.flow_net.specs.Flows.{IsFeasible, HasValue, HasNoLoops}
use Rattle.flow_net.specs.Residual.{tail_of, head_of, residual}
use Rattle.flow_net.specs.Paths.{IsPath, HasRoom, IsApart, push_all}
use Rattle.flow_net.proofs.AugmentingPaths.{augmented}
use Rattle.flow_net.proofs.Zips.{head_is_node, tail_is_node}
use Rattle.flow_net.proofs.NodeLists.{terminals_apart}
use Rattle.flow_solve.specs.residual.Packs.{IsPacked}
use Rattle.flow_solve.specs.levels.Phases.{cell_of, first_at, left, fill_cost, to_fill, any, is_open, HasMoved}
use Rattle.flow_solve.specs.levels.Phases.{IsAdmissible}
use Rattle.flow_solve.specs.levels.Phases.{IsDead, IsInPhase, AreSinks, IsOrdered, IsGentle}
use Rattle.flow_solve.specs.levels.Phases.{IsLooked}
use Rattle.flow_solve.specs.levels.Phases.{IsFilling}
use Rattle.flow_solve.proofs.LevelLemmas.Falls.{left_on, to_fill_on, pass_any, unpassed}
use Rattle.flow_solve.proofs.LevelLemmas.Falls.{unpassed_on}
use Rattle.flow_solve.proofs.LevelLemmas.Falls.{unpassed_past}
use Rattle.flow_solve.proofs.LevelLemmas.Places.{cell_at, standing, one_place, falls_apart}
use Rattle.flow_solve.proofs.LevelLemmas.Descents.{path_length, path_behind, descends_apart}
use Rattle.flow_solve.proofs.LevelLemmas.Descents.{rooms_at}
use Rattle.flow_solve.proofs.LevelLemmas.Descents.{path_take, path_more, all_take, all_made, all_whole}
use Rattle.flow_solve.proofs.LevelLemmas.Descents.{all_more, halves_at}
use Rattle.flow_solve.proofs.LevelLemmas.Descents.{path_end, take_nil, take_take, no_loops_descended}
use Rattle.flow_solve.proofs.LevelLemmas.Bounds.{IsPaid, paid_advance, paid_retreat, paid_augment}
use Rattle.flow_solve.proofs.LevelLemmas.Distances.{gentle_descended}
use Rattle.flow_solve.proofs.ResidualLemmas.Routes.{sink_no_source}
use Rattle.flow_solve.proofs.LevelLemmas.Walks.{IsOn, on_up, moved_up, set_next, moved_within, blocked_pass}
use Rattle.flow_solve.proofs.LevelLemmas.WalkPaths.{IsWalk, walk_on, on_path, back_to, augment_fills}
use Rattle.flow_solve.proofs.LevelLemmas.WalkPaths.{augment_pays, augment_blocked}

pub record IsTurning (net : Net) (s t first halves rank current path xs : List ℕ) (u x d k total steps : ℕ)
    : Type 0 where
  pub phase : IsInPhase net s t first halves rank current xs k
  pub path_size : length path ≡ net.nodes
  pub node : IsNode net x
  pub short : d < net.nodes
  pub walk : IsWalk net (cell_of rank) (first_at halves) (cell_of current) xs u x (take d path)
  pub paid : IsPaid total steps d (to_fill net (cell_of rank) (first_at halves) (cell_of current) xs)
      (left net (cell_of rank) (first_at halves) (cell_of current) any)

-- ---- the beginning

pub turning_start : {net : Net} {s t first halves rank current : List ℕ} (path : List ℕ) {xs : List ℕ} (u : ℕ) {k : ℕ}
    (steps total : ℕ) → IsInPhase net s t first halves rank current xs k → length path ≡ net.nodes → IsNode net u
    → total ≡ steps + (to_fill net (cell_of rank) (first_at halves) (cell_of current) xs
    + left net (cell_of rank) (first_at halves) (cell_of current) any)
    → IsTurning net s t first halves rank current path xs u u 0 k total steps
turning_start {net} {halves} {rank} {current} path {xs} u steps total p size i e = record {
  phase = p;
  path_size = size;
  node = i;
  short = omega (arith, i);
  walk =
      subst (λ hs. IsWalk net (cell_of rank) (first_at halves) (cell_of current) xs u u hs) (sym (take_nil path))
      (record { path = refl; descends = tt; ready = tt; room = tt });
  paid = record { paid = omega (arith, e) };
}

-- ---- an admissible half-arc was found

pub looked_phase : {net : Net} {s t first halves rank now next xs : List ℕ} {x k : ℕ}
    → IsLooked net first halves rank now next xs x → IsInPhase net s t first halves rank now xs k
    → IsInPhase net s t first halves rank next xs k
looked_phase {t} l p = record {
  feasible = p.feasible;
  value = p.value;
  no_loops = p.no_loops;
  size = l.size;
  places = l.places;
  blocked = l.blocked (one_of t) p.blocked;
}

-- ---- none was found

-- a node that isn't a sink and whose place is behind all is dead
pub dead_here : (net : Net) (t first halves current : List ℕ) (x : ℕ) → IsNet net → IsPacked net first halves
    → one_of t x ≡ false → cell_of current x ≡ slice_index first x
    → IsDead net (one_of t) (first_at halves) (cell_of current) x
dead_here net t first halves current x n k inner end = record {
  inner = inner;
  over = λ h l e o.
      let st = standing n k h l (λ same. o (sym same ∙ e)) in
      omega (arith, st.most, ap (slice_index first) e, end);
}

-- which is enough for a look and a push for each half-arc of the path, and a look for each behind the filled one
fill_enough : (n d e r : ℕ) → d ≤ n - 1 → d ≤ r + e → 2 * d + d ≤ 2 * (n - 1) + min r (n - 1) + e
fill_enough n d e r a b =
    let k : d - e ≤ min r (n - 1) = le-min (omega (arith, b)) (omega (arith, a)) in
    omega (arith, a, k)

-- ---- the measure: what is still to pass or to fill, and then the path's growth

abbrev pub to_go : Net → List ℕ → List ℕ → List ℕ → List ℕ → ℕ → ℕ
to_go net halves rank current xs d =
    net.nodes
    * (unpassed net (first_at halves) (cell_of current)
    + left net (cell_of rank) (first_at halves) (cell_of current) (is_open net xs) + 1) - d

fewer_left : (n a b d e : ℕ) → a < b → d < n → n * (a + 1) - e < n * (b + 1) - d
fewer_left n a b d e l s = let m : a + 2 ≤ b + 1 = omega arith in let k = mul-le-mul_left n m in omega (arith, k)

longer : (n a b d : ℕ) → a ≤ b → d < n → n * (a + 1) - (d + 1) < n * (b + 1) - d
longer n a b d l s =
    let m : a + 1 ≤ b + 1 = omega arith in
    let k = mul-le-mul_left n m in
    let one : 1 ≤ a + 1 = omega arith in
    let j = mul-le-mul_left n one in
    omega (arith, k, j)

pub to_go_longer : (net : Net) (halves rank current current' xs : List ℕ) (x d : ℕ)
    → HasMoved (cell_of current) (cell_of current') x → d < net.nodes
    → to_go net halves rank current' xs (d + 1) < to_go net halves rank current xs d
to_go_longer net halves rank current current' xs x d m s =
    let up = moved_up (cell_of current) (cell_of current') x m in
    longer net.nodes _ _ d
    (plus _ _ _ _ (unpassed_on net (first_at halves) (cell_of current) (cell_of current') up)
    (left_on net (cell_of rank) (first_at halves) (cell_of current) (cell_of current') (is_open net xs) up)) s
  where
    plus : (a b y z : ℕ) → a ≤ b → y ≤ z → a + y ≤ b + z
    plus a b y z l k = omega arith

-- the forms that the code has
pub stepped : (current : List ℕ) (x : ℕ) → 1 ≤ x
    → set current (x - 1) (slice_index current (x - 1) + 1) ≡ set current (x - 1) (cell_of current x + 1)
stepped current x o = ap (λ z. set current (x - 1) (z + 1)) (cell_at current x o)

pub sink_here : (net : Net) (t dist : List ℕ) (x : ℕ) → AreSinks net t dist → IsNode net x → get_or dist (x - 1) 0 ≡ 0
    → one_of t x ≡ true
sink_here net t dist x a i e = (a x i).1 (omega (arith, cell_at dist x i.0))

pub no_sink_here : (net : Net) (t dist : List ℕ) (x : ℕ) → AreSinks net t dist → IsNode net x
    → get_or dist (x - 1) 0 ≢ 0 → one_of t x ≡ false
no_sink_here net t dist x a i n = elim (cases_Bool (one_of t x)) [
  | inl is ↦ absurd (n (omega (arith, cell_at dist x i.0, (a x i).0 is)))
  | inr out ↦ out
]

-- a turn of the walk: what it knows, and how it goes on
module _ {net : Net} {s t first halves rank current path xs : List ℕ} {u x d k total steps : ℕ}
    (w : IsTurning net s t first halves rank current path xs u x d k total steps) where
  full : length (take d path) ≡ d
  full = length-take-le d path (omega (arith, w.short, w.path_size))

  pub turning_advance : {current' : List ℕ} (steps' h : ℕ) → IsNet net → cell_of rank u < net.nodes
      → IsLooked net first halves rank current current' xs x
      → IsAdmissible net (cell_of rank) (first_at halves) (cell_of current') xs x h
      → steps' + left net (cell_of rank) (first_at halves) (cell_of current') any ≤ steps
      + left net (cell_of rank) (first_at halves) (cell_of current) any + 1
      → IsTurning net s t first halves rank current' (set path d h) xs u (head_of net h) (d + 1) k total steps'
  turning_advance {current'} steps' h n low l a cost =
      let up = moved_up (cell_of current) (cell_of current') x l.moved in
      let more = take_more_set path d h (omega (arith, w.short, w.path_size)) in
      let w0 = walk_on l.moved.there w.walk in
      let w1 : IsWalk net (cell_of rank) (first_at halves) (cell_of current') xs u (head_of net h)
      (take d path ++ (h ∷ [])) =
      record {
        path = path_more net u x (take d path) h w0.path a.half a.tail;
        descends =
            all_more (λ g. cell_of rank (head_of net g) < cell_of rank (tail_of net g)) (take d path) h w0.descends
            a.falls;
        ready =
            all_more (λ g. first_at halves g ≡ cell_of current' (tail_of net g)) (take d path) h w0.ready
            (a.here ∙ ap (cell_of current') (sym a.tail));
        room = all_more (λ g. 1 ≤ residual net xs g) (take d path) h w0.room a.remains;
      } in
      let w2 : IsWalk net (cell_of rank) (first_at halves) (cell_of current') xs u (head_of net h)
      (take (d + 1) (set path d h)) =
      subst (λ hs. IsWalk net (cell_of rank) (first_at halves) (cell_of current') xs u (head_of net h) hs) (sym more)
      w1 in
      let size : length (set path d h) ≡ net.nodes = length-set path d h ∙ w.path_size in
      let long : length (take (d + 1) (set path d h)) ≡ d + 1 =
      length-take-le (d + 1) (set path d h) (omega (arith, w.short)) in
      record {
        phase = looked_phase l w.phase;
        path_size = size;
        node = head_is_node net h n a.half;
        short =
            omega
            (arith, path_length net (cell_of rank) u (head_of net h) (take (d + 1) (set path d h)) w2.path w2.descends);
        walk = w2;
        paid =
            paid_advance (to_fill_on net (cell_of rank) (first_at halves) (cell_of current) (cell_of current') xs up)
            cost w.paid;
      }

  pub half_on : (i : ℕ) → i < d → slice_index path i < 2 * length net.arcs
  half_on i l = (on_path path d i l (omega (arith, w.short, w.path_size)) w.walk).half

  pub turning_retreat : {current' : List ℕ} (steps' i : ℕ) → d ≡ i + 1 → IsNet net → IsPacked net first halves
      → one_of t x ≡ false → IsLooked net first halves rank current current' xs x
      → cell_of current' x ≡ slice_index first x
      → steps' + left net (cell_of rank) (first_at halves) (cell_of current') any ≤ steps
      + left net (cell_of rank) (first_at halves) (cell_of current) any
      → IsTurning net s t first halves rank (set current' (tail_of net (slice_index path i) - 1)
      (cell_of current' (tail_of net (slice_index path i)) + 1)) path xs u (tail_of net (slice_index path i)) i k total
      steps'
  turning_retreat {current'} steps' i e n pk inner l end cost =
      let h = slice_index path i in
      let m : d ≤ length path = omega (arith, w.short, w.path_size) in
      let w1 = walk_on l.moved.there w.walk in
      let q = on_path path d i (omega arith) m w1 in
      let node = tail_is_node net h n q.half in
      let y = tail_of net (slice_index path i) in
      let o : IsOn (cell_of current') (cell_of (set current' (y - 1) (cell_of current' y + 1))) y =
      set_next current' y node.0 (omega (arith, node, l.size)) in
      let up = moved_up (cell_of current) (cell_of current') x l.moved in
      let up' = on_up (cell_of current') (cell_of (set current' (y - 1) (cell_of current' y + 1))) y o in
      let long : length (take d path) ≡ d = length-take-le d path m in
      let lead : slice_index (take d path) i ≡ h = get_or-take d path i 0 (omega arith) in
      let into : head_of net h ≡ x =
      ap (head_of net) (sym lead) ∙ path_end net u x (take d path) i w.walk.path (long ∙ e) in
      let dead : IsDead net (one_of t) (first_at halves) (cell_of current') x =
      dead_here net t first halves current' x n pk inner end in
      let w2 = back_to path d i (omega arith) m w1 in
      let stands = standing n pk h q.half (apart q.falls) in
      let p = looked_phase l w.phase in
      let p0 : IsPaid total steps (i + 1) (to_fill net (cell_of rank) (first_at halves) (cell_of current) xs)
      (left net (cell_of rank) (first_at halves) (cell_of current) any) =
      subst (λ z. IsPaid total steps z (to_fill net (cell_of rank) (first_at halves) (cell_of current) xs)
      (left net (cell_of rank) (first_at halves) (cell_of current) any)) e w.paid in
      let before = to_fill_on net (cell_of rank) (first_at halves) (cell_of current) (cell_of current') xs up in
      let past = to_fill_on net (cell_of rank) (first_at halves) (cell_of current')
      (cell_of (set current' (y - 1) (cell_of current' y + 1))) xs up' in
      let less = pass_any net (cell_of rank) (first_at halves) (cell_of current')
      (cell_of (set current' (y - 1) (cell_of current' y + 1))) h up' q.half (omega (arith, q.here))
      (omega (arith, q.here, o.here)) q.falls in
      record {
        phase = record {
          feasible = p.feasible;
          value = p.value;
          no_loops = p.no_loops;
          size = length-set current' (y - 1) (cell_of current' y + 1) ∙ l.size;
          places =
              moved_within net first (cell_of current') (cell_of (set current' (y - 1) (cell_of current' y + 1))) y
              (omega (arith, o.here), o.there) (omega (arith, o.here, stands.most, q.here)) l.places;
          blocked =
              blocked_pass net (one_of t) (first_at halves) (cell_of current')
              (cell_of (set current' (y - 1) (cell_of current' y + 1))) (cell_of rank) xs y h
              (λ g b a s'. one_place n pk g h b a stands.there s') o q.here
              (λ f. inr (subst (λ z. IsDead net (one_of t) (first_at halves) (cell_of current') z) (sym into) dead))
              p.blocked;
        };
        path_size = w.path_size;
        node = node;
        short = omega (arith, w.short);
        walk = walk_on o.there w2;
        paid = paid_retreat _ (omega (arith, before, past)) cost less p0;
      }
    where
      apart : cell_of rank (head_of net (slice_index path i)) < cell_of rank (tail_of net (slice_index path i))
          → tail_of net (slice_index path i) ≢ head_of net (slice_index path i)
      apart f same =
          let at : cell_of rank (tail_of net (slice_index path i)) ≡ cell_of rank (head_of net (slice_index path i)) =
          ap (cell_of rank) same in
          omega arith

  -- ---- an augmentation

  -- at a sink the path has a half-arc, as its beginning is no sink
  pub some_path : AreTerminals net s t → one_of s u ≡ true → one_of t x ≡ true → 1 ≤ d
  some_path a i sink = elim (cases_eq d 0) [
    | inl e ↦
        let none : take d path ≡ [] = ap (λ j. take j path) e ∙ take_nil path in
        let same : u ≡ x = subst (λ hs. IsPath net u hs x) none w.walk.path in
        let both : one_of s x ≡ true = subst (λ v. one_of s v ≡ true) same i in
        let not_both = sink_no_source (one_of s) (one_of t) (terminals_apart net s t a) x sink in
        absurd (cc)
    | inr n ↦ omega (arith, n)
  ]

  pub halves_on : (i : ℕ) → i < length (take d path) → slice_index (take d path) i < 2 * length net.arcs
  halves_on i l = halves_at net u x (take d path) i w.walk.path l

  pub turning_apart : IsApart (take d path)
  turning_apart = descends_apart net (cell_of rank) u x (take d path) w.walk.path w.walk.descends

  pub turning_augment : (b e : ℕ) → IsNet net → AreTerminals net s t → one_of s u ≡ true → one_of t x ≡ true
      → IsFilling net xs (take d path) e b
      → IsTurning net s t first halves rank current path (push_all xs (take d path) b) u
      (tail_of net (slice_index path e)) e (k + b) total (steps + 2 * d)
  turning_augment b e n a source sink g =
      let hs = take d path in
      let long = full in
      let lead : slice_index (take d path) e ≡ slice_index path e = get_or-take d path e 0 (omega (arith, g.place)) in
      let size = w.phase.feasible.fits.count in
      let apart = descends_apart net (cell_of rank) u x (take d path) w.walk.path w.walk.descends in
      let room : HasRoom net xs b (take d path) = all_whole (λ h. b ≤ residual net xs h) (take d path) g.least in
      let more = augmented net (one_of s) (one_of t) xs b u x (take d path) w.phase.feasible source sink
      (sink_no_source (one_of s) (one_of t) (terminals_apart net s t a) x sink) w.walk.path apart room in
      let back : IsWalk net (cell_of rank) (first_at halves) (cell_of current) (push_all xs (take d path) b) u
      (tail_of net (slice_index (take d path) e)) (take e (take d path)) =
      record {
        path = path_take net u x (take d path) e w.walk.path g.place;
        descends =
            all_take (λ h. cell_of rank (head_of net h) < cell_of rank (tail_of net h)) (take d path) e w.walk.descends;
        ready = all_take (λ h. first_at halves h ≡ cell_of current (tail_of net h)) (take d path) e w.walk.ready;
        room =
            all_made (λ h. 1 ≤ residual net (push_all xs (take d path) b) h) (take d path) e (omega (arith, g.place))
            (λ i l.
            let inside : i < length (take d path) = omega (arith, g.place) in
            omega (
              arith,
              g.first i l,
              rooms_at net (cell_of rank) xs u x (take d path) b i size w.walk.path w.walk.descends inside,
            ));
      } in
      let g' = slice_index (take d path) e in
      let behind = path_behind net (cell_of rank) u x (take d path) e w.walk.path w.walk.descends g.place in
      let pays = augment_pays b size w.walk e g.place g.amount in
      record {
        phase = record {
          feasible = more.0;
          value = omega (arith, w.phase.value, more.1);
          no_loops = no_loops_descended net (cell_of rank) xs b (take d path) w.walk.descends w.phase.no_loops;
          size = w.phase.size;
          places = w.phase.places;
          blocked = augment_blocked b size w.walk (one_of t) w.phase.blocked;
        };
        path_size = w.path_size;
        node =
            tail_is_node net (slice_index path e) n
            (subst (λ h. h < 2 * length net.arcs) lead (halves_at net u x (take d path) e w.walk.path g.place));
        short = omega (arith, w.short, g.place, long);
        walk =
            subst (λ zs. IsWalk net (cell_of rank) (first_at halves) (cell_of current) (push_all xs (take d path) b) u
            (tail_of net (slice_index path e)) zs) (take_take e d path (omega (arith, g.place, long)))
            (subst (λ h. IsWalk net (cell_of rank) (first_at halves) (cell_of current) (push_all xs (take d path) b) u
            (tail_of net h) (take e (take d path))) lead back);
        paid =
            paid_augment (2 * d) (fill_cost net (cell_of rank) g')
            (fill_enough net.nodes d e _ (omega (arith, w.short)) (omega (arith, behind, long))) pays w.paid;
      }

  pub turning_gentle : (b : ℕ) (level : ℕ → ℕ) → IsNet net → IsOrdered net level (cell_of rank) → IsGentle net xs level
      → IsGentle net (push_all xs (take d path) b) level
  turning_gentle b level n o g =
      gentle_descended net level (cell_of rank) n o xs b u x (take d path) w.walk.path
      (descends_apart net (cell_of rank) u x (take d path) w.walk.path w.walk.descends) w.walk.room w.walk.descends g

  pub to_go_fill : (b e : ℕ) → IsFilling net xs (take d path) e b
      → to_go net halves rank current (push_all xs (take d path) b) e < to_go net halves rank current xs d
  to_go_fill b e g =
      fewer_left net.nodes _ _ d e (plus (unpassed net (first_at halves) (cell_of current)) _ _
      (augment_fills b w.phase.feasible.fits.count w.walk e g.place g.amount)) w.short
    where
      plus : (a y z : ℕ) → y < z → a + y < a + z
      plus a y z l = omega arith

  pub to_go_pass : {current' : List ℕ} (i : ℕ) → d ≡ i + 1 → IsNet net
      → IsLooked net first halves rank current current' xs x
      → to_go net halves rank (set current' (tail_of net (slice_index path i) - 1)
      (cell_of current' (tail_of net (slice_index path i)) + 1)) xs i < to_go net halves rank current xs d
  to_go_pass {current'} i e n l =
      let h = slice_index path i in
      let w1 = walk_on l.moved.there w.walk in
      let q = on_path path d i (omega arith) (omega (arith, w.short, w.path_size)) w1 in
      let node = tail_is_node net h n q.half in
      let y = tail_of net (slice_index path i) in
      let o : IsOn (cell_of current') (cell_of (set current' (y - 1) (cell_of current' y + 1))) y =
      set_next current' y node.0 (omega (arith, node, l.size)) in
      let up = moved_up (cell_of current) (cell_of current') x l.moved in
      let up' = on_up (cell_of current') (cell_of (set current' (y - 1) (cell_of current' y + 1))) y o in
      fewer_left net.nodes _ _ d i
      (plus _ _ _ _ _ _ (unpassed_past net (first_at halves) (cell_of current')
      (cell_of (set current' (y - 1) (cell_of current' y + 1))) h up' q.half
      (omega (arith, q.here)) (omega (arith, q.here, o.here)))
      (unpassed_on net (first_at halves) (cell_of current) (cell_of current') up)
      (left_on net (cell_of rank) (first_at halves) (cell_of current')
      (cell_of (set current' (y - 1) (cell_of current' y + 1))) (is_open net xs) up')
      (left_on net (cell_of rank) (first_at halves) (cell_of current) (cell_of current') (is_open net xs) up))
      w.short
    where
      plus : (a a' a'' y y' y'' : ℕ) → a'' < a' → a' ≤ a → y'' ≤ y' → y' ≤ y → a'' + y'' < a + y
      plus a a' a'' y y' y'' p q r s = omega arith

  pub turning_as : {current' xs' : List ℕ} {x' k' steps' : ℕ} → current' ≡ current → xs' ≡ xs → x' ≡ x → k' ≡ k
      → steps' ≡ steps → IsTurning net s t first halves rank current' path xs' u x' d k' total steps'
  turning_as a b e f g = rw (a, b, e, f, g) w

  -- the walk's end
  pub turning_end : {current' : List ℕ} (steps' : ℕ) → d ≡ 0 → IsLooked net first halves rank current current' xs x
      → steps' + left net (cell_of rank) (first_at halves) (cell_of current') any ≤ steps
      + left net (cell_of rank) (first_at halves) (cell_of current) any
      → steps' + (to_fill net (cell_of rank) (first_at halves) (cell_of current') xs
      + left net (cell_of rank) (first_at halves) (cell_of current') any) ≤ total
  turning_end {current'} steps' e l cost =
      let live = to_fill_on net (cell_of rank) (first_at halves) (cell_of current) (cell_of current') xs
      (moved_up (cell_of current) (cell_of current') x l.moved) in
      omega (arith, w.paid.paid, live, cost)

  pub at_source : d ≡ 0 → u ≡ x
  at_source e =
      let none : take d path ≡ [] = ap (λ j. take j path) e ∙ take_nil path in
      subst (λ hs. IsPath net u hs x) none w.walk.path

-- ---- a phase begins: each node's current place is that of its first half-arc

fresh_cell : (first : List ℕ) (n v : ℕ) → 1 ≤ v → v ≤ n → cell_of (take n first) v ≡ get_or first (v - 1) 0
fresh_cell first n v a b = sym (cell_at (take n first) v a) ∙ get_or-take n first (v - 1) 0 (omega arith)

pub fresh_phase : {net : Net} {s t first halves rank current xs : List ℕ} {k : ℕ} → IsNet net
    → IsPacked net first halves → current ≡ take net.nodes first → IsFeasible net (one_of s) (one_of t) xs
    → HasValue net (one_of s) xs k → HasNoLoops net xs → IsInPhase net s t first halves rank current xs k
fresh_phase {net} {first} {halves} {rank} n pk e f v z = rw e (record {
  feasible = f;
  value = v;
  no_loops = z;
  size = length-take-le net.nodes first (omega (arith, pk.firsts_size));
  places = λ w i.
      let at = fresh_cell first net.nodes w i.0 i.1 in
      let up : w - 1 + 1 ≡ w = omega (arith, i) in
      (omega (arith, at), omega (arith, at, pk.rises (w - 1) (omega (arith, i)), ap (λ j. get_or first j 0) up));
  blocked = λ h l p f'.
      let st = standing n pk h l (falls_apart net (cell_of rank) h f') in
      let node = tail_is_node net h n l in
      absurd (omega (arith, p, st.least, fresh_cell first net.nodes (tail_of net h) node.0 node.1));
})
