-- The path of a walk: it stays one where places of other nodes move on, where half-arcs of it are taken back, and what
-- a push along it fills.
use Rattle.std.proofs.Common.{◌≡◌, ◌≢◌, ℕ, ◌+◌, ◌*◌, ◌≤◌, ◌<◌, Bool, true, List, [], ◌∷◌, length}
use Rattle.std.proofs.Common.{take, ◌∙◌, sym, ap, subst, inl, inr, arith}
use Rattle.std.specs.Prelude.{slice_index}
use Rattle.std.specs.List.{AllByRecursion}
use Rattle.std.proofs.lemmas.Bool.{cases_eq}
use Rattle.std.proofs.lemmas.List.{get_or-take, length-take-le}
use Rattle.flow_net.specs.Nets.{Net}
use Rattle.flow_net.specs.Residual.{tail_of, head_of, residual}
use Rattle.flow_net.specs.Paths.{IsPath, HasRoom, push_all}
use Rattle.flow_solve.specs.levels.Phases.{left, fill_cost, to_fill, is_open}
use Rattle.flow_solve.specs.levels.Phases.{IsBlocked, Descends}
use Rattle.flow_solve.proofs.LevelLemmas.Falls.{left_filled, to_fill_filled}
use Rattle.flow_solve.proofs.LevelLemmas.Falls.{has_room, no_room}
use Rattle.flow_solve.proofs.LevelLemmas.Descents.{path_above, rooms_less}
use Rattle.flow_solve.proofs.LevelLemmas.Descents.{rooms_at}
use Rattle.flow_solve.proofs.LevelLemmas.Descents.{path_take, all_take, all_at}
use Rattle.flow_solve.proofs.LevelLemmas.Descents.{halves_at}
use Rattle.flow_solve.proofs.LevelLemmas.Descents.{take_take}

-- the walk stands at x, on a path from u on which the ranks fall; each of its half-arcs lies at its node's current
-- place
pub record IsWalk (net : Net) (rank place current : ℕ → ℕ) (xs : List ℕ) (u x : ℕ) (hs : List ℕ) : Type 0 where
  pub path : IsPath net u hs x
  pub descends : Descends net rank hs
  pub ready : AllByRecursion (λ h. place h ≡ current (tail_of net h)) hs
  pub room : HasRoom net xs 1 hs

-- ---- places move on

pub ready_on : (net : Net) (rank place now next : ℕ → ℕ) (x : ℕ) (hs : List ℕ) → ((v : ℕ) → v ≢ x → next v ≡ now v)
    → AllByRecursion (λ h. rank x < rank (tail_of net h)) hs → AllByRecursion (λ h. place h ≡ now (tail_of net h)) hs
    → AllByRecursion (λ h. place h ≡ next (tail_of net h)) hs
ready_on net rank place now next x [] o a r = tt
ready_on net rank place now next x (h ∷ hs) o a r =
    (r.0 ∙ sym (o (tail_of net h) (λ e. differ a.0 e)), ready_on net rank place now next x hs o a.1 r.1)
  where
    differ : rank x < rank (tail_of net h) → tail_of net h ≡ x → ⊥
    differ l e = let same : rank (tail_of net h) ≡ rank x = ap rank e in omega arith

pub walk_on : {net : Net} {rank place now next : ℕ → ℕ} {xs : List ℕ} {u x : ℕ} {hs : List ℕ}
    → ((v : ℕ) → v ≢ x → next v ≡ now v) → IsWalk net rank place now xs u x hs → IsWalk net rank place next xs u x hs
walk_on {net} {rank} {place} {now} {next} {u} {x} {hs} o w = record {
  path = w.path;
  descends = w.descends;
  ready = ready_on net rank place now next x hs o (path_above net rank u x hs w.path w.descends) w.ready;
  room = w.room;
}

-- what is known of a half-arc on the path
pub record IsOnPath (net : Net) (rank place current : ℕ → ℕ) (xs : List ℕ) (h : ℕ) : Type 0 where
  pub half : h < 2 * length net.arcs
  pub here : place h ≡ current (tail_of net h)
  pub falls : rank (head_of net h) < rank (tail_of net h)
  pub remains : 1 ≤ residual net xs h

-- a walk whose path has a half-arc at i
module _ {net : Net} {rank place current : ℕ → ℕ} (path : List ℕ) {xs : List ℕ} {u x : ℕ} (d i : ℕ) (l : i < d)
    (m : d ≤ length path) (w : IsWalk net rank place current xs u x (take d path)) where
  pub on_path : IsOnPath net rank place current xs (slice_index path i)
  on_path =
      let long : length (take d path) ≡ d = length-take-le d path m in
      let l' : i < length (take d path) = omega arith in
      subst (λ h. IsOnPath net rank place current xs h) (get_or-take d path i 0 l) (record {
        half = halves_at net u x (take d path) i w.path l';
        here = all_at (λ h. place h ≡ current (tail_of net h)) (take d path) i w.ready l';
        falls = all_at (λ h. rank (head_of net h) < rank (tail_of net h)) (take d path) i w.descends l';
        remains = all_at (λ h. 1 ≤ residual net xs h) (take d path) i w.room l';
      })

  pub back_to : IsWalk net rank place current xs u (tail_of net (slice_index path i)) (take i path)
  back_to =
      let long : length (take d path) ≡ d = length-take-le d path m in
      let lead : slice_index (take d path) i ≡ slice_index path i = get_or-take d path i 0 l in
      let back : IsWalk net rank place current xs u (tail_of net (slice_index (take d path) i)) (take i (take d path)) =
      record {
        path = path_take net u x (take d path) i w.path (omega arith);
        descends = all_take (λ g. rank (head_of net g) < rank (tail_of net g)) (take d path) i w.descends;
        ready = all_take (λ g. place g ≡ current (tail_of net g)) (take d path) i w.ready;
        room = all_take (λ g. 1 ≤ residual net xs g) (take d path) i w.room;
      } in
      subst (λ hs. IsWalk net rank place current xs u (tail_of net (slice_index path i)) hs)
      (take_take i d path (omega arith))
      (subst (λ h. IsWalk net rank place current xs u (tail_of net h) (take i (take d path))) lead back)

-- a walk along whose path b is pushed
module _ {net : Net} {rank place current : ℕ → ℕ} {xs : List ℕ} {u x : ℕ} {hs : List ℕ} (b : ℕ)
    (size : length xs ≡ length net.arcs) (w : IsWalk net rank place current xs u x hs) where
  -- a push along the path opens no half-arc that falls
  pub still_open : (h : ℕ) → rank (head_of net h) < rank (tail_of net h) → is_open net (push_all xs hs b) h ≡ true
      → is_open net xs h ≡ true
  still_open h f i = elim (cases_eq (residual net xs h) 0) [
    | inl z ↦
        let n = no_room net (push_all xs hs b) h
        (omega (arith, rooms_less net rank xs u x hs b h size w.path w.descends f)) in
        absurd (cc)
    | inr n ↦ has_room net xs h (omega (arith, n))
  ]

  -- it fills a half-arc: fewer with a residual capacity are left
  pub augment_fills : (e : ℕ) → e < length hs → b ≡ residual net xs (slice_index hs e)
      → left net rank place current (is_open net (push_all xs hs b)) < left net rank place current (is_open net xs)
  augment_fills e l q =
      let g = slice_index hs e in
      left_filled net rank place current g (halves_at net u x hs e w.path l)
      (all_at (λ h. place h ≡ current (tail_of net h)) hs e w.ready l)
      (all_at (λ h. rank (head_of net h) < rank (tail_of net h)) hs e w.descends l) (is_open net (push_all xs hs b))
      (is_open net xs) (λ h f i. still_open h f i)
      (no_room net (push_all xs hs b) g (omega (arith, rooms_at net rank xs u x hs b e size w.path w.descends l)))
      (has_room net xs g (all_at (λ h. 1 ≤ residual net xs h) hs e w.room l))

  -- and what it costs to fill the rest is less by what it costs to fill this one
  pub augment_pays : (e : ℕ) → e < length hs → b ≡ residual net xs (slice_index hs e)
      → to_fill net rank place current (push_all xs hs b) + fill_cost net rank (slice_index hs e)
      ≤ to_fill net rank place current xs
  augment_pays e l q =
      let g = slice_index hs e in
      to_fill_filled net rank place current g (halves_at net u x hs e w.path l)
      (all_at (λ h. place h ≡ current (tail_of net h)) hs e w.ready l)
      (all_at (λ h. rank (head_of net h) < rank (tail_of net h)) hs e w.descends l) xs (push_all xs hs b)
      (λ h f i. still_open h f i) (no_room net (push_all xs hs b) g
      (omega (arith, rooms_at net rank xs u x hs b e size w.path w.descends l)))
      (has_room net xs g (all_at (λ h. 1 ≤ residual net xs h) hs e w.room l))

  pub augment_blocked : (t : ℕ → Bool) → IsBlocked net t rank place current xs
      → IsBlocked net t rank place current (push_all xs hs b)
  augment_blocked t blocked g l p f = elim (blocked g l p f) [
    | inl z ↦ inl (omega (arith, z, rooms_less net rank xs u x hs b g size w.path w.descends f))
    | inr k ↦ inr k
  ]
