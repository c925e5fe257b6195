-- Pushes along a path on which the ranks fall.
use Rattle.std.proofs.Common.{◌≡◌, ◌≢◌, ℕ, zero, suc, ◌+◌, ◌-◌, ◌/◌, ◌*◌, ◌≤◌, ◌<◌, List, [], ◌∷◌, ◌++◌, length, get_or}
use Rattle.std.proofs.Common.{take, length-set, refl, ◌∙◌, sym, ap, inl, inr, arith}
use Rattle.std.specs.Prelude.{slice_index}
use Rattle.std.specs.List.{All, AllByRecursion}
use Rattle.std.proofs.lemmas.List.Elements.{recursion_from_All}
use Rattle.std.proofs.lemmas.Bool.{cases_eq}
use Rattle.flow_net.specs.Nets.{Net}
use Rattle.flow_net.specs.Flows.{Fits, HasNoLoops}
use Rattle.flow_net.specs.Residual.{tail_of, head_of, residual, half_pushed, pushed}
use Rattle.flow_net.specs.Paths.{IsPath, IsApart, push_all}
use Rattle.flow_net.proofs.HalfArcs.{residual-pushed, residual-pushed_other, no_loops_pushed}
use Rattle.flow_solve.specs.levels.Phases.{Descends}
use Rattle.flow_solve.proofs.LevelLemmas.Falls.{one_falls}
use Rattle.flow_solve.proofs.LevelLemmas.Places.{falls_apart}

length_pushed : (net : Net) (xs : List ℕ) (h d : ℕ) → length xs ≡ length net.arcs
    → length (pushed xs h d) ≡ length net.arcs
length_pushed net xs h d e = length-set xs (h / 2) (half_pushed (slice_index xs (h / 2)) h d) ∙ e

-- pushes on other arcs change nothing
rooms_others : (net : Net) (xs hs : List ℕ) (d h : ℕ) → AllByRecursion (λ g. g / 2 ≢ h / 2) hs
    → residual net (push_all xs hs d) h ≡ residual net xs h
rooms_others net xs [] d h a = refl
rooms_others net xs (g ∷ hs) d h a =
    rooms_others net (pushed xs g d) hs d h a.1 ∙ residual-pushed_other net xs g h d (λ e. a.0 (sym e))

apart_at : (h : ℕ) (hs : List ℕ) (i : ℕ) → AllByRecursion (λ g. g / 2 ≢ h / 2) hs → i < length hs
    → slice_index hs i / 2 ≢ h / 2
apart_at h [] i a l = absurd (omega arith)
apart_at h (g ∷ hs) zero a l = a.0
apart_at h (g ∷ hs) (suc i) a l = apart_at h hs i a.1 (omega arith)

-- where no two half-arcs are of one arc, on each of them less remains by what was pushed
pub rooms_apart : (net : Net) (xs hs : List ℕ) (d i : ℕ) → length xs ≡ length net.arcs
    → AllByRecursion (λ h. h < 2 * length net.arcs) hs → IsApart hs → i < length hs
    → residual net (push_all xs hs d) (slice_index hs i) ≡ residual net xs (slice_index hs i) - d
rooms_apart net xs [] d i e h a l = absurd (omega arith)
rooms_apart net xs (h ∷ hs) d zero e k a l =
    rooms_others net (pushed xs h d) hs d h a.0 ∙ residual-pushed net xs h d (omega (arith, k.0))
rooms_apart net xs (h ∷ hs) d (suc i) e k a l =
    let j : i < length hs = omega arith in
    rooms_apart net (pushed xs h d) hs d i (length_pushed net xs h d e) k.1 a.1 j
    ∙ ap (λ z. z - d) (residual-pushed_other net xs h (slice_index hs i) d (apart_at h hs i a.0 j))

-- the same of a table's flows before and after its pushes
pub rooms_after : {net : Net} {xs zs ys : List ℕ} (hs : List ℕ) (d i : ℕ) → Fits net xs → zs ≡ xs
    → ys ≡ push_all zs hs d → All (λ h. h < 2 * length net.arcs) hs → IsApart hs → i < length hs
    → residual net ys (slice_index hs i) ≡ residual net xs (slice_index hs i) - d
rooms_after {net} {xs} hs d i f kept done k a l =
    ap (λ (us : List ℕ). residual net us (slice_index hs i)) (done ∙ ap (λ (us : List ℕ). push_all us hs d) kept)
    ∙ rooms_apart net xs hs d i f.count (recursion_from_All (λ h. h < 2 * length net.arcs) hs k) a l

-- a path's half-arcs are half-arcs of the network
halves_all : (net : Net) (u w : ℕ) (hs : List ℕ) → IsPath net u hs w → AllByRecursion (λ h. h < 2 * length net.arcs) hs
halves_all net u w [] p = tt
halves_all net u w (h ∷ hs) p = (p.0, halves_all net (head_of net h) w hs p.2)

-- paths along which ranks fall
module _ (net : Net) (rank : ℕ → ℕ) where
  -- a path is no longer than the rank of its first node
  pub path_length : (u w : ℕ) (hs : List ℕ) → IsPath net u hs w → Descends net rank hs → length hs + rank w ≤ rank u
  path_length u w [] p c = omega (arith, ap rank p)
  path_length u w (h ∷ hs) p c = omega (arith, c.0, ap rank p.1, path_length (head_of net h) w hs p.2 c.1)

  -- behind the half-arc at a place there are no more than the rank of the node that it leaves
  pub path_behind : (u w : ℕ) (hs : List ℕ) (e : ℕ) → IsPath net u hs w → Descends net rank hs → e < length hs
      → length hs ≤ rank (tail_of net (get_or hs e 0)) + e
  path_behind u w [] e p c l = absurd (omega arith)
  path_behind u w (h ∷ hs) zero p c l = omega (arith, ap rank p.1, path_length u w (h ∷ hs) p c)
  path_behind u w (h ∷ hs) (suc e) p c l = omega (arith, path_behind (head_of net h) w hs e p.2 c.1 (omega (arith, l)))

  -- and ends below each of its tails
  pub path_above : (u w : ℕ) (hs : List ℕ) → IsPath net u hs w → Descends net rank hs
      → AllByRecursion (λ h. rank w < rank (tail_of net h)) hs
  path_above u w [] p c = tt
  path_above u w (h ∷ hs) p c = (
    omega (arith, c.0, path_length (head_of net h) w hs p.2 c.1),
    path_above (head_of net h) w hs p.2 c.1,
  )

  below_apart : (h u w : ℕ) (hs : List ℕ) → rank (head_of net h) < rank (tail_of net h) → rank u < rank (tail_of net h)
      → IsPath net u hs w → Descends net rank hs → AllByRecursion (λ g. g / 2 ≢ h / 2) hs
  below_apart h u w [] f l p c = tt
  below_apart h u w (g ∷ hs) f l p c =
      let at : rank (tail_of net g) ≡ rank u = ap rank p.1 in
      let c0 = c.0 in
      let on : rank (head_of net g) < rank (tail_of net h) = omega arith in
      (λ e. apart c0 at (one_falls net rank g h c0 f e), below_apart h (head_of net g) w hs f on p.2 c.1)
    where
      apart : rank (head_of net g) < rank (tail_of net g) → rank (tail_of net g) ≡ rank u → g ≡ h → ⊥
      apart a b e =
          let same : rank (tail_of net g) ≡ rank (tail_of net h) = ap (λ z. rank (tail_of net z)) e in
          omega arith

  -- no two of its half-arcs are of one arc
  pub descends_apart : (u w : ℕ) (hs : List ℕ) → IsPath net u hs w → Descends net rank hs → IsApart hs
  descends_apart u w [] p c = tt
  descends_apart u w (h ∷ hs) p c =
      (below_apart h (head_of net h) w hs c.0 c.0 p.2 c.1, descends_apart (head_of net h) w hs p.2 c.1)

  -- on a half-arc that falls no more remains after the pushes
  room_less : (xs : List ℕ) (h d g : ℕ) → length xs ≡ length net.arcs → h < 2 * length net.arcs
      → rank (head_of net h) < rank (tail_of net h) → rank (head_of net g) < rank (tail_of net g)
      → residual net (pushed xs h d) g ≤ residual net xs g
  room_less xs h d g e l f k = elim (cases_eq (g / 2) (h / 2)) [
    | inl s ↦ rw (one_falls net rank g h k f s) (omega (arith, residual-pushed net xs h d (omega arith)))
    | inr n ↦ omega (arith, residual-pushed_other net xs h g d n)
  ]

  pub rooms_less : (xs : List ℕ) (u w : ℕ) (hs : List ℕ) (d g : ℕ) → length xs ≡ length net.arcs → IsPath net u hs w
      → Descends net rank hs → rank (head_of net g) < rank (tail_of net g)
      → residual net (push_all xs hs d) g ≤ residual net xs g
  rooms_less xs u w [] d g e p c k = omega arith
  rooms_less xs u w (h ∷ hs) d g e p c k =
      omega (
        arith,
        rooms_less (pushed xs h d) (head_of net h) w hs d g (length_pushed net xs h d e) p.2 c.1 k,
        room_less xs h d g e p.0 c.0 k,
      )

  -- so on such a path, on each of its half-arcs less remains by what was pushed
  pub rooms_at : (xs : List ℕ) (u w : ℕ) (hs : List ℕ) (d i : ℕ) → length xs ≡ length net.arcs → IsPath net u hs w
      → Descends net rank hs → i < length hs
      → residual net (push_all xs hs d) (slice_index hs i) ≡ residual net xs (slice_index hs i) - d
  rooms_at xs u w hs d i e p c l = rooms_apart net xs hs d i e (halves_all net u w hs p) (descends_apart u w hs p c) l

-- the first part of a path
pub path_take : (net : Net) (u w : ℕ) (hs : List ℕ) (i : ℕ) → IsPath net u hs w → i < length hs
    → IsPath net u (take i hs) (tail_of net (slice_index hs i))
path_take net u w [] i p l = absurd (omega arith)
path_take net u w (h ∷ hs) zero p l = sym p.1
path_take net u w (h ∷ hs) (suc i) p l = (p.0, p.1, path_take net (head_of net h) w hs i p.2 (omega arith))

pub all_take : (P : ℕ → Type 0) (hs : List ℕ) (i : ℕ) → AllByRecursion P hs → AllByRecursion P (take i hs)
all_take P [] zero a = tt
all_take P [] (suc i) a = tt
all_take P (h ∷ hs) zero a = tt
all_take P (h ∷ hs) (suc i) a = (a.0, all_take P hs i a.1)

pub all_at : (P : ℕ → Type 0) (hs : List ℕ) (i : ℕ) → AllByRecursion P hs → i < length hs → P (slice_index hs i)
all_at P [] i a l = absurd (omega arith)
all_at P (h ∷ hs) zero a l = a.0
all_at P (h ∷ hs) (suc i) a l = all_at P hs i a.1 (omega arith)

pub all_made : (P : ℕ → Type 0) (hs : List ℕ) (i : ℕ) → i ≤ length hs → ((j : ℕ) → j < i → P (slice_index hs j))
    → AllByRecursion P (take i hs)
all_made P [] zero l f = tt
all_made P [] (suc i) l f = tt
all_made P (h ∷ hs) zero l f = tt
all_made P (h ∷ hs) (suc i) l f = (f zero (omega arith), all_made P hs i (omega arith) (λ j k. f (suc j) (omega arith)))

pub all_whole : (P : ℕ → Type 0) (hs : List ℕ) → ((j : ℕ) → j < length hs → P (slice_index hs j)) → AllByRecursion P hs
all_whole P [] f = tt
all_whole P (h ∷ hs) f = (f zero (omega arith), all_whole P hs (λ j k. f (suc j) (omega arith)))

-- a path and one half-arc more
pub path_more : (net : Net) (u w : ℕ) (hs : List ℕ) (h : ℕ) → IsPath net u hs w → h < 2 * length net.arcs
    → tail_of net h ≡ w → IsPath net u (hs ++ (h ∷ [])) (head_of net h)
path_more net u w [] h p l e = (l, e ∙ sym p, refl)
path_more net u w (g ∷ hs) h p l e = (p.0, p.1, path_more net (head_of net g) w hs h p.2 l e)

pub all_more : (P : ℕ → Type 0) (hs : List ℕ) (h : ℕ) → AllByRecursion P hs → P h → AllByRecursion P (hs ++ (h ∷ []))
all_more P [] h a b = (b, tt)
all_more P (g ∷ hs) h a b = (a.0, all_more P hs h a.1 b)

-- the half-arcs of a path, its last head, and its parts
pub halves_at : (net : Net) (u w : ℕ) (hs : List ℕ) (i : ℕ) → IsPath net u hs w → i < length hs
    → slice_index hs i < 2 * length net.arcs
halves_at net u w [] i p l = absurd (omega arith)
halves_at net u w (h ∷ hs) zero p l = p.0
halves_at net u w (h ∷ hs) (suc i) p l = halves_at net (head_of net h) w hs i p.2 (omega arith)

pub path_end : (net : Net) (u w : ℕ) (hs : List ℕ) (i : ℕ) → IsPath net u hs w → length hs ≡ i + 1
    → head_of net (slice_index hs i) ≡ w
path_end net u w [] i p e = absurd (omega arith)
path_end net u w (h ∷ []) zero p e = p.2
path_end net u w (h ∷ (g ∷ hs)) zero p e = absurd (omega arith)
path_end net u w (h ∷ hs) (suc i) p e = path_end net (head_of net h) w hs i p.2 (omega arith)

pub take_nil : (hs : List ℕ) → take 0 hs ≡ []
take_nil [] = refl
take_nil (h ∷ hs) = refl

pub take_take : (i d : ℕ) (hs : List ℕ) → i ≤ d → take i (take d hs) ≡ take i hs
take_take zero d hs l = take_nil (take d hs) ∙ sym (take_nil hs)
take_take (suc i) zero hs l = absurd (omega arith)
take_take (suc i) (suc d) [] l = refl
take_take (suc i) (suc d) (h ∷ hs) l = ap (λ z. h ∷ z) (take_take i d hs (omega arith))

-- the pushes keep the self-loops empty
pub no_loops_descended : (net : Net) (rank : ℕ → ℕ) (xs : List ℕ) (d : ℕ) (hs : List ℕ) → Descends net rank hs
    → HasNoLoops net xs → HasNoLoops net (push_all xs hs d)
no_loops_descended net rank xs d [] c z = z
no_loops_descended net rank xs d (h ∷ hs) c z =
    no_loops_descended net rank (pushed xs h d) d hs c.1 (no_loops_pushed net xs h d (falls_apart net rank h c.0) z)
