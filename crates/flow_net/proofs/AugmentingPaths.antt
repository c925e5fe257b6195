-- Pushes along a path of half-arcs.
use Rattle.std.proofs.Common.{◌≡◌, ◌≢◌, ℕ, ◌%◌, ◌/◌, ◌≤◌, ◌<◌, ◌⊎◌, Bool, true, false, cond, eqb, List, [], ◌∷◌, sym}
use Rattle.std.proofs.Common.{ap, subst, inl, inr, arith}
use Rattle.std.specs.List.{AllByRecursion}
use Rattle.flow_net.specs.declared.networks.Arc.{Arc}
use Rattle.flow_net.specs.Nets.{Net, arc_at}
use Rattle.flow_net.specs.Flows.{IsFeasible, HasNoLoops}
use Rattle.flow_net.specs.Residual.{half_tail, half_head, tail_of, head_of, pushed}
use Rattle.flow_net.specs.Paths.{IsPath, HasRoom, IsApart, push_all, IsMoreBy}
use Rattle.flow_net.proofs.Pushes.{IsMoved, moved_nothing, moved_on, moved_feasible, moved_value}
use Rattle.flow_net.proofs.HalfArcs.{residual-pushed_other, no_loops_pushed}

-- each half-arc of a list leads to a higher level
abbrev pub Climbs : Net → (ℕ → ℕ) → List ℕ → Type 0
Climbs net level hs = AllByRecursion (λ h. level (tail_of net h) < level (head_of net h)) hs

-- the other half-arcs keep their room
pub room_after : (net : Net) (xs : List ℕ) (h d e : ℕ) (hs : List ℕ) → AllByRecursion (λ g. g / 2 ≢ h / 2) hs
    → HasRoom net xs e hs → HasRoom net (pushed xs h d) e hs
room_after net xs h d e [] n r = tt
room_after net xs h d e (g ∷ hs) n r =
    (omega (arith, r.0, residual-pushed_other net xs h g d n.0), room_after net xs h d e hs n.1 r.1)

-- half-arcs that climb are of different arcs
turned : (a : Arc) (b c : Bool) (level : ℕ → ℕ) (l : ℕ) → level (cond b a.src a.dst) ≤ l
    → l < level (cond b a.dst a.src) → level (cond c a.src a.dst) ≤ l ⊎ level (cond c a.dst a.src) ≤ l
turned a true true level l h k = inl h
turned a true false level l h k = inr h
turned a false true level l h k = inr h
turned a false false level l h k = inl h

one_arc : (net : Net) (level : ℕ → ℕ) (h g : ℕ) → level (tail_of net h) < level (head_of net h)
    → level (head_of net h) ≤ level (tail_of net g) → level (tail_of net g) < level (head_of net g) → g / 2 ≡ h / 2 → ⊥
one_arc net level h g up on up' e =
    let a = arc_at net (h / 2) in
    let same : arc_at net (g / 2) ≡ a = ap (λ i. arc_at net i) e in
    let from : level (tail_of net g) ≡ level (half_tail a g) = ap (λ (b : Arc). level (half_tail b g)) same in
    let to : level (head_of net g) ≡ level (half_head a g) = ap (λ (b : Arc). level (half_head b g)) same in
    elim (turned a (eqb (h % 2) 0) (eqb (g % 2) 0) level (level (tail_of net h)) (omega arith) up) [
      | inl l ↦ omega (arith, l, from)
      | inr l ↦ omega (arith, l, to)
    ]

above_apart : (net : Net) (level : ℕ → ℕ) (h u w : ℕ) (hs : List ℕ) → level (tail_of net h) < level (head_of net h)
    → level (head_of net h) ≤ level u → IsPath net u hs w → Climbs net level hs → AllByRecursion (λ g. g / 2 ≢ h / 2) hs
above_apart net level h u w [] up on p c = tt
above_apart net level h u w (g ∷ hs) up on p c =
    let at : level (tail_of net g) ≡ level u = ap level p.1 in (
      one_arc net level h g up (omega arith) c.0,
      above_apart net level h (head_of net g) w hs up (omega (arith, c.0, at)) p.2 c.1,
    )

pub climbs_apart : (net : Net) (level : ℕ → ℕ) (u w : ℕ) (hs : List ℕ) → IsPath net u hs w → Climbs net level hs
    → IsApart hs
climbs_apart net level u w [] p c = tt
climbs_apart net level u w (h ∷ hs) p c = (
  above_apart net level h (head_of net h) w hs c.0 (omega arith) p.2 c.1,
  climbs_apart net level (head_of net h) w hs p.2 c.1,
)

-- d is pushed from a node u
module _ (net : Net) (s t : ℕ → Bool) (xs : List ℕ) (d u : ℕ) where
  -- what waits at the beginning of a path waits at its end after pushes along it
  pub moved_along : (v w : ℕ) (hs ys : List ℕ) → IsPath net v hs w → IsApart hs → HasRoom net ys d hs
      → IsMoved net s t xs d u v ys → IsMoved net s t xs d u w (push_all ys hs d)
  moved_along v w [] ys p a r m = subst (λ z. IsMoved net s t xs d u z ys) p m
  moved_along v w (h ∷ hs) ys p a r m =
      moved_along (head_of net h) w hs (pushed ys h d) p.2 a.1 (room_after net ys h d d hs a.0 r.1)
      (moved_on net s t xs d u h ys p.0 r.0 (subst (λ z. IsMoved net s t xs d u z ys) (sym p.1) m))

  -- from a source to a sink: a flow whose value is larger by d
  pub augmented : (w : ℕ) (hs : List ℕ) → IsFeasible net s t xs → s u ≡ true → t w ≡ true → s w ≡ false
      → IsPath net u hs w → IsApart hs → HasRoom net xs d hs
      → IsFeasible net s t (push_all xs hs d) × IsMoreBy net s xs d (push_all xs hs d)
  augmented w hs f su tw sw p a r =
      let m = moved_along u w hs xs p a r (moved_nothing net s t xs d u f) in (
        moved_feasible net s t xs d u w (push_all xs hs d) su tw m,
        moved_value net s t xs d u w (push_all xs hs d) su sw m,
      )

-- self-loops stay empty along a path that climbs
pub no_loops_climbed : (net : Net) (level : ℕ → ℕ) (xs : List ℕ) (d : ℕ) (hs : List ℕ) → Climbs net level hs
    → HasNoLoops net xs → HasNoLoops net (push_all xs hs d)
no_loops_climbed net level xs d [] c z = z
no_loops_climbed net level xs d (h ∷ hs) c z =
    no_loops_climbed net level (pushed xs h d) d hs c.1
    (no_loops_pushed net xs h d (λ e. let same = ap level e in omega (arith, c.0, same)) z)
