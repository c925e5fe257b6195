-- A search while its queue is worked off, and at its end.
use Rattle.std.proofs.Common.{◌⊎◌, ◌≡◌, ℕ, ◌+◌, ◌-◌, ◌*◌, ◌≤◌, ◌<◌, Bool, IsTrue, List, length, get_or, ap, subst, inl}
use Rattle.std.proofs.Common.{inr, arith}
use Rattle.std.proofs.lemmas.Bool.{cases_lt}
use Rattle.flow_net.specs.Nets.{Net}
use Rattle.flow_net.specs.NodeSets.{one_of}
use Rattle.flow_solve.specs.declared.residual.half_arcs.Direction.{Direction}
use Rattle.flow_solve.specs.residual.Packs.{IsPacked}
use Rattle.flow_solve.specs.residual.Searches.{IsMarked, ContainsMarked, ContainsAll, IsQueue, IsNear, IsCome}
use Rattle.flow_solve.specs.residual.HalfArcs.{IsClosedFor}
use Rattle.flow_solve.specs.residual.Searches.{IsDone, IsSearched, queued}
use Rattle.flow_solve.proofs.ResidualLemmas.Queues.{queue_short, queue_most, queued_rises, total_ranges}

-- the places in the first cells of the queue are done
pub record IsSwept (net : Net) (flows : List ℕ) (dir : Direction) (starts dist via queue : List ℕ) (tail at : ℕ)
    : Type 0 where
  pub cells : length dist ≡ net.nodes
  pub begun : at ≤ tail
  pub order : IsQueue dist queue tail
  pub near : at < tail → IsNear dist (get_or dist (get_or queue at 0) 0 + 1)
  pub entered : (i : ℕ) → i < length starts → IsMarked dist (get_or starts i 0 - 1)
  pub zeros : (i : ℕ) → i < length starts → get_or dist (get_or starts i 0 - 1) 0 ≡ 0
  pub done : (i : ℕ) → i < at → IsDone net flows dir dist (get_or queue i 0)
  pub come : (p : ℕ) → p < net.nodes → IsMarked dist p
      → ((get_or dist p 0 ≡ 0) × IsTrue (one_of starts (p + 1))) ⊎ IsCome net flows dir dist via p
  pub only : (side : ℕ → Bool) → ContainsAll starts side → IsClosedFor dir net flows side
      → ContainsMarked net.nodes dist side

module _ {net : Net} {flows : List ℕ} {dir : Direction} {starts dist via queue : List ℕ} {tail at : ℕ}
    (s : IsSwept net flows dir starts dist via queue tail at) where
  pub searched : IsSearched net flows dir starts dist via
  searched = record {
    size = s.cells;
    begun = s.entered;
    zeros = s.zeros;
    come = s.come;
    levels = λ p l m.
        let r = s.order.levels p (omega (arith, s.cells)) m in
        let short = queue_short dist queue tail s.order in
        omega (arith, s.cells);
    even = λ p l m. let w = s.order.waits p (omega (arith, s.cells)) m in elim (cases_lt w.0 at) [
      | inl early ↦ inl (subst (IsDone net flows dir dist) w.2 (s.done w.0 early))
      | inr late ↦ inr (λ q marked.
          let r = s.near (omega (arith, w.1)) q marked in let o = s.order.rises at w.0 late w.1 in
          let here : get_or dist (get_or queue w.0 0) 0
          ≡ get_or dist p 0 = ap (λ i. get_or dist i 0) w.2 in omega arith)
    ];
    least = s.only;
  }

  -- at the end of the queue every marked place is done
  pub all_done : tail ≤ at → (p : ℕ) → p < net.nodes → IsMarked dist p → IsDone net flows dir dist p
  all_done end p l m =
      let w = s.order.waits p (omega (arith, s.cells)) m in
      subst (IsDone net flows dir dist) w.2 (s.done w.0 (omega (arith, w.1)))

-- the half-arcs of the places in the queue are no more than all
pub queued_halves : {net : Net} {first halves dist queue : List ℕ} {tail : ℕ} (at : ℕ) → IsPacked net first halves
    → length dist ≡ net.nodes → IsQueue dist queue tail → at ≤ tail
    → queued (λ v. get_or first (v + 1) 0 - get_or first v 0) queue at ≤ 2 * length net.arcs
queued_halves {first} {dist} {queue} {tail} at packed cells q l =
    let some = queued_rises (λ v. get_or first (v + 1) 0 - get_or first v 0) queue at tail l in
    let most = queue_most (λ v. get_or first (v + 1) 0 - get_or first v 0) dist queue tail q in
    let all = total_ranges first (length dist) (λ v m. packed.rises v (omega (arith, m))) in
    let last = packed.most (length dist) (omega arith) in omega arith
