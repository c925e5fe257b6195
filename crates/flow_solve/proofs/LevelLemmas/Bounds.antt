-- The numbers of the step bound.
use Rattle.std.proofs.Common.{◌≡◌, ℕ, ◌+◌, ◌*◌, ◌≤◌, ◌<◌, arith}
use Rattle.std.proofs.lemmas.Nat.{mul-le}

-- The walk so far took `steps`, and its path has d half-arcs. To fill the half-arcs on which something remains costs at
-- most `filling`; `falling` half-arcs are left.
pub record IsPaid (total steps d filling falling : ℕ) : Type 0 where
  pub paid : steps + filling + falling ≤ total + d

-- a half-arc was found, after some looks that failed
pub paid_advance : {total steps steps' d filling falling filling' falling' : ℕ} → filling' ≤ filling
    → steps' + falling' ≤ steps + falling + 1 → IsPaid total steps d filling falling
    → IsPaid total steps' (d + 1) filling' falling'
paid_advance a b p = record {
  paid = omega (arith, a, b, p.paid);
}

-- none was, and the walk goes back by one
pub paid_retreat : {total steps steps' d filling falling filling' : ℕ} (falling' : ℕ) {falling'' : ℕ}
    → filling' ≤ filling → steps' + falling' ≤ steps + falling → falling'' < falling'
    → IsPaid total steps (d + 1) filling falling → IsPaid total steps' d filling' falling''
paid_retreat falling' l a b p = record {
  paid = omega (arith, l, a, b, p.paid);
}

-- from a path of d back to one of e
pub paid_augment : {total steps : ℕ} (more : ℕ) {d e : ℕ} (cost : ℕ) {filling filling' falling : ℕ}
    → more + d ≤ cost + e → filling' + cost ≤ filling → IsPaid total steps d filling falling
    → IsPaid total (steps + more) e filling' falling
paid_augment more cost l a p = record { paid = omega (arith, l, a, p.paid) }

-- a whole phase, without its search
pub phase_paid : (m cost start steps filling falling owed : ℕ) → filling ≤ cost * m → falling ≤ m
    → steps + owed ≤ start + (filling + falling) → steps ≤ start + cost * m + m
phase_paid m cost start steps filling falling owed a b p = omega (arith, a, b, p)

-- the run: as many phases as there may be, and one search more
pub run_paid : (n m reach phases start steps : ℕ) → n ≡ reach + 1 → 1 ≤ reach → phases ≤ reach
    → steps ≤ start + phases * (3 * reach * m + 3 * m) + 2 * m → steps ≤ start + 3 * n * n * m
run_paid n m reach phases start steps e o l s =
    let a = mul-le phases (3 * reach * m + 3 * m) reach (3 * reach * m + 3 * m) l (omega arith) in
    rw e (widen reach m start steps (omega (arith, a)))
  where
    widen : (r m start steps : ℕ) → steps ≤ start + r * (3 * r * m + 3 * m) + 2 * m
        → steps ≤ start + 3 * (r + 1) * (r + 1) * m
    widen r m start steps h = omega arith
