-- The connectivity by solves round a circle of all nodes. Round it no set with fewer arcs out of it than the least
-- value has a node inside whose next is outside: so it has all nodes or none.
use Rattle.std.proofs.Common.{◌≡◌, ℕ, ◌+◌, ◌-◌, ◌*◌, ◌≤◌, ◌<◌, ◌⊎◌, Bool, true, false}
use Rattle.std.proofs.Common.{eqb, [], ◌∷◌, refl, ◌∙◌, sym, ap, inl, inr, eq-eqb, arith}
use Rattle.std.proofs.Math.Nat.{mul-le-mul_right}
use Rattle.std.proofs.lemmas.Bool.{cases_Bool, cases_eq, cases_lt, false≢true, ne_eqb}
use Rattle.flow_net.specs.Nets.{Net, IsNode}
use Rattle.flow_net.specs.NodeSets.{one_of}
use Rattle.flow_net.specs.Cuts.{IsCut}
use Rattle.flow_net.specs.Connectivity.{leaving, IsProper}
use Rattle.flow_net.specs.LeastCuts.{IsConnectivity, IsPairConnectivity}

-- ---- pairs of nodes

-- the set of a list of one node
only_one : (u v : ℕ) → one_of (u ∷ []) v ≡ true → v ≡ u
only_one u v h = elim (cases_eq u v) [
  | inl e ↦ sym e
  | inr n ↦ (let p : eqb u v ≡ false = ne_eqb u v n in absurd (false≢true (rw p at h)))
]

the_one : (u : ℕ) → one_of (u ∷ []) u ≡ true
the_one u = let p : eqb u u ≡ true = eq-eqb u u refl in rw p refl

-- a set that has one node and not another is a cut of the two, and a cut of two nodes is neither empty nor all
cut_of_pair : (u v : ℕ) (X : ℕ → Bool) → X u ≡ true → X v ≡ false → IsCut (one_of (u ∷ [])) (one_of (v ∷ [])) X
cut_of_pair u v X i o = record {
  sources = λ w h. ap X (only_one u w h) ∙ i;
  sinks = λ w h. ap X (only_one v w h) ∙ o;
}

pub pair_is_proper : (net : Net) (u v k : ℕ) → IsNode net u → IsNode net v
    → IsPairConnectivity net (one_of (u ∷ [])) (one_of (v ∷ [])) k
    → (X : ℕ → Bool) × IsProper net X × (leaving net X ≡ k)
pair_is_proper net u v k a b p =
    let cut = p.reached.1 in (
      p.reached.0,
      record { inside = (u, a.0, a.1, cut.sources u (the_one u)); outside = (v, b.0, b.1, cut.sinks v (the_one v)) },
      p.reached.2,
    )

-- ---- round the circle

-- The circle has been gone round from the last node to the one before v. A set with fewer than k arcs out of it that
-- has the last node has all nodes so far; and one that has any of those from 1 on has the one before v.
pub record IsRound (net : Net) (k before v : ℕ) : Type 0 where
  pub from_last : (X : ℕ → Bool) → leaving net X < k → X net.nodes ≡ true → (w : ℕ) → 1 ≤ w → w < v → X w ≡ true
  pub still_last : (X : ℕ → Bool) → leaving net X < k → X net.nodes ≡ true → X before ≡ true
  pub up_to : (X : ℕ → Bool) → leaving net X < k → (w : ℕ) → 1 ≤ w → w < v → X w ≡ true → X before ≡ true

pub round_on : (net : Net) (k m before v value : ℕ) → k ≤ m → k ≤ value → IsRound net m before v
    → IsPairConnectivity net (one_of (before ∷ [])) (one_of (v ∷ [])) value → IsRound net k v (v + 1)
round_on net k m before v value low lower r p = record {
  from_last = λ X few h w a l. elim (cases_eq w v) [
    | inl e ↦ ap X e ∙ next X few (r.still_last X (omega (arith, few, low)) h)
    | inr n ↦ r.from_last X (omega (arith, few, low)) h w a (omega arith)
  ];
  still_last = λ X few h. next X few (r.still_last X (omega (arith, few, low)) h);
  up_to = λ X few w a l h. elim (cases_eq w v) [
    | inl e ↦ sym (ap X e) ∙ h
    | inr n ↦ next X few (r.up_to X (omega (arith, few, low)) w a (omega arith) h)
  ];
}
  where
    next : (X : ℕ → Bool) → leaving net X < k → X before ≡ true → X v ≡ true
    next X few i = elim (cases_Bool (X v)) [
      | inl in_ ↦ in_
      | inr out ↦ absurd (omega (arith, few, lower, p.least X (cut_of_pair before v X i out)))
    ]

pub connected_around : (net : Net) (k before v : ℕ) → before ≡ net.nodes → v ≡ net.nodes + 1
    → ((X : ℕ → Bool) × IsProper net X × (leaving net X ≡ k)) → IsRound net k before v → IsConnectivity net k
connected_around net k before v e f reached r = record {
  reached = reached;
  least = λ X p. elim (cases_lt (leaving net X) k) [
    | inr least ↦ least
    | inl few ↦
        let a = p.inside in
        let b = p.outside in
        let last = sym (ap X e) ∙ r.up_to X few a.0 a.1 (omega (arith, a.2, f)) a.3 in
        absurd (false≢true (sym b.3 ∙ r.from_last X few last b.0 b.1 (omega (arith, b.2, f))))
  ];
}

-- ---- steps

-- one solve more on the way round
pub around_steps : (s a b v k : ℕ) → 1 ≤ v → a ≤ s + (v - 1) * k → b ≤ a + k → b ≤ s + (v + 1 - 1) * k
around_steps s a b v k l h r = grind arith

-- the steps of the forests with those of the way round, within the bound: of two nodes the forests get none
pub both_steps : (n b s : ℕ) → 2 ≤ n → (s ≡ 0) ⊎ ((2 < n) × (s ≤ b)) → s + n * b ≤ 2 * (n - 1) * b
both_steps n b s l h = elim h [
  | inl none ↦ let two : n ≤ 2 * (n - 1) = omega arith in omega (arith, none, mul-le-mul_right b two)
  | inr some ↦
      let three : n + 1 ≤ 2 * (n - 1) = omega (arith, some.0) in
      omega (arith, some.1, one_more n b, mul-le-mul_right b three)
]
  where
    one_more : (n b : ℕ) → (n + 1) * b ≡ b + n * b
    one_more n b = grind arith
