-- Forests from one root that have no arc in common.
use Rattle.std.proofs.Common.{◌≡◌, ℕ, ◌+◌, ◌-◌, ◌≤◌, Bool, true, false, cond, not, map, refl, ◌∙◌, sym, ap, inl, inr}
use Rattle.std.proofs.Common.{arith}
use Rattle.std.proofs.lemmas.Bool.{cases_Bool, cases_lt, eqb-true, false≢true}
use Rattle.std.proofs.lemmas.List.Sums.{sum_by-append}
use Rattle.flow_net.specs.declared.networks.Arc.{Arc}
use Rattle.flow_net.specs.Nets.{Net, IsNode}
use Rattle.flow_net.specs.Arcs.{enters}
use Rattle.flow_net.specs.Limits.{IsNet}
use Rattle.flow_net.specs.DerivedNets.{unit, reversed, both_ways}
use Rattle.flow_net.specs.NodeSets.{just}
use Rattle.flow_net.specs.Cuts.{leaves, IsCut}
use Rattle.flow_net.specs.Connectivity.{leaving, crossing, IsProper}
use Rattle.flow_net.specs.Forests.{entering, IsEntered, AreEntered, HasSpread, IsTaken, ForestSteps, turned, IsEven}
use Rattle.flow_net.specs.Forests.{IsEitherWay}
use Rattle.flow_net.specs.LeastCuts.{IsConnectivity, IsUndirectedConnectivity}
use Rattle.flow_net.proofs.KeptLimits.{IsNet-unit, IsNet-map}
use Rattle.flow_net.proofs.Cuts.{weak_duality}
use Rattle.flow_net.proofs.Connections.{capacity-unit, leaving-both_ways}
use Rattle.flow_net.proofs.Complements.{count_by_agree, leaves_others, enters_others}
use Rattle.flow_net.proofs.Complements.{leaves_reversed, enters_reversed}

-- what enters a set leaves the other nodes
pub leaving_others : (net : Net) (Y : ℕ → Bool) → leaving net (λ v. not (Y v)) ≡ entering net Y
leaving_others net Y = count_by_agree (leaves (λ v. not (Y v))) (enters Y) net.arcs (leaves_others Y)

-- what is said of a set stays so where fewer arcs are left
fewer_left : (net left rest : Net) (k c : ℕ) (Y : ℕ → Bool) → entering rest Y ≤ entering left Y
    → IsEntered net left k c Y → IsEntered net rest k c Y
fewer_left net left rest k c Y h e = elim e [
  | inl m ↦ inl (omega (arith, m, h))
  | inr a ↦ inr a
]

-- and with less k
lowered : (net left : Net) (j k c : ℕ) (Y : ℕ → Bool) → j ≤ k → IsEntered net left k c Y → IsEntered net left j c Y
lowered net left j k c Y h e = elim e [ inl m ↦ inl m | inr a ↦ inr (omega (arith, a, h)) ]

-- the end of an arc that was left: a set that has it has the arc's beginning too, or is entered by the arc
end_entered : (net left rest : Net) (r k c : ℕ) (a : Arc) (done Y : ℕ → Bool) → HasSpread net left r k c done
    → IsNode net a.dst → done a.src ≡ true → IsTaken a left rest → Y a.dst ≡ true → Y r ≡ false
    → IsEntered net rest k (c + 1) Y
end_entered net left rest r k c a done Y g n d t b e = elim (cases_Bool (Y a.src)) [
  | inl in_ ↦ fewer_left net left rest k (c + 1) Y (omega (arith, t Y)) (g.reached Y a.src d in_ e)
  | inr out ↦
      let one : ◌≡◌ {A = ℕ} (cond (enters Y a) 1 0) 1 = rw (b, out) refl in
      elim (g.earlier.entered Y a.dst n b e) [
        | inl few ↦ inl (omega (arith, few, t Y, one))
        | inr all ↦ inr all
      ]
]

-- a node that k arcs or more part from those it has come to: a set that has it has one of these, or is entered by k
joined_entered : (net left : Net) (r k c w : ℕ) (done Y : ℕ → Bool) → HasSpread net left r k c done
    → ((X : ℕ → Bool) → IsCut done (just w) X → k ≤ leaving net X) → Y w ≡ true → Y r ≡ false
    → IsEntered net left k (c + 1) Y
joined_entered net left r k c w done Y g h i e = elim (cases_lt (entering net Y) k) [
  | inr all ↦ inr all
  | inl below ↦ elim (cases_lt (entering net Y) (entering left Y + (c + 1))) [
    | inr more ↦ inl more
    | inl few ↦
        let none : (v : ℕ) → done v ≡ true → Y v ≡ false = λ v d. elim (cases_Bool (Y v)) [
          | inl both ↦
              elim (g.reached Y v d both e) [
                | inl more ↦ absurd (omega (arith, few, more))
                | inr all ↦ absurd (omega (arith, below, all))
              ]
          | inr out ↦ out
        ] in
        inr (omega (
          arith,
          h (λ v. not (Y v)) (record {
            sources = λ v d. ap not (none v d);
            sinks = λ v d. ap not (ap Y (eqb-true v w d) ∙ i);
          }),
          leaving_others net Y,
        ))
  ]
]

-- the steps of the law
pub forest_steps : (net : Net) (r : ℕ) → IsNet net → ForestSteps net r
forest_steps net r n = record {
  start = λ k left h. record { entered = λ Y v m i o. inl (omega (arith, h Y)) };
  begin = λ k c left done g only. record {
    earlier = g;
    reached = λ Y v d i o. absurd (false≢true (sym o ∙ sym (ap Y (only v d)) ∙ i));
  };
  along = λ k c left rest a done next g m d t s. record {
    earlier = record {
      entered = λ Y v n i o. fewer_left net left rest k c Y (omega (arith, t Y)) (g.earlier.entered Y v n i o);
    };
    reached = λ Y v h b e. elim (s v h) [
      | inl there ↦ end_entered net left rest r k c a done Y g m d t (sym (ap Y there) ∙ b) e
      | inr old ↦ fewer_left net left rest k (c + 1) Y (omega (arith, t Y)) (g.reached Y v old b e)
    ];
  };
  joined = λ k c w left done next g h t. record {
    earlier = g.earlier;
    reached = λ Y v a b e. elim (t v a) [
      | inl there ↦ joined_entered net left r k c w done Y g h (sym (ap Y there) ∙ b) e
      | inr old ↦ g.reached Y v old b e
    ];
  };
  by_flow = λ k w done xs f v X c.
      omega (arith, v, weak_duality (unit net) done (just w) X xs (IsNet-unit net n) f c, capacity-unit net X);
  lower = λ j k c left done g h. record {
    earlier = record { entered = λ Y v m i o. lowered net left j k c Y h (g.earlier.entered Y v m i o) };
    reached = λ Y v d i o. lowered net left j k (c + 1) Y h (g.reached Y v d i o);
  };
  complete = λ k c left done g all. record { entered = λ Y v m i o. g.reached Y v (all v m) i o };
}

-- c forests, and each set without the root is entered by so many arcs, or by k
pub entered_enters : (net left : Net) (r k c j : ℕ) → j ≤ c → j ≤ k → AreEntered net left r k c
    → (Y : ℕ → Bool) (v : ℕ) → IsNode net v → Y v ≡ true → Y r ≡ false → j ≤ entering net Y
entered_enters net left r k c j l h g Y v n i o = elim (g.entered Y v n i o) [
  | inl m ↦ omega (arith, l, m)
  | inr a ↦ omega (arith, a, h)
]

-- and each other set but that of all nodes is left by so many
entered_leaves : (net left : Net) (r k c : ℕ) → c ≤ k → AreEntered net left r k c → (X : ℕ → Bool)
    → IsProper net X → X r ≡ true → c ≤ leaving net X
entered_leaves net left r k c l g X p i =
    let v = p.outside.0 in
    let o : X v ≡ false = p.outside.3 in
    omega (
      arith,
      entered_enters net left r k c c (omega arith) l g (λ w. not (X w)) v (p.outside.1, p.outside.2) (ap not o)
          (ap not i),
      count_by_agree (enters (λ w. not (X w))) (leaves X) net.arcs (enters_others X),
    )

-- where as many arcs leave each set as enter it, that is each proper set
pub leaving_by_forests : (net left : Net) (r k c : ℕ) → c ≤ k → AreEntered net left r k c
    → IsEitherWay net → (X : ℕ → Bool) → IsProper net X → c ≤ leaving net X
leaving_by_forests net left r k c l g same X p = elim (cases_Bool (X r)) [
  | inl i ↦ entered_leaves net left r k c l g X p i
  | inr o ↦
      let v = p.inside in
      omega (arith, entered_enters net left r k c c (omega arith) l g X v.0 (v.1, v.2) v.3 o, same X)
]

-- so it is in a network both ways, where as many arcs leave a set as enter it, and as cross it
both_either : (net : Net) → IsEitherWay (both_ways net)
both_either net X =
    omega (
      arith,
      sum_by-append (λ b. cond (leaves X b) 1 0) net.arcs (map reversed net.arcs),
      sum_by-append (λ b. cond (enters X b) 1 0) net.arcs (map reversed net.arcs),
      leaves_reversed X net.arcs,
      enters_reversed X net.arcs,
    )

pub crossing_by_forests : (net left : Net) (r k c : ℕ) → c ≤ k → AreEntered (both_ways net) left r k c
    → (X : ℕ → Bool) → IsProper net X → c ≤ crossing net X
crossing_by_forests net left r k c l g X p =
    omega (
      arith,
      leaving_by_forests (both_ways net) left r k c l g (both_either net) X
          (record { inside = p.inside; outside = p.outside }),
      leaving-both_ways net X,
    )

-- what enters a set in the network turned round leaves it, and what leaves it there enters it
pub entering-turned : (net : Net) (X : ℕ → Bool) → entering (turned net) X ≡ leaving net X
entering-turned net X = enters_reversed X net.arcs

pub leaving-turned : (net : Net) (X : ℕ → Bool) → leaving (turned net) X ≡ entering net X
leaving-turned net X = leaves_reversed X net.arcs

pub IsNet-turned : (net : Net) → IsNet net → IsNet (turned net)
IsNet-turned net h =
    IsNet-map net reversed h (λ a w.
    record {
      src_least = w.dst_least;
      src_most = w.dst_most;
      dst_least = w.src_least;
      dst_most = w.src_most;
      cap_fits = w.cap_fits;
    })

-- where c forests are done in it and in the network, each proper set is left by so many
pub leaving_by_both : (net left other : Net) (r k c : ℕ) → c ≤ k → AreEntered net left r k c
    → AreEntered (turned net) other r k c → (X : ℕ → Bool) → IsProper net X → c ≤ leaving net X
leaving_by_both net left other r k c l g t X p = elim (cases_Bool (X r)) [
  | inl i ↦ entered_leaves net left r k c l g X p i
  | inr o ↦
      let v = p.inside in
      omega (
        arith,
        entered_enters (turned net) other r k c c (omega arith) l t X v.0 (v.1, v.2) v.3 o,
        entering-turned net X,
      )
]

-- so k is the connectivity, where it is reached
pub connected_by_forests : (net left : Net) (r k : ℕ) (X : ℕ → Bool) → IsProper net X
    → (AreEntered (both_ways net) left r k k → crossing net X ≡ k → IsUndirectedConnectivity net k)
    × (AreEntered net left r k k → (other : Net) → AreEntered (turned net) other r k k → leaving net X ≡ k
    → IsConnectivity net k)
    × (AreEntered net left r k k → IsEitherWay net → leaving net X ≡ k → IsConnectivity net k)
    × (AreEntered net left r k (k - 1) → IsEitherWay net → ((Y : ℕ → Bool) → IsEven (leaving net Y))
    → leaving net X ≡ k → IsConnectivity net k)
connected_by_forests net left r k X p =
    let l : k ≤ k = omega arith in (
      (λ g e. record { reached = (X, p, e); least = crossing_by_forests net left r k k l g }),
      (λ g other t e. record { reached = (X, p, e); least = leaving_by_both net left other r k k l g t }),
      (λ g same e. record { reached = (X, p, e); least = leaving_by_forests net left r k k l g same }),
      (λ g same even e. record {
        reached = (X, p, e);
        least = λ Y q.
            (let a = even X in
            let b = even Y in
            omega (arith, a.1, b.1, e, leaving_by_forests net left r k (k - 1) (omega arith) g same Y q));
      }),
    )
