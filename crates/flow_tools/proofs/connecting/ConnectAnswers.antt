-- The connectivity of a problem's network, from that of the network in which a flow counts arcs.
use Rattle.std.proofs.Common.{◌≡◌, ℕ, Bool, true, false, cond, List, refl, sym, subst}
use Rattle.std.proofs.Common.{◌++◌, map, ap, ◌∙◌}
use Rattle.std.proofs.lemmas.List.{map-append}
use Rattle.std.proofs.lemmas.Simd.{map-map}
use Rattle.std.specs.List.{All}
use Rattle.std.proofs.lemmas.List.Elements.{All-map, All-from_get_or}
use Rattle.flow_net.specs.Nets.{Net, Instance}
use Rattle.flow_net.specs.Arcs.{no_arc}
use Rattle.flow_net.specs.DerivedNets.{unit, unit_arc, reversed, both_ways}
use Rattle.flow_net.specs.NodeSets.{one_of, IsLeastOver}
use Rattle.flow_net.specs.LeastCuts.{IsConnectivity, IsPairConnectivity}
use Rattle.flow_net.proofs.Connections.{undirected, undirected_pair, connectivity_of_unit, pair_of_unit}
use Rattle.flow_tools.specs.connecting.Counts.{counted}
use Rattle.flow_tools.specs.running.Answers.{IsSeparating}

-- the connectivity that is asked for: undirected or not, and with the pair or not
abbrev pub IsConnectivityOf : Instance → Bool → Bool → ℕ → Type 0
IsConnectivityOf p undirected pair k =
    IsLeastOver (IsSeparating p pair) (counted undirected p.net) k

-- every capacity is 1
pub unit_capacities : (net made : Net) → made ≡ unit net → All (λ a. a.cap ≡ 1) made.arcs
unit_capacities net made e =
    let Ones : Net → Type 0 = λ n. All (λ a. a.cap ≡ 1) n.arcs in
    subst Ones (sym e) (All-map (λ a. a.cap ≡ 1) unit_arc net.arcs
    (All-from_get_or (λ a. (unit_arc a).cap ≡ 1) net.arcs no_arc (λ i l. refl)))

-- reverse arcs of capacity 1 are reverses of such arcs
pub unit_both_ways : (net : Net) → both_ways (unit net) ≡ unit (both_ways net)
unit_both_ways net =
    ap (λ z. record { nodes = net.nodes; arcs = map unit_arc net.arcs ++ z })
    (map-map reversed unit_arc net.arcs ∙ sym (map-map unit_arc reversed net.arcs))
    ∙ ap (λ z. record { nodes = net.nodes; arcs = z }) (sym (map-append unit_arc net.arcs (map reversed net.arcs)))

-- of all sets, and of those with the sources inside and the sinks outside; b tells whether arcs count both ways
whole_connectivity : (p : Instance) (b : Bool) (k : ℕ) → IsConnectivity (unit (cond b (both_ways p.net) p.net)) k
    → IsConnectivityOf p b false k
whole_connectivity p true k c = (undirected p.net k).0 (connectivity_of_unit (both_ways p.net) k c)
whole_connectivity p false k c = connectivity_of_unit p.net k c

pair_connectivity : (p : Instance) (b : Bool) (k : ℕ)
    → IsPairConnectivity (unit (cond b (both_ways p.net) p.net)) (one_of p.sources) (one_of p.sinks) k
    → IsConnectivityOf p b true k
pair_connectivity p true k c =
    (undirected_pair p.net (one_of p.sources) (one_of p.sinks) k).0
    (pair_of_unit (both_ways p.net) (one_of p.sources) (one_of p.sinks) k c)
pair_connectivity p false k c = pair_of_unit p.net (one_of p.sources) (one_of p.sinks) k c

module _ (p : Instance) (made : Net) (s t : List ℕ) (es : s ≡ p.sources) (et : t ≡ p.sinks) where
  -- the connectivity that is asked for, with the flags as they are
  pub connectivity_of : (b pair : Bool) (k : ℕ) → made ≡ unit (cond b (both_ways p.net) p.net)
      → (pair ≡ true → IsPairConnectivity made (one_of s) (one_of t) k)
      → (pair ≡ false → IsConnectivity made k) → IsConnectivityOf p b pair k
  connectivity_of b true k e by_pair whole =
      pair_connectivity p b k (subst (λ n. IsPairConnectivity n (one_of p.sources) (one_of p.sinks) k) e
      (subst (λ vs. IsPairConnectivity made (one_of p.sources) (one_of vs) k) et
      (subst (λ vs. IsPairConnectivity made (one_of vs) (one_of t) k) es (by_pair refl))))
  connectivity_of b false k e by_pair whole = whole_connectivity p b k (subst (λ n. IsConnectivity n k) e (whole refl))
