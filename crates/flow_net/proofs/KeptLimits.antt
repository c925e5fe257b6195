-- The invariant of a network is kept.
use Rattle.std.proofs.Common.{◌≡◌, ℕ, ◌-◌, ◌≤◌, List, ◌++◌, length, map, arith, lit≤, length-append}
use Rattle.std.specs.List.{All}
use Rattle.std.proofs.lemmas.List.{length-map}
use Rattle.std.proofs.lemmas.List.Elements.{All-append, All-map, All-weaker}
use Rattle.flow_net.specs.declared.networks.Arc.{Arc}
use Rattle.flow_net.specs.declared.limits.TheConstants.{MOST_ARCS}
use Rattle.flow_net.specs.Nets.{Net, IsNode}
use Rattle.flow_net.specs.Limits.{IsNet, IsArcWithin}
use Rattle.flow_net.specs.DerivedNets.{unit_arc, reversed}
use Rattle.flow_net.specs.Arrangements.{named, renamed}

-- what is done to each arc keeps all arcs within the limits, where it keeps each
arcs-map : (n : ℕ) (f : Arc → Arc) (arcs : List Arc) → ((a : Arc) → IsArcWithin n a → IsArcWithin n (f a))
    → All (IsArcWithin n) arcs → All (IsArcWithin n) (map f arcs)
arcs-map n f arcs keeps h =
    All-map (IsArcWithin n) f arcs (All-weaker (IsArcWithin n) (λ a. IsArcWithin n (f a)) keeps arcs h)

-- and so it keeps the network's
pub IsNet-map : (net : Net) (f : Arc → Arc) → IsNet net
    → ((a : Arc) → IsArcWithin net.nodes a → IsArcWithin net.nodes (f a)) → IsNet (record net { arcs = map f net.arcs })
IsNet-map net f h keeps = let same = length-map net.arcs f in let most = h.arcs_most in record {
  nodes_least = h.nodes_least;
  nodes_most = h.nodes_most;
  arcs_most = omega arith;
  arcs_within = arcs-map net.nodes f net.arcs keeps h.arcs_within;
}

-- capacities of 1 keep it
pub IsNet-unit : (net : Net) → IsNet net → IsNet (record net { arcs = map unit_arc net.arcs })
IsNet-unit net h =
    IsNet-map net unit_arc h (λ a w.
    record {
      src_least = w.src_least;
      src_most = w.src_most;
      dst_least = w.dst_least;
      dst_most = w.dst_most;
      cap_fits = lit≤ tt;
    })

-- the reversed arcs keep it, where there is room
pub IsNet-both_ways : (net : Net) → IsNet net → length net.arcs ≤ MOST_ARCS
    → IsNet (record net { arcs = net.arcs ++ map reversed net.arcs })
IsNet-both_ways net h room =
    let same = length-map net.arcs reversed in
    let sum = length-append net.arcs (map reversed net.arcs) in
    record {
      nodes_least = h.nodes_least;
      nodes_most = h.nodes_most;
      arcs_most = omega arith;
      arcs_within =
          All-append (IsArcWithin net.nodes) net.arcs (map reversed net.arcs) h.arcs_within
          (arcs-map net.nodes reversed net.arcs (λ a w.
          record {
            src_least = w.dst_least;
            src_most = w.dst_most;
            dst_least = w.src_least;
            dst_most = w.src_most;
            cap_fits = w.cap_fits;
          }) h.arcs_within);
    }

-- an arc under other names of the nodes keeps them
pub renamed_within : (net : Net) (names : List ℕ) → length names ≡ net.nodes → All (IsNode net) names → (a : Arc)
    → IsArcWithin net.nodes a → IsArcWithin net.nodes (renamed names a)
renamed_within net names count within a w =
    let name : (v : ℕ) → 1 ≤ v → v ≤ net.nodes → IsNode net (named names v) =
    λ v least most. within (v - 1) 0 (omega arith) in
    let src = name a.src w.src_least w.src_most in
    let dst = name a.dst w.dst_least w.dst_most in
    record {
      src_least = src.0;
      src_most = src.1;
      dst_least = dst.0;
      dst_most = dst.1;
      cap_fits = w.cap_fits;
    }
