-- `edge_connectivity`: the connectivity of the network with capacities of 1 is by the laws of connectivity that of the
-- problem's network.
use Rattle.std.proofs.Common.{◌≡◌, ℕ, true, false, Bool, Result, Ok, Err, IfOk, ◌∙◌}
use Rattle.flow_net.specs.NodeSets.{one_of, IsLeastOver}
use Rattle.flow_net.specs.LeastCuts.{IsConnectivity, IsPairConnectivity}
use Rattle.flow_tools.specs.connecting.Counts.{counted}
use Rattle.flow_tools.specs.running.Answers.{IsSeparating}
use Rattle.flow_tools.proofs.connecting.ConnectAnswers.{unit_capacities, connectivity_of}
use Rattle.flow_tools.proofs.connecting.answers.edge_connectivity.Goals as goal

pub solve_connectivity-requires-clause-unit : goal.solve_connectivity-requires-clause-unit
solve_connectivity-requires-clause-unit c = unit_capacities _ c.in_ok-net.net c.in_ok-net.ensures

pub returns : goal.returns
returns c =
    let p = c.args.network in
    let made = c.in_ok-net.net in
    let pair = c.args.pair in
    let parts = c.into_parts-net.ensures in
    let e = c.solve_connectivity.ensures in
    either (IsPairConnectivity made (one_of c.deref.result.now) (one_of c.deref-2.result.now)) (IsConnectivity made)
    (IsLeastOver (IsSeparating p pair) (counted c.args.undirected p.net)) pair
    (λ k by_pair whole. connectivity_of p made c.deref.result.now c.deref-2.result.now
    (c.deref.ensures.value ∙ parts.sources) (c.deref-2.ensures.value ∙ parts.sinks) c.args.undirected pair k
    (rw parts.net at c.in_ok-net.ensures) by_pair whole)
    c.solve_connectivity.result e.pair e.whole
  where
    either : {E : Type 0} (P Q R : ℕ → Type 0) (b : Bool) → ((k : ℕ) → (b ≡ true → P k) → (b ≡ false → Q k) → R k)
        → (r : Result ℕ E) → (b ≡ true → IfOk r P) → (b ≡ false → IfOk r Q) → IfOk r R
    either P Q R b all (Ok k) p q = all k p q
    either P Q R b all (Err e) p q = tt
