-- Lists of names and of nodes that undo each other.
use Rattle.std.proofs.Common.{◌≡◌, ℕ, ◌-◌, ◌≤◌, List, [], ◌∷◌, get_or, refl, ◌∙◌, ap, arith}
use Rattle.std.specs.List.{All, AllByRecursion}
use Rattle.std.proofs.lemmas.List.Elements.{All-from_get_or, recursion_from_All}
use Rattle.flow_net.specs.Nets.{Net, IsNode}
use Rattle.flow_net.specs.Namings.{AreInverse}
use Rattle.flow_net.specs.Arrangements.{named, all_named, IsNaming}

-- the other way they undo each other too
pub turned : (n : ℕ) (names nodes : List ℕ) → AreInverse n names nodes → AreInverse n nodes names
turned n names nodes inverse = record {
  names_count = inverse.nodes_count;
  nodes_count = inverse.names_count;
  of_node = inverse.of_name;
  of_name = inverse.of_node;
}

-- each name is a node, and each node a name once
pub is_naming : (net : Net) (names nodes : List ℕ) → AreInverse net.nodes names nodes → IsNaming net names
is_naming net names nodes inverse =
    let count = inverse.names_count in
    record {
      count = inverse.names_count;
      order = record {
        within = λ i l. let at = inverse.of_node i (omega arith) in (at.0, at.1);
        distinct = λ i j l k e.
            let at_i = (inverse.of_node i (omega arith)).2 in
            let at_j = (inverse.of_node j (omega arith)).2 in
            let same : get_or nodes (get_or names i 0 - 1) 0 ≡ get_or nodes (get_or names j 0 - 1) 0 =
            ap (λ w. get_or nodes (w - 1) 0) e in
            omega arith;
        stands = λ v h.
            let least = h.0 in
            let most = h.1 in
            let at = inverse.of_name (v - 1) (omega arith) in
            let at_0 = at.0 in
            let at_1 = at.1 in
            (get_or nodes (v - 1) 0 - 1, omega arith, at.2 ∙ omega arith);
      };
    }

-- and so are the names
pub names_within : (net : Net) (names nodes : List ℕ) → AreInverse net.nodes names nodes → All (IsNode net) names
names_within net names nodes inverse =
    let count = inverse.names_count in
    All-from_get_or (IsNode net) names 0 (λ i l. let at = inverse.of_node i (omega arith) in (at.0, at.1))

-- nodes under new names, and under the old ones again
all_named_twice : (n : ℕ) (names nodes : List ℕ) → AreInverse n names nodes → (vs : List ℕ)
    → AllByRecursion (λ v. (1 ≤ v) × (v ≤ n)) vs → all_named nodes (all_named names vs) ≡ vs
all_named_twice n names nodes inverse [] h = refl
all_named_twice n names nodes inverse (v ∷ vs) h =
    let least = h.0.0 in
    let most = h.0.1 in
    let here : named nodes (named names v) ≡ v = (inverse.of_node (v - 1) (omega arith)).2 ∙ omega arith in
    let rest = all_named_twice n names nodes inverse vs h.1 in
    rw (here, rest) refl

pub all_named_back : (net : Net) (names nodes : List ℕ) → AreInverse net.nodes names nodes → (vs : List ℕ)
    → All (IsNode net) vs → all_named nodes (all_named names vs) ≡ vs
all_named_back net names nodes inverse vs h =
    all_named_twice net.nodes names nodes inverse vs (recursion_from_All (IsNode net) vs h)
