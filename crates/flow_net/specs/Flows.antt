-- Feasible flows and their values (Ford and Fulkerson 1956). A flow is a list of numbers, one for each arc in order.
use Rattle.std.specs.Prelude.{◌≡◌, ℕ, ◌+◌, ◌≤◌, ◌<◌, Bool, List, [], ◌∷◌, length, slice_index, IsFalse, if◌then◌else◌}
use Rattle.flow_net.specs.declared.networks.Arc.{Arc}
use Rattle.flow_net.specs.Nets.{Net, arc_at}
use Rattle.flow_net.specs.NodeSets.{just}

-- the sum of a flow over the arcs that pass a test
abbrev pub flow_over : (Arc → Bool) → List Arc → List ℕ → ℕ
flow_over p [] xs = 0
flow_over p (a ∷ arcs) [] = 0
flow_over p (a ∷ arcs) (x ∷ xs) = (if p a then x else 0) + flow_over p arcs xs

-- what leaves the nodes of a set: the flow on the arcs that begin in it
abbrev pub out_of : (ℕ → Bool) → List Arc → List ℕ → ℕ
out_of X arcs xs = flow_over (λ a. X a.src) arcs xs

-- what enters the nodes of a set: the flow on the arcs that end in it
abbrev pub into : (ℕ → Bool) → List Arc → List ℕ → ℕ
into X arcs xs = flow_over (λ a. X a.dst) arcs xs

-- a number for each arc, at most its capacity
pub record Fits (net : Net) (xs : List ℕ) : Type 0 where
  pub count : length xs ≡ length net.arcs
  pub within : (i : ℕ) → i < length net.arcs → slice_index xs i ≤ (arc_at net i).cap

-- a flow within the capacities that enters each node which is no terminal as much as it leaves it
pub record IsFeasible (net : Net) (s t : ℕ → Bool) (xs : List ℕ) : Type 0 where
  pub fits : Fits net xs
  pub conserved : (v : ℕ) → 1 ≤ v → v ≤ net.nodes → IsFalse (s v) → IsFalse (t v)
      → into (just v) net.arcs xs ≡ out_of (just v) net.arcs xs

-- the flow's value is k: what leaves the sources is k more than what enters them
abbrev pub HasValue : Net → (ℕ → Bool) → List ℕ → ℕ → Type 0
HasValue net s xs k = out_of s net.arcs xs ≡ k + into s net.arcs xs

-- k is the greatest value: some feasible flow has it, and no feasible flow's value passes it
pub record IsGreatest (net : Net) (s t : ℕ → Bool) (k : ℕ) : Type 0 where
  pub reached : (xs : List ℕ) × IsFeasible net s t xs × HasValue net s xs k
  pub most : (xs : List ℕ) → IsFeasible net s t xs → out_of s net.arcs xs ≤ k + into s net.arcs xs

-- no self-loop carries flow
abbrev pub HasNoLoops : Net → List ℕ → Type 0
HasNoLoops net xs = (i : ℕ) → i < length net.arcs → (arc_at net i).src ≡ (arc_at net i).dst → slice_index xs i ≡ 0
