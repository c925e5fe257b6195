-- How the flow lines of a solution are shared out over the arcs.
use Rattle.std.specs.Prelude.{◌≡◌, ℕ, ◌+◌, ◌*◌, ◌<◌, ◌⊎◌, Bool, ◌==◌, ◌&&◌, List, length, slice_index, slice_index_or}
use Rattle.std.specs.Prelude.{if◌then◌else◌}
use Rattle.std.specs.List.{All, Contains}
use Rattle.std.specs.List.Sorted.{IsNonDecreasingBy}
use Rattle.flow_net.specs.Nets.{Net, arc_at, Instance}
use Rattle.flow_net.specs.Limits.{IsNet}
use Rattle.flow_net.specs.NodeSets.{one_of}
use Rattle.flow_net.specs.Flows.{flow_over, Fits, HasValue, IsGreatest}
use Rattle.flow_text.specs.declared.solutions.FlowLine.{FlowLine}
use Rattle.flow_tools.specs.checking.LineFlows.{line_flow}
use Rattle.flow_tools.specs.checking.FirstFaults.{IsFirstOver}
use Rattle.flow_tools.specs.declared.checking.sharing.ArcPlace.{ArcPlace}
use Rattle.flow_tools.specs.declared.checking.sharing.Shared.{Shared}
use Rattle.flow_tools.specs.declared.checking.sharing.Shared.TheVariants.{Flow, Over}
use Rattle.flow_tools.specs.declared.checking.sharing.TheConstants.{NODE_NUMBERS}

-- the test for one pair of nodes
abbrev pub is_pair : ℕ → ℕ → ℕ → ℕ → Bool
is_pair u v src dst = (u == src) && (v == dst)

-- a pair of nodes comes before another: by its first node, then by its second
abbrev pub IsBefore : ℕ → ℕ → ℕ → ℕ → Type 0
IsBefore u v src dst = (u < src) ⊎ ((u ≡ src) × (v < dst))

-- a number that rises with a pair of nodes: by the first, then by the second
abbrev pub pair_rank : ℕ → ℕ → ℕ
pair_rank src dst = src * NODE_NUMBERS + dst

abbrev pub place_rank : ArcPlace → ℕ
place_rank p = pair_rank p.src p.dst

abbrev pub line_rank : FlowLine → ℕ
line_rank l = pair_rank l.src l.dst

-- an arc's two nodes and its place
abbrev pub place_of : Net → ℕ → ArcPlace
place_of net i = record { src = (arc_at net i).src; dst = (arc_at net i).dst; arc = i }

-- the arcs of a network, each with its place
pub record AreArcPlaces (net : Net) (places : List ArcPlace) : Type 0 where
  pub limits : IsNet net
  pub sound : All (λ p. (p.arc < length net.arcs) × (p ≡ place_of net p.arc)) places
  pub complete : (i : ℕ) → i < length net.arcs → Contains places (place_of net i)

-- the same, in the order of their two nodes
pub record AreOrderedArcs (net : Net) (places : List ArcPlace) : Type 0 where
  pub listed : AreArcPlaces net places
  pub ordered : IsNonDecreasingBy place_rank places

-- the flow over the arcs whose two nodes pass a test
abbrev pub arc_flow : Net → (ℕ → ℕ → Bool) → List ℕ → ℕ
arc_flow net p xs = flow_over (λ a. p a.src a.dst) net.arcs xs

-- the flow carries what the lines say, over the arcs and over the lines of whatever pairs of nodes
abbrev pub Carries : Net → List FlowLine → List ℕ → Type 0
Carries net lines xs = (p : ℕ → ℕ → Bool) → arc_flow net p xs ≡ line_flow p lines

-- an amount more between two nodes: ys is xs, and so much more over the arcs from src to dst
abbrev pub HasMore : Net → List ℕ → ℕ → ℕ → ℕ → List ℕ → Type 0
HasMore net xs src dst amount ys = (p : ℕ → ℕ → Bool) → arc_flow net p ys
    ≡ arc_flow net p xs + (if p src dst then amount else 0)

-- the arc carries its capacity
abbrev pub IsFull : Net → List ℕ → ℕ → Type 0
IsFull net xs i = slice_index xs i ≡ (arc_at net i).cap

-- each place before `at` has a pair of a lesser rank, or its arc is full
abbrev pub ArePassed : Net → List ArcPlace → ℕ → ℕ → List ℕ → Type 0
ArePassed net places at rank xs = (k : ℕ) (d : ArcPlace) → k < at
    → (place_rank (slice_index_or places k d) < rank) ⊎ IsFull net xs (slice_index_or places k d).arc

-- what comes of sharing out the lines: a flow that carries them, or the least pair whose flow passes its capacity
abbrev pub IsSharedOut : Net → List FlowLine → Shared → Type 0
IsSharedOut net lines (Flow table) = Fits net table.flows × Carries net lines table.flows
IsSharedOut net lines (Over src dst) = IsFirstOver net lines src dst

-- a flow whose value is less than the greatest
abbrev pub HasLessValue : Instance → List ℕ → Type 0
HasLessValue p xs = (k : ℕ) × IsGreatest p.net (one_of p.sources) (one_of p.sinks) k
    × ((j : ℕ) → HasValue p.net (one_of p.sources) xs j → j < k)
