-- Edge connectivity, by arc lines: parallel and opposite arcs count one by one, capacities and self-loops not at all.
use Rattle.std.specs.Prelude.{ℕ, ◌≤◌, Bool, not, ◌&&◌, ◌||◌, IsTrue, IsFalse}
use Rattle.std.specs.List.{count_by}
use Rattle.flow_net.specs.Nets.{Net}
use Rattle.flow_net.specs.Cuts.{leaves}

-- how many arcs leave a set
abbrev pub leaving : Net → (ℕ → Bool) → ℕ
leaving net X = count_by (leaves X) net.arcs

-- how many arcs have exactly one end in a set
abbrev pub crossing : Net → (ℕ → Bool) → ℕ
crossing net X = count_by (λ a. leaves X a || (X a.dst && not (X a.src))) net.arcs

-- some node is inside, and some node outside
pub record IsProper (net : Net) (X : ℕ → Bool) : Type 0 where
  pub inside : (v : ℕ) × (1 ≤ v) × (v ≤ net.nodes) × IsTrue (X v)
  pub outside : (v : ℕ) × (1 ≤ v) × (v ≤ net.nodes) × IsFalse (X v)
