-- Augmenting paths (Ford and Fulkerson 1956).
use Rattle.std.specs.Prelude.{◌≡◌, ◌≢◌, ℕ, ◌+◌, ◌*◌, ◌/◌, ◌≤◌, ◌<◌, Bool, List, [], ◌∷◌, length, ⊤}
use Rattle.std.specs.List.{AllByRecursion}
use Rattle.flow_net.specs.Nets.{Net}
use Rattle.flow_net.specs.Flows.{out_of, into}
use Rattle.flow_net.specs.Residual.{tail_of, head_of, residual, pushed}

-- a path of half-arcs from one node to another
abbrev pub IsPath : Net → ℕ → List ℕ → ℕ → Type 0
IsPath net u [] w = u ≡ w
IsPath net u (h ∷ hs) w = (h < 2 * length net.arcs) × (tail_of net h ≡ u) × IsPath net (head_of net h) hs w

-- each half-arc of a list has so much residual capacity
abbrev pub HasRoom : Net → List ℕ → ℕ → List ℕ → Type 0
HasRoom net xs d hs = AllByRecursion (λ h. d ≤ residual net xs h) hs

-- no two half-arcs of a list are of one arc
abbrev pub IsApart : List ℕ → Type 0
IsApart [] = ⊤
IsApart (h ∷ hs) = AllByRecursion (λ g. g / 2 ≢ h / 2) hs × IsApart hs

-- the flow after a push of d through each half-arc of a list, in turn
abbrev pub push_all : List ℕ → List ℕ → ℕ → List ℕ
push_all xs [] d = xs
push_all xs (h ∷ hs) d = push_all (pushed xs h d) hs d

-- the value of ys is that of xs and d more
abbrev pub IsMoreBy : Net → (ℕ → Bool) → List ℕ → ℕ → List ℕ → Type 0
IsMoreBy net s xs d ys = out_of s net.arcs ys + into s net.arcs xs ≡ d + out_of s net.arcs xs + into s net.arcs ys
