-- Half-arcs: their twins and their ends, in either direction.
use Rattle.std.specs.Prelude.{ℕ, ◌+◌, ◌-◌, ◌*◌, ◌%◌, ◌<◌, ◌≤◌, ◌==◌, if◌then◌else◌, Bool, IsTrue, List, length}
use Rattle.flow_net.specs.Nets.{Net}
use Rattle.flow_net.specs.Residual.{tail_of, head_of, residual}
use Rattle.flow_solve.specs.declared.residual.half_arcs.Direction.{Direction}
use Rattle.flow_solve.specs.declared.residual.half_arcs.Direction.TheVariants.{Forwards, Backwards}

-- the other half-arc of the same arc
abbrev pub twin_of : ℕ → ℕ
twin_of h = if h % 2 == 0 then h + 1 else h - 1

-- the end of a half-arc that a search comes from, and the end that it comes to
abbrev pub near_end : Direction → Net → ℕ → ℕ
near_end Forwards net h = tail_of net h
near_end Backwards net h = head_of net h

abbrev pub far_end : Direction → Net → ℕ → ℕ
far_end Forwards net h = head_of net h
far_end Backwards net h = tail_of net h

-- for a half-arc that leaves a node: the one of its arc whose near end is that node
abbrev pub crossed : Direction → ℕ → ℕ
crossed Forwards h = h
crossed Backwards h = twin_of h

-- no half-arc with a residual capacity has its near end in the set and its far end outside
abbrev pub IsClosedFor : Direction → Net → List ℕ → (ℕ → Bool) → Type 0
IsClosedFor dir net xs X = (h : ℕ) → h < 2 * length net.arcs → IsTrue (X (near_end dir net h)) → 1 ≤ residual net xs h
    → IsTrue (X (far_end dir net h))
