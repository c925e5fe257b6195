-- The least residual capacity on a path, so far.
use Rattle.std.proofs.Common.{◌≡◌, ℕ, ◌≤◌, ◌<◌, List}
use Rattle.std.specs.Prelude.{slice_index}
use Rattle.flow_net.specs.Nets.{Net}
use Rattle.flow_net.specs.Residual.{residual}

-- the least on a path so far, and where it is first met
pub record IsLeast (net : Net) (xs path : List ℕ) (place least i : ℕ) : Type 0 where
  pub at : place < i
  pub here : least ≡ residual net xs (slice_index path place)
  pub low : (j : ℕ) → j < i → least ≤ residual net xs (slice_index path j)
  pub high : (j : ℕ) → j < place → least < residual net xs (slice_index path j)
