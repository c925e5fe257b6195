-- Pushes that are still to be made along a path.
use Rattle.std.proofs.Common.{◌≡◌, ℕ, ◌+◌, ◌*◌, ◌<◌, List, ◌∷◌, length, get_or, drop, drop-cons, add-one}
use Rattle.std.specs.List.{AllByRecursion}
use Rattle.flow_net.specs.Nets.{Net}
use Rattle.flow_net.specs.Flows.{Fits}
use Rattle.flow_net.specs.Residual.{pushed}
use Rattle.flow_net.specs.Paths.{HasRoom, IsApart, push_all}
use Rattle.flow_net.proofs.Pushes.{fits_pushed}
use Rattle.flow_net.proofs.AugmentingPaths.{room_after}

-- the rest of a path along which pushes are still to be made
pub record IsAhead (net : Net) (start path : List ℕ) (d : ℕ) (xs rest : List ℕ) : Type 0 where
  pub fits : Fits net xs
  pub halves : AllByRecursion (λ h. h < 2 * length net.arcs) rest
  pub apart : IsApart rest
  pub room : HasRoom net xs d rest
  pub ends : push_all xs rest d ≡ push_all start path d

module _ {net : Net} {start path : List ℕ} {d : ℕ} (xs : List ℕ) where
  over_one : (h : ℕ) (rest : List ℕ) → IsAhead net start path d xs (h ∷ rest)
      → IsAhead net start path d (pushed xs h d) rest
  over_one h rest a = record {
    fits = fits_pushed net xs h d a.halves.0 a.room.0 a.fits;
    halves = a.halves.1;
    apart = a.apart.1;
    room = room_after net xs h d d rest a.apart.0 a.room.1;
    ends = a.ends;
  }

  pub ahead_here : (i : ℕ) → i < length path → IsAhead net start path d xs (drop i path)
      → IsAhead net start path d xs (get_or path i 0 ∷ drop (i + 1) path)
  ahead_here i l a = rw (add-one, ← drop-cons path i 0 l) a

  pub ahead_more : (i : ℕ) → i < length path → IsAhead net start path d xs (drop i path)
      → IsAhead net start path d (pushed xs (get_or path i 0) d) (drop (i + 1) path)
  ahead_more i l a = over_one (get_or path i 0) (drop (i + 1) path) (ahead_here i l a)
