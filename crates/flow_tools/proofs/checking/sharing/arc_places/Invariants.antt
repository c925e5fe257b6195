-- The places so far are those of the arcs so far, in order.
use Rattle.std.proofs.Common.{◌≡◌, ℕ, ◌<◌, length, get_or}
use Rattle.flow_tools.specs.checking.ArcShares.{place_of}
use Rattle.flow_tools.specs.declared.checking.sharing.ArcPlace.{ArcPlace}
use Rattle.flow_tools.proofs.checking.sharing.arc_places.Given as goal

abbrev pub invariant-loop-arc : goal.invariant-loop-arc
invariant-loop-arc l =
    (length l.places.items ≡ l.arc)
    × ((k : ℕ) (d : ArcPlace) → k < l.arc → get_or l.places.items k d ≡ place_of l.net k)
