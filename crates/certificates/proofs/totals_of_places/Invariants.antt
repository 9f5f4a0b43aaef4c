-- `certificates::totals_of_places` meets its contract. The invariant: each total is that of the places passed (OverPlaces). So few amounts leave the high
-- word far from its ends, which is what `plus` asks.
use Rattle.certificates.proofs.OverPlaces.{initials, commits, PlacesAdded}
use Rattle.certificates.proofs.totals_of_places.Given as goal

abbrev pub invariant-loop-i : goal.invariant-loop-i
invariant-loop-i l = PlacesAdded initials l.room l.i l.initial' × PlacesAdded commits l.room l.i l.committed
