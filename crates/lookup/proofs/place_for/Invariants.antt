-- `lookup::place_for` meets its contract. The invariant: every name passed comes before the new one.
use mathlib.Core.Path.{◌≡◌}
use Prim.Native.Nat.{Ordering}
use Prim.Native.Nat.{ℕ, ◌<◌}
use lib.ListN.{get_or}
use Rattle.rules.specs.RoomAndSoundLedger.{order}
use Rattle.names.specs.Names.{spelled}
use Rattle.room.specs.Contents.{contents_of, used_places}
use Rattle.lookup.proofs.Places.{no_place}
use Rattle.lookup.proofs.place_for.Given as goal

abbrev pub invariant-loop-i : goal.invariant-loop-i
invariant-loop-i l = (k : ℕ) → k < l.i → order (spelled (get_or (used_places (contents_of l.room)) k no_place).name) l.part ≡ Ordering.lt
