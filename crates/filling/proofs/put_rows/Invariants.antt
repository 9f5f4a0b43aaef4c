-- `filling::put_rows` meets its contract. The invariant: the room holds the rows passed, and the baseline is their committed total or M; a turn is one row
-- more (Putting), said for whichever ledger and snapshot the caller speaks of.
use mathlib.Core.Path.{◌≡◌}
use Prim.Native.Nat.{◌-◌, ◌≤◌}
use lib.ListN.{length}
use Rattle.room.specs.Room.{OfRoom}
use Rattle.snapshot_reader.specs.Standing.{OfSnapshot, Passed}
use Rattle.filling.proofs.Putting.{Put}
use Rattle.filling.proofs.put_rows.Given as goal

abbrev pub invariant-loop-at : goal.invariant-loop-at
invariant-loop-at l =
    (length l.room ≡ length l.initial.room) × (l.at ≤ length l.bytes)
    × OfRoom l.initial.room (λ L. OfSnapshot l.bytes (λ s. Passed l.bytes s.rows l.at (Put L.T L.R l.room l.baseline)))

abbrev pub decreases-loop-at : goal.decreases-loop-at
decreases-loop-at l = length l.bytes - l.at
