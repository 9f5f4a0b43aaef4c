-- `lookup::find_booking` meets its contract. The invariant: low and high bracket the id among the live bookings.
use Prim.Native.Nat.{◌-◌, ◌<◌}
use Rattle.room.specs.Contents.{contents_of, live_bookings, empty_booking}
use Rattle.lookup.proofs.Halving.{Bracket}
use Rattle.lookup.proofs.find_booking.Given as goal

abbrev pub invariant-loop-low : goal.invariant-loop-low
invariant-loop-low l = Bracket (λ b. b.id.0 < l.id.0) (λ b. l.id.0 < b.id.0) empty_booking (live_bookings (contents_of l.room)) l.low l.high

abbrev pub decreases-loop-low : goal.decreases-loop-low
decreases-loop-low l = l.high - l.low
