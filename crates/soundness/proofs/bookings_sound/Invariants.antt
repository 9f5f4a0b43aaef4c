-- `soundness::bookings_sound` meets its contract. The invariant: the bookings as a whole take what was reserved exactly if those from j on take
-- what is left.
use Rattle.std.proofs.Common.{drop}
use Rattle.records.specs.Records.{bookings}
use Rattle.soundness.specs.Steps.{Booked}
use Rattle.soundness.proofs.bookings_sound.Given as goal

abbrev pub invariant-loop-j : goal.invariant-loop-j
invariant-loop-j l =
    let whole = Booked 0 l.next_id l.sizes.used l.initial.reserved (bookings l.base l.sizes.live l.room) in
    let rest = Booked l.last l.next_id l.sizes.used l.reserved (drop l.j (bookings l.base l.sizes.live l.room)) in record { needed : whole → rest; suffices : rest → whole }
