-- `tables::append_booking` meets its contract: the store puts the booking behind the live ones, the counts then take it in; `counted` joins the two stores
-- to the step.
use Prim.Native.Nat.{◌+◌}
use mathlib.Core.Path.{refl, ap}
use native.Mathlib.Omega.{arith}
use mathlib.Core.List.{List}
use lib.ListN.{set}
use Rattle.records.specs.declared.Booking.{Booking}
use Rattle.room.specs.Contents.{contents_of, base_of, appended_booking}
use Rattle.tables.specs.Steps.{on_bookings}
use Rattle.tables.proofs.Stores.{loaded, stays, counted, booking-replaced}
use Rattle.tables.proofs.Whole.{appended}
use Rattle.tables.proofs.append_booking.Goals as goal

pub store_booking-requires-clause-within : goal.store_booking-requires-clause-within
store_booking-requires-clause-within c = let z = loaded _ _ c.requires.0 c.load_sizes-sizes.ensures in omega arith

pub returns : goal.returns
returns c =
    let t = c.load_sizes-sizes.result in
    let z = loaded _ _ c.requires.0 c.load_sizes-sizes.ensures in
    let booked = c.store_booking in
    let last = c.store_counts in
    let room = c.args.room.now in
    let booking = c.args.booking in
    let put_in : List Booking → List Booking = λ bs. set bs t.live booking in
    let a = booking-replaced room room (λ bs. bs) (refl, refl) (base_of t.names) (ap base_of z.names) put_in booked.new.room t.live booking c.requires.0 (omega arith) (booked.ensures.stored, booked.ensures.fits) refl in
    counted (on_bookings put_in) (appended_booking booking) room booked.new.room last.new.room t.used (t.live + 1) (stays (on_bookings put_in) room booked.new.room (λ c. refl) c.requires.0 a) a
    (last.ensures.stored, last.ensures.fits) (appended (contents_of room) t z.sizes booking)
