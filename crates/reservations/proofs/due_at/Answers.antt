-- `reservations::due_at` meets its contract: what is loaded is the record of the ledger's booking, its owner the number of its airline's place, and so the
-- seat there is the airline's.
use mathlib.Core.Path.{◌≡◌, sym, ap}
use Prim.Native.Nat.{◌<◌}
use native.Mathlib.Omega.{arith}
use lib.ListN.{length, length-map}
use Rattle.records.specs.declared.Booking.{Booking}
use Rattle.room.specs.Room.{place_number, place_record}
use Rattle.room.proofs.SoundRoom.{sized, places-are}
use Rattle.tables.proofs.Stores.{loaded}
use Rattle.reservations.specs.Steps.{booking_at, due_at}
use Rattle.reservations.proofs.Ending.{live-is, owner-below, booking-is, seat-there}
use Rattle.reservations.proofs.due_at.Goals as goal

pub overflow_mul-base : goal.overflow_mul-base
overflow_mul-base c =
    let z = loaded c.args.room.now c.load_sizes-sizes.result (sized c.args.room.now c.requires.0.ledger c.requires.0.is_room) c.load_sizes-sizes.ensures in
    let r = z.room in
    omega arith

pub overflow_add-base : goal.overflow_add-base
overflow_add-base c =
    let z = loaded c.args.room.now c.load_sizes-sizes.result (sized c.args.room.now c.requires.0.ledger c.requires.0.is_room) c.load_sizes-sizes.ensures in
    let r = z.room in
    omega arith

pub load_booking-booking-requires : goal.load_booking-booking-requires
load_booking-booking-requires c =
    let z = loaded c.args.room.now c.load_sizes-sizes.result (sized c.args.room.now c.requires.0.ledger c.requires.0.is_room) c.load_sizes-sizes.ensures in
    let r = z.room in
    omega (arith, c.requires.1)

pub seat_at-requires : goal.seat_at-requires
seat_at-requires c =
    let xs = c.args.room.now in
    let L = c.requires.0.ledger in
    let room = c.requires.0.is_room in
    let below : c.args.j < length L.bookings = omega (arith, live-is xs L room, c.requires.1) in
    let booking = booking-is xs L room c.args.j below c.load_sizes-sizes.result c.load_sizes-sizes.ensures c.load_booking-booking.result c.load_booking-booking.ensures in
    let owner : c.load_booking-booking.result.owner ≡ place_number (booking_at L c.args.j).name L.places = ap (λ (b : Booking). b.owner) booking in
    let used = rw (sym (places-are xs L room)) at (length-map L.places place_record) in
    (sized xs L room, omega (arith, owner-below xs L room c.args.j below, used))

pub returns : goal.returns
unfolding due_at
returns c L room =
    let xs = c.args.room.now in
    let below : c.args.j < length L.bookings = omega (arith, live-is xs L room, c.requires.1) in
    let booking = booking-is xs L room c.args.j below c.load_sizes-sizes.result c.load_sizes-sizes.ensures c.load_booking-booking.result c.load_booking-booking.ensures in
    let seat = seat-there xs L room c.args.j below c.load_booking-booking.result.owner (ap (λ (b : Booking). b.owner) booking) c.seat_at.result c.seat_at.ensures in
    λ i. record { amount = (booking i).amount; owner = (booking i).owner; seat = seat i }
