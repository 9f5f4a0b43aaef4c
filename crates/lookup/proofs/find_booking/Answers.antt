-- `lookup::find_booking` meets its contract. The invariant: low and high bracket the id among the live bookings.
use mathlib.Core.Path.{◌≡◌, sym, ap, ◌∙◌}
use Prim.Native.Nat.{◌+◌, ◌*◌, ◌/◌}
use native.Mathlib.Omega.{arith}
use borrow.Author.Tests.{eq-eqb}
use lib.ListN.{get_or}
use Rattle.std.specs.Prelude.{None}
use Rattle.records.specs.Layout.{booking_size}
use Rattle.records.specs.Rows.{row}
use Rattle.records.specs.Records.{booking_of}
use Rattle.room.specs.Contents.{contents_of, base_of, live_bookings, empty_booking}
use Rattle.room.proofs.InRoom.{live-bookings, loaded-booking}
use Rattle.lookup.proofs.Halving.{whole, raise-low, lower_high, hit, miss}
use Rattle.lookup.proofs.Bookings.{ids-divide, booking-only}
use Rattle.lookup.proofs.find_booking.Goals as goal
use Rattle.lookup.proofs.find_booking.Goals.{After-load_booking-booking}

pub loop-low-init : goal.loop-low-init
loop-low-init c =
    let xs = c.args.room.now in
    whole _ _ empty_booking (live_bookings (contents_of xs)) c.load_sizes-sizes.result.live (live-bookings xs c.requires.sized ∙ sym (ap (λ s. s.live) c.load_sizes-sizes.ensures))

pub overflow_add-middle : goal.overflow_add-middle
overflow_add-middle c = let n = live-bookings c.args.room.now c.requires.sized in omega arith

pub load_booking-booking-requires : goal.load_booking-booking-requires
load_booking-booking-requires c =
    let n = live-bookings c.args.room.now c.requires.sized in
    omega (arith, ap (λ s. s.names) c.load_sizes-sizes.ensures)

loaded : (c : After-load_booking-booking) →
    c.load_booking-booking.result.id.0 ≡ (get_or (live_bookings (contents_of c.args.room.now)) ((c.loop-low.low + c.loop-low.high) / 2) empty_booking).id.0
loaded c =
    let xs = c.args.room.now in
    let n = live-bookings xs c.requires.sized in
    let middle = (c.loop-low.low + c.loop-low.high) / 2 in
    ap (λ b. b.id.0)
    (c.load_booking-booking.ensures
    ∙ ap (λ s. booking_of (row booking_size (base_of s.names + booking_size * middle) xs)) c.load_sizes-sizes.ensures
    ∙ loaded-booking xs c.requires.sized middle empty_booking (omega arith))

pub returns-then-booking-id : goal.returns-then-booking-id
returns-then-booking-id c =
    let read = loaded (goal.at.returns-then-booking-id c).After-load_booking-booking in
    booking-only c.args.id.0 empty_booking _ _
    (hit (ids-divide c.args.id.0) empty_booking _ c.requires.ids_ascend c.loop-low.invariant _ (omega arith) (omega arith) (eq-eqb c.args.id.0 _ (sym c.if-booking-id.true ∙ read)))

pub loop-low-preserved-then-booking-id-2 : goal.loop-low-preserved-then-booking-id-2
loop-low-preserved-then-booking-id-2 c =
    let read = loaded (goal.at.loop-low-preserved-then-booking-id-2 c).After-load_booking-booking in
    raise-low (ids-divide c.args.id.0) empty_booking _ c.requires.ids_ascend c.loop-low.invariant _ (omega arith) (omega arith) (rw read at c.if-booking-id-2.true)

pub loop-low-preserved : goal.loop-low-preserved
loop-low-preserved c =
    let read = loaded (goal.at.loop-low-preserved c).After-load_booking-booking in
    lower_high (ids-divide c.args.id.0) empty_booking _ c.requires.ids_ascend c.loop-low.invariant _ (omega arith) (omega arith) (omega arith)

pub returns : goal.returns
returns c =
    booking-only c.args.id.0 empty_booking (live_bookings (contents_of c.args.room.now)) None
    (miss (ids-divide c.args.id.0) empty_booking (live_bookings (contents_of c.args.room.now)) c.requires.ids_ascend c.loop-low.invariant c.loop-low-test.false)
