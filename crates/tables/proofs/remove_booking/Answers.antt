-- `tables::remove_booking` meets its contract: the last booking, which still stands where it stood, is emptied.
use Prim.Native.Nat.{◌-◌, ◌≤◌}
use mathlib.Core.Path.{refl, ap}
use native.Mathlib.Omega.{arith}
use lib.ListN.{length}
use Rattle.room.specs.Contents.{contents_of, base_of, closed, empty_booking, removed_booking}
use Rattle.tables.specs.Steps.{on_bookings, moved_down}
use Rattle.tables.proofs.Moving.{closed-set}
use Rattle.tables.proofs.Stores.{loaded, stays, counted, bookings-length, booking-replaced}
use Rattle.tables.proofs.Whole.{removed}
use Rattle.tables.proofs.remove_booking.Goals as goal

pub move_bookings_down-requires : goal.move_bookings_down-requires
move_bookings_down-requires c =
    let z = loaded _ _ c.requires.0 c.load_sizes-sizes.ensures in
    (c.requires.0, omega arith, omega arith, omega arith)

pub overflow_sub-live : goal.overflow_sub-live
overflow_sub-live c = let z = loaded _ _ c.requires.0 c.load_sizes-sizes.ensures in omega arith

pub store_booking-requires-clause-within : goal.store_booking-requires-clause-within
store_booking-requires-clause-within c = let z = loaded _ _ c.requires.0 c.load_sizes-sizes.ensures in omega arith

pub overflow_sub-sizes : goal.overflow_sub-sizes
overflow_sub-sizes c = let z = loaded _ _ c.requires.0 c.load_sizes-sizes.ensures in omega arith

pub returns : goal.returns
returns c =
    let t = c.load_sizes-sizes.result in
    let z = loaded _ _ c.requires.0 c.load_sizes-sizes.ensures in
    let moved = c.move_bookings_down in
    let emptied = c.store_booking in
    let last = c.store_counts in
    let room = c.args.room.now in
    let i = c.args.i in
    let bs = (contents_of room).bookings in
    let all : t.live ≤ length bs = rw bookings-length (omega arith) in
    let taken_out = closed i t.live empty_booking in
    let a = booking-replaced room moved.new.room (moved_down i t.live empty_booking) moved.ensures (base_of t.names) (ap base_of z.names) taken_out emptied.new.room (t.live - 1) empty_booking c.requires.0
    (omega arith) (emptied.ensures.stored, emptied.ensures.fits) (closed-set i t.live _ empty_booking bs (omega arith) all) in
    counted (on_bookings taken_out) (removed_booking i) room emptied.new.room last.new.room t.used (t.live - 1) (stays (on_bookings taken_out) room emptied.new.room (λ c. refl) c.requires.0 a) a
    (last.ensures.stored, last.ensures.fits) (removed (contents_of room) t z.sizes i)
