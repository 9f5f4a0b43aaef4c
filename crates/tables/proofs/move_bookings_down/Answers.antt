-- `tables::move_bookings_down` meets its contract: the bytes of the later bookings, put one booking nearer.
use mathlib.Core.Path.{◌≡◌, ap, ◌∙◌}
use Prim.Native.Nat.{suc, ◌+◌, ◌-◌, ◌*◌}
use native.Mathlib.Omega.{arith}
use lib.ListN.{length}
use Rattle.std.specs.List.{copy_within}
use Rattle.records.specs.Layout.{booking_size}
use Rattle.records.specs.Rows.{row, put}
use Rattle.records.proofs.Rows.{row-length}
use Rattle.room.specs.Contents.{empty_booking}
use Rattle.tables.proofs.Gap.{gap-put}
use Rattle.tables.proofs.Stores.{sized-by, bookings-moved}
use Rattle.tables.proofs.move_bookings_down.Goals as goal

pub overflow_mul-from : goal.overflow_mul-from
overflow_mul-from c = let z = sized-by c.args.room.now c.requires.0 in omega arith

pub overflow_add-from : goal.overflow_add-from
overflow_add-from c = let z = sized-by c.args.room.now c.requires.0 in omega arith

pub overflow_mul-end : goal.overflow_mul-end
overflow_mul-end c = let z = sized-by c.args.room.now c.requires.0 in omega arith

pub overflow_add-end : goal.overflow_add-end
overflow_add-end c = let z = sized-by c.args.room.now c.requires.0 in omega arith

pub slice_bounds-copy_within-end : goal.slice_bounds-copy_within-end
slice_bounds-copy_within-end c = let z = sized-by c.args.room.now c.requires.0 in omega arith

pub returns : goal.returns
returns c =
    let a = c.args in
    let room = a.room.now in
    let z = sized-by room c.requires.0 in
    let k = a.live - 1 - a.i in
    let next : a.base + booking_size * a.i + booking_size ≡ a.base + booking_size * suc a.i = omega arith in
    let from = a.base + booking_size * a.i in
    let part = (a.base + booking_size * a.live) - from in
    let width : length (row part from room) ≡ part = row-length part from room (omega arith) in
    let copied : c.copy_within.new.self ≡ copy_within (row part from room) booking_size (length (row part from room)) 0 = cc (width, c.copy_within.ensures.after) in
    let moved = gap-put booking_size (booking_size * k) part from room _ (omega arith) (omega arith) copied in
    bookings-moved room _ c.requires.0 a.i k a.live empty_booking (omega arith) c.requires.3
    (moved ∙ ap (λ at. put (a.base + booking_size * a.i) (booking_size * k) room (row (booking_size * k) at room)) next
    ∙ ap (λ b. put (b + booking_size * a.i) (booking_size * k) room (row (booking_size * k) (b + booking_size * suc a.i) room)) c.requires.1)
