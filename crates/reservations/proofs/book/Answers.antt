-- `reservations::book` meets its contract: the counts loaded say whether there is room; if so the seat, the booking and the head are stored in turn, and
-- each step leaves the room as sized as the next one asks (Stepping).
use mathlib.Core.Path.{sym, ap, ◌∙◌}
use Rattle.room.specs.Contents.{with_head, appended_booking}
use Rattle.tables.proofs.Stores.{loaded}
use Rattle.reservations.specs.Steps.{granted, full}
use Rattle.reservations.proofs.Stepping.{room-left, seated-appends, appended-sized}
use Rattle.reservations.proofs.book.Goals as goal

pub returns-then-sizes : goal.returns-then-sizes
returns-then-sizes c =
    let z = loaded c.args.room.now c.load_sizes-sizes.result c.requires.0 c.load_sizes-sizes.ensures in
    full (sym z.live ∙ c.if-sizes.true ∙ z.reservations)

pub append_booking-requires : goal.append_booking-requires
append_booking-requires c =
    let left = room-left c.args.room.now c.requires.0 c.load_sizes-sizes.result c.load_sizes-sizes.ensures c.if-sizes.false in
    seated-appends c.args.room.now c.put_seat.new.room c.requires.0 c.args.i c.args.seat c.put_seat.ensures c.requires.1 left

pub put_head-requires : goal.put_head-requires
put_head-requires c =
    let left = room-left c.args.room.now c.requires.0 c.load_sizes-sizes.result c.load_sizes-sizes.ensures c.if-sizes.false in
    let seated = seated-appends c.args.room.now c.put_seat.new.room c.requires.0 c.args.i c.args.seat c.put_seat.ensures c.requires.1 left in
    appended-sized c.put_seat.new.room c.append_booking.new.room seated.0 _ c.append_booking.ensures seated.1

pub returns : goal.returns
returns c =
    let put = c.put_seat.ensures in
    let appended = c.append_booking.ensures in
    let drew = c.put_head.ensures in
    let left = room-left c.args.room.now c.requires.0 c.load_sizes-sizes.result c.load_sizes-sizes.ensures c.if-sizes.false in
    granted c.amount.result _ left c.amount.ensures (drew.0 ∙ appended.0 ∙ put.0) (drew.1 ∙ ap (with_head c.args.head) (appended.1 ∙ ap (appended_booking _) put.1))
