-- `soundness::bookings_sound` meets its contract: the bookings from j on are the one that was loaded and the rest, and those take what is left (Bookings).
use Rattle.std.proofs.Common.{◌≤◌, refl, length, arith}
use Rattle.soundness.proofs.Deciding.{leave, leave_none}
use Rattle.soundness.proofs.Bookings.{first-follows, first-within, booked-rest, booked-first, booked-none, none-booked, live-from, live-end}
use Rattle.soundness.proofs.bookings_sound.Goals as goal

pub returns-then-not-booking_sound : goal.returns-then-not-booking_sound
returns-then-not-booking_sound c =
    let from = live-from _ _ _ c.loop-j.j c.load_booking-booking.result c.load_booking-booking.ensures c.loop-j-test.true in
    leave_none (λ whole. c.if-not-booking_sound.ensures.fails refl (first-follows _ _ _ _ _ _ _ from (c.loop-j.invariant.needed whole)))

pub returns-in_default : goal.returns-in_default
returns-in_default c =
    let from = live-from _ _ _ c.loop-j.j c.load_booking-booking.result c.load_booking-booking.ensures c.loop-j-test.true in
    leave_none (λ whole. c.in_default.ensures (first-within _ _ _ _ _ _ _ from (c.loop-j.invariant.needed whole)))

pub loop-j-preserved : goal.loop-j-preserved
loop-j-preserved c =
    let b = c.load_booking-booking.result in
    let from = live-from _ _ _ c.loop-j.j b c.load_booking-booking.ensures c.loop-j-test.true in
    let follows = c.if-not-booking_sound.ensures.holds refl in
    let (enough, left) = c.in-Some.ensures in
    let few : c.args.sizes.used ≤ length c.loop-j.reserved = omega arith in
    record {
      needed = λ whole. rw left (booked-rest _ _ _ _ _ _ _ from follows few enough (c.loop-j.invariant.needed whole));
      suffices = λ rest. c.loop-j.invariant.suffices (booked-first _ _ _ _ _ _ _ from follows few enough (rw left at rest));
    }

pub returns : goal.returns
returns c =
    let ended = live-end c.args.base c.args.sizes.live c.args.room.now c.loop-j.j c.loop-j-test.false in
    leave (λ zero. c.loop-j.invariant.suffices (rw ended (booked-none _ _ _ _ zero))) (λ whole. none-booked _ _ _ _ (rw ended at (c.loop-j.invariant.needed whole)))
