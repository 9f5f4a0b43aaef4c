-- `reservations::reserve` meets its contract: the name's seat is found and an id drawn (`seen`); each check in turn leaves what the next answer's case of the
-- rule asks (Cases, crate moves), and each answer is one law of Reserving.
use mathlib.Core.Path.{sym}
use native.Mathlib.Omega.{arith}
use lib.IntN.{pos}
use Rattle.std.specs.Prelude.{Ok}
use Rattle.rules.specs.AnswerNumbers.{MissingTenant, OverflowOfReserve, ExposureLimitExceeded, Insufficient}
use Rattle.numbers.proofs.Amounts.{positive-is, above-sum, fits_sum}
use Rattle.refusals.specs.Answers.{refusal_of}
use Rattle.moves.proofs.Cases.{is-missing, reserve-of-none, reserve-missing, reserve-overflows, reserve-exposed, reserve-ids-used}
use Rattle.room.proofs.SoundRoom.{searchable}
use Rattle.room.proofs.Seating.{seat-small}
use Rattle.lookup.proofs.Places.{seat-readable}
use Rattle.reservations.proofs.Fitting.{reserve-decides, asks, passes, reserve-insufficient}
use Rattle.reservations.proofs.Reserving.{seen, seen-sound, seen-sized, ready, too_long, refuses, refuses_last, loses, books}
use Rattle.reservations.proofs.reserve.Goals as goal

pub returns-then-part-gt-LONGEST_NAME : goal.returns-then-part-gt-LONGEST_NAME
returns-then-part-gt-LONGEST_NAME c = too_long c.args.part.now c.args.cost.0 c.if-part-gt-LONGEST_NAME.true

pub find-found-requires : goal.find-found-requires
find-found-requires c = searchable c.args.room.now c.requires

pub seat_at-seat-requires : goal.seat_at-seat-requires
seat_at-seat-requires c = seat-readable c.args.room.now c.requires c.args.part.now c.find-found.result c.find-found.ensures

-- ── refused, and no id is used up ──────────────────────────────────────────────────────────────

pub returns-in_default : goal.returns-in_default
returns-in_default c =
    let looked = seen c.requires c.if-part-gt-LONGEST_NAME.false c.find-found.ensures c.seat_at-seat.ensures c.load_head-head.ensures c.after_draw-drawn.ensures in
    rw c.amount.ensures (refuses c.args.part.now c.args.cost.0 looked (Insufficient (pos 0) c.args.cost.0) (λ last. reserve-of-none last c.args.cost.0 _ _ (sym c.in_default.ensures)))

pub returns-in_default-has_account : goal.returns-in_default-has_account
returns-in_default-has_account c =
    let looked = seen c.requires c.if-part-gt-LONGEST_NAME.false c.find-found.ensures c.seat_at-seat.ensures c.load_head-head.ensures c.after_draw-drawn.ensures in
    let seat = c.seat_at-seat.result in
    let is = positive-is c.args.cost.0 c.in-Some.asked (sym c.in-Some.ensures) in
    refuses c.args.part.now c.args.cost.0 looked MissingTenant (λ last. reserve-missing last seat c.args.cost.0 c.in-Some.asked is.0 is.1 (is-missing seat (sym c.in_default-has_account.ensures)))

pub amount-requires-in_default-plus : goal.amount-requires-in_default-plus
amount-requires-in_default-plus c =
    let looked = seen c.requires c.if-part-gt-LONGEST_NAME.false c.find-found.ensures c.seat_at-seat.ensures c.load_head-head.ensures c.after_draw-drawn.ensures in
    (seat-small c.seat_at-seat.result (seen-sound looked)).reserved

pub returns-in_default-plus : goal.returns-in_default-plus
returns-in_default-plus c =
    let looked = seen c.requires c.if-part-gt-LONGEST_NAME.false c.find-found.ensures c.seat_at-seat.ensures c.load_head-head.ensures c.after_draw-drawn.ensures in
    let seat = c.seat_at-seat.result in
    let asked = asks seat c.args.cost.0 c.in-Some.asked c.in-Some.ensures c.in-true.ensures in
    let above = above-sum seat.reserved c.in-Some.asked (sym c.in_default-plus.ensures) in
    rw c.amount-in_default-plus.ensures
    (refuses c.args.part.now c.args.cost.0 looked (OverflowOfReserve (pos seat.reserved)) (λ last. reserve-overflows last seat c.args.cost.0 c.in-Some.asked asked above))

pub returns-in_default-exceeds : goal.returns-in_default-exceeds
returns-in_default-exceeds c =
    let looked = seen c.requires c.if-part-gt-LONGEST_NAME.false c.find-found.ensures c.seat_at-seat.ensures c.load_head-head.ensures c.after_draw-drawn.ensures in
    let seat = c.seat_at-seat.result in
    let asked = asks seat c.args.cost.0 c.in-Some.asked c.in-Some.ensures c.in-true.ensures in
    let sum = fits_sum seat.reserved c.in-Some.asked c.in-Some-plus.reserved (sym c.in-Some-plus.ensures) in
    rw (c.amount-in_default-exceeds.ensures, c.amount-in_default-exceeds-2.ensures)
    (refuses c.args.part.now c.args.cost.0 looked (ExposureLimitExceeded (pos seat.reserved) (pos seat.limit))
    (λ last. reserve-exposed last seat c.args.cost.0 c.in-Some.asked asked c.in-Some-plus.reserved sum.0 sum.1 (sym c.in_default-exceeds.ensures)))

pub returns-in_default-id : goal.returns-in_default-id
returns-in_default-id c =
    let looked = seen c.requires c.if-part-gt-LONGEST_NAME.false c.find-found.ensures c.seat_at-seat.ensures c.load_head-head.ensures c.after_draw-drawn.ensures in
    let seat = c.seat_at-seat.result in
    let passed = passes seat c.args.cost.0 c.in-Some.asked c.in-Some.ensures c.in-true.ensures c.in-Some-plus.reserved c.in-Some-plus.ensures c.in-false.ensures in
    rw c.amount-in_default-id.ensures
    (refuses_last c.args.part.now c.args.cost.0 looked (OverflowOfReserve (pos seat.reserved)) c.in_default-id.is (reserve-ids-used seat c.args.cost.0 c.in-Some.asked c.in-Some-plus.reserved passed))

-- ── an id is drawn ─────────────────────────────────────────────────────────────────────────────

pub reserve-requires-clause-known : goal.reserve-requires-clause-known
reserve-requires-clause-known c =
    let looked = seen c.requires c.if-part-gt-LONGEST_NAME.false c.find-found.ensures c.seat_at-seat.ensures c.load_head-head.ensures c.after_draw-drawn.ensures in
    let positive = (positive-is c.args.cost.0 c.in-Some.asked (sym c.in-Some.ensures)).1 in
    (seen-sound looked, sym c.in-true.ensures, omega (arith, positive))

pub put_head-requires : goal.put_head-requires
put_head-requires c =
    let looked = seen c.requires c.if-part-gt-LONGEST_NAME.false c.find-found.ensures c.seat_at-seat.ensures c.load_head-head.ensures c.after_draw-drawn.ensures in
    seen-sized looked

pub amount-requires-in_default-reserve : goal.amount-requires-in_default-reserve
amount-requires-in_default-reserve c =
    let looked = seen c.requires c.if-part-gt-LONGEST_NAME.false c.find-found.ensures c.seat_at-seat.ensures c.load_head-head.ensures c.after_draw-drawn.ensures in
    (seat-small c.seat_at-seat.result (seen-sound looked)).remaining

pub returns-in_default-reserve : goal.returns-in_default-reserve
returns-in_default-reserve c =
    let looked = seen c.requires c.if-part-gt-LONGEST_NAME.false c.find-found.ensures c.seat_at-seat.ensures c.load_head-head.ensures c.after_draw-drawn.ensures in
    let seat = c.seat_at-seat.result in
    let move = reserve-insufficient seat c.args.cost.0 c.in-Some.asked c.in-Some.ensures c.in-true.ensures (refusal_of c.in_default-reserve.field-0) c.in_default-reserve.ensures.0 in
    rw (c.amount-in_default-reserve.ensures, c.amount-in_default-reserve-2.ensures)
    (loses c.args.part.now c.args.cost.0 looked c.in-Some-id.id c.in-Some-id.is c.type_inv.part (omega arith) (Insufficient (pos seat.remaining) (pos c.in-Some.asked)) move c.put_head.new.room c.put_head.ensures)

pub book-requires : goal.book-requires
book-requires c =
    let looked = seen c.requires c.if-part-gt-LONGEST_NAME.false c.find-found.ensures c.seat_at-seat.ensures c.load_head-head.ensures c.after_draw-drawn.ensures in
    ready looked c.in-Ok.booked c.in-Ok.ensures.1 c.in-Some-found.i c.in-Some-found.is

pub returns : goal.returns
returns c =
    let looked = seen c.requires c.if-part-gt-LONGEST_NAME.false c.find-found.ensures c.seat_at-seat.ensures c.load_head-head.ensures c.after_draw-drawn.ensures in
    let move = reserve-decides c.args.cost.0 c.in-Some.asked _ _ _ (Ok c.in-Ok.booked) c.in-Some.ensures c.in-Ok.ensures.0 in
    books c.args.part.now c.args.cost.0 looked c.in-Some-id.id c.in-Some-id.is c.type_inv.part (omega arith) c.in-Ok.booked _ move c.in-Ok.ensures.1 (sym c.in-true.ensures) c.in-Some-found.i c.in-Some-found.is c.book.ensures
