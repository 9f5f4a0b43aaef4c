-- `accounts::top_up` meets its contract: as for `ensure`; what is carried out are the amounts of a seat that is sound, so each is at most M.
use mathlib.Core.Path.{sym}
use native.Mathlib.Omega.{arith}
use Rattle.std.specs.Prelude.{Ok, Err}
use Rattle.std.proofs.lemmas.Result.{err_from_is_err_and}
use Rattle.rules.specs.AnswerNumbers.{InvalidAmount, MissingTenant, OverflowOfTopUp}
use Rattle.numbers.proofs.Amounts.{positive-is}
use Rattle.moves.proofs.Cases.{is-missing, top-up-of-none, top-up-missing}
use Rattle.room.proofs.SoundRoom.{searchable}
use Rattle.room.proofs.Seating.{seat-small}
use Rattle.lookup.proofs.Places.{seat-readable}
use Rattle.accounts.proofs.Writes.{top-up-decides, top-up-overflows}
use Rattle.accounts.proofs.Performing.{seen, seen-sound, ready, too_long, refuses, writes, topping_up}
use Rattle.accounts.proofs.top_up.Goals as goal

pub returns-then-part-gt-LONGEST_NAME : goal.returns-then-part-gt-LONGEST_NAME
returns-then-part-gt-LONGEST_NAME c = too_long (topping_up c.args.part.now c.args.amount.0 c.type_inv.part (omega arith)) c.if-part-gt-LONGEST_NAME.true

pub find-found-requires : goal.find-found-requires
find-found-requires c = searchable c.args.room.now c.requires

pub seat_at-seat-requires : goal.seat_at-seat-requires
seat_at-seat-requires c = seat-readable c.args.room.now c.requires c.args.part.now c.find-found.result c.find-found.ensures

pub returns-in_default : goal.returns-in_default
returns-in_default c =
    let tops_up = topping_up c.args.part.now c.args.amount.0 c.type_inv.part (omega arith) in
    let looked = seen c.requires c.if-part-gt-LONGEST_NAME.false c.find-found.ensures c.seat_at-seat.ensures in
    refuses tops_up looked InvalidAmount (top-up-of-none c.args.amount.0 _ _ (sym c.in_default.ensures))

pub returns-in_default-has_account : goal.returns-in_default-has_account
returns-in_default-has_account c =
    let tops_up = topping_up c.args.part.now c.args.amount.0 c.type_inv.part (omega arith) in
    let looked = seen c.requires c.if-part-gt-LONGEST_NAME.false c.find-found.ensures c.seat_at-seat.ensures in
    let seat = c.seat_at-seat.result in
    let is = positive-is c.args.amount.0 c.in-Some.added (sym c.in-Some.ensures) in
    refuses tops_up looked MissingTenant (top-up-missing seat c.args.amount.0 c.in-Some.added is.0 is.1 (is-missing seat (sym c.in_default-has_account.ensures)))

pub top_up-requires : goal.top_up-requires
top_up-requires c =
    let looked = seen c.requires c.if-part-gt-LONGEST_NAME.false c.find-found.ensures c.seat_at-seat.ensures in
    let positive = (positive-is c.args.amount.0 c.in-Some.added (sym c.in-Some.ensures)).1 in
    (seen-sound looked, sym c.in-true.ensures, omega (arith, positive))

pub returns-in_default-top_up : goal.returns-in_default-top_up
returns-in_default-top_up c =
    let tops_up = topping_up c.args.part.now c.args.amount.0 c.type_inv.part (omega arith) in
    let looked = seen c.requires c.if-part-gt-LONGEST_NAME.false c.find-found.ensures c.seat_at-seat.ensures in
    let move = top-up-decides c.args.amount.0 c.in-Some.added _ _ (Err c.in_default-top_up.field-0) c.in-Some.ensures c.in_default-top_up.ensures.0 in
    refuses tops_up looked OverflowOfTopUp (top-up-overflows c.args.amount.0 c.in-Some.added _ _ _ c.in-Some.ensures (sym c.in-true.ensures) move)

pub write_seat-requires : goal.write_seat-requires
write_seat-requires c =
    let tops_up = topping_up c.args.part.now c.args.amount.0 c.type_inv.part (omega arith) in
    let looked = seen c.requires c.if-part-gt-LONGEST_NAME.false c.find-found.ensures c.seat_at-seat.ensures in
    let grown = c.in-Ok.grown in
    let move = top-up-decides c.args.amount.0 c.in-Some.added _ _ (Ok grown) c.in-Some.ensures c.in-Ok.ensures.0 in
    ready looked tops_up _ grown move c.in-Ok.ensures.1

pub returns-in_err-write_seat : goal.returns-in_err-write_seat
returns-in_err-write_seat c =
    let tops_up = topping_up c.args.part.now c.args.amount.0 c.type_inv.part (omega arith) in
    let looked = seen c.requires c.if-part-gt-LONGEST_NAME.false c.find-found.ensures c.seat_at-seat.ensures in
    let grown = c.in-Ok.grown in
    let move = top-up-decides c.args.amount.0 c.in-Some.added _ _ (Ok grown) c.in-Some.ensures c.in-Ok.ensures.0 in
    let returned = err_from_is_err_and c.from_residual.result c.from_residual.ensures.1 in
    rw (returned.1, returned.2) (writes tops_up looked _ grown move c.write_seat.new.room (Err c.in_err-write_seat.field-0.0) c.in_err-write_seat.ensures)

pub amount-requires : goal.amount-requires
amount-requires c = (seat-small c.in-Ok.grown c.in-Ok.ensures.1).initial

pub amount-requires-2 : goal.amount-requires-2
amount-requires-2 c = (seat-small c.in-Ok.grown c.in-Ok.ensures.1).remaining

pub returns : goal.returns
returns c =
    let tops_up = topping_up c.args.part.now c.args.amount.0 c.type_inv.part (omega arith) in
    let looked = seen c.requires c.if-part-gt-LONGEST_NAME.false c.find-found.ensures c.seat_at-seat.ensures in
    let grown = c.in-Ok.grown in
    let move = top-up-decides c.args.amount.0 c.in-Some.added _ _ (Ok grown) c.in-Some.ensures c.in-Ok.ensures.0 in
    rw (c.amount.ensures, c.amount-2.ensures) (writes tops_up looked _ grown move c.write_seat.new.room (Ok tt) c.in_ok-write_seat.ensures)
