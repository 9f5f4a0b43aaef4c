-- `accounts::ensure` meets its contract: what was looked up is the name's seat (`seen`), the rule by value decides on it, and each answer is carried out
-- by one law of Performing.
use mathlib.Core.Path.{sym}
use mathlib.Core.List.{[]}
use native.Mathlib.Omega.{arith}
use Rattle.std.specs.Prelude.{Some, None, Ok, Err}
use Rattle.rules.specs.AnswerNumbers.{NegativeAmount}
use Rattle.refusals.specs.declared.Refusal.TheVariants.{NamesFull}
use Rattle.numbers.proofs.Amounts.{natural-none, natural-some}
use Rattle.moves.proofs.Cases.{natural-small, ensure-negative}
use Rattle.room.proofs.SoundRoom.{searchable}
use Rattle.lookup.proofs.Places.{seat-readable}
use Rattle.accounts.proofs.Writes.{ensure-decides}
use Rattle.accounts.proofs.Performing.{seen, seen-sound, ready, full, too_long, refuses, tells, writes, ensuring}
use Rattle.accounts.proofs.ensure.Goals as goal

pub returns-then-part-gt-LONGEST_NAME : goal.returns-then-part-gt-LONGEST_NAME
returns-then-part-gt-LONGEST_NAME c = too_long (ensuring c.args.part.now c.args.amount.0 c.type_inv.part (omega arith)) c.if-part-gt-LONGEST_NAME.true

pub find-found-requires : goal.find-found-requires
find-found-requires c = searchable c.args.room.now c.requires

pub seat_at-seat-requires : goal.seat_at-seat-requires
seat_at-seat-requires c = seat-readable c.args.room.now c.requires c.args.part.now c.find-found.result c.find-found.ensures

pub returns-in_default : goal.returns-in_default
returns-in_default c =
    let ensures = ensuring c.args.part.now c.args.amount.0 c.type_inv.part (omega arith) in
    let looked = seen c.requires c.if-part-gt-LONGEST_NAME.false c.find-found.ensures c.seat_at-seat.ensures in
    refuses ensures looked (NegativeAmount c.args.amount.0) (ensure-negative c.args.amount.0 _ _ (natural-none c.args.amount.0 (sym c.in_default.ensures)))

pub ensure-requires : goal.ensure-requires
ensure-requires c =
    let looked = seen c.requires c.if-part-gt-LONGEST_NAME.false c.find-found.ensures c.seat_at-seat.ensures in
    (seen-sound looked, natural-small c.args.amount.0 c.in-Some.opening (natural-some c.args.amount.0 c.in-Some.opening (sym c.in-Some.ensures)) (omega arith))

pub returns-in_default-ensure : goal.returns-in_default-ensure
returns-in_default-ensure c =
    let ensures = ensuring c.args.part.now c.args.amount.0 c.type_inv.part (omega arith) in
    let looked = seen c.requires c.if-part-gt-LONGEST_NAME.false c.find-found.ensures c.seat_at-seat.ensures in
    tells ensures looked [] (ensure-decides c.args.amount.0 c.in-Some.opening _ _ None c.in-Some.ensures c.in_default-ensure.ensures.0)

pub write_seat-requires : goal.write_seat-requires
write_seat-requires c =
    let ensures = ensuring c.args.part.now c.args.amount.0 c.type_inv.part (omega arith) in
    let looked = seen c.requires c.if-part-gt-LONGEST_NAME.false c.find-found.ensures c.seat_at-seat.ensures in
    let opened = c.in-Some-ensure.opened in
    ready looked ensures [] opened (ensure-decides c.args.amount.0 c.in-Some.opening _ _ (Some opened) c.in-Some.ensures c.in-Some-ensure.ensures.0) c.in-Some-ensure.ensures.1

pub returns-in_default-write_seat : goal.returns-in_default-write_seat
returns-in_default-write_seat c =
    let ensures = ensuring c.args.part.now c.args.amount.0 c.type_inv.part (omega arith) in
    let looked = seen c.requires c.if-part-gt-LONGEST_NAME.false c.find-found.ensures c.seat_at-seat.ensures in
    let opened = c.in-Some-ensure.opened in
    let move = ensure-decides c.args.amount.0 c.in-Some.opening _ _ (Some opened) c.in-Some.ensures c.in-Some-ensure.ensures.0 in
    writes ensures looked [] opened move c.write_seat.new.room (Err NamesFull) (λ L r. full (c.in_default-write_seat.ensures L r))

pub returns : goal.returns
returns c =
    let ensures = ensuring c.args.part.now c.args.amount.0 c.type_inv.part (omega arith) in
    let looked = seen c.requires c.if-part-gt-LONGEST_NAME.false c.find-found.ensures c.seat_at-seat.ensures in
    let opened = c.in-Some-ensure.opened in
    let move = ensure-decides c.args.amount.0 c.in-Some.opening _ _ (Some opened) c.in-Some.ensures c.in-Some-ensure.ensures.0 in
    writes ensures looked [] opened move c.write_seat.new.room (Ok tt) c.in-Ok.ensures
