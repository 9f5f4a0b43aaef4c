-- `accounts::limit` meets its contract: as for `ensure`, the name's seat is `seen`, the rule by value decides, and each answer is carried out by one law of
-- Performing.
use mathlib.Core.List.{[]}
use native.Mathlib.Omega.{arith}
use Rattle.std.specs.Prelude.{Ok, Err}
use Rattle.rules.specs.AnswerNumbers.{NegativeAmount}
use Rattle.refusals.specs.declared.Refusal.TheVariants.{NamesFull}
use Rattle.room.proofs.SoundRoom.{searchable}
use Rattle.lookup.proofs.Places.{seat-readable}
use Rattle.accounts.proofs.Writes.{limit-negative}
use Rattle.accounts.proofs.Performing.{seen, seen-sound, ready, full, too_long, refuses, writes, limiting}
use Rattle.accounts.proofs.limit.Goals as goal

pub returns-then-part-gt-LONGEST_NAME : goal.returns-then-part-gt-LONGEST_NAME
returns-then-part-gt-LONGEST_NAME c = too_long (limiting c.args.part.now c.args.amount.0 c.type_inv.part (omega arith)) c.if-part-gt-LONGEST_NAME.true

pub find-found-requires : goal.find-found-requires
find-found-requires c = searchable c.args.room.now c.requires

pub seat_at-seat-requires : goal.seat_at-seat-requires
seat_at-seat-requires c = seat-readable c.args.room.now c.requires c.args.part.now c.find-found.result c.find-found.ensures

pub limit-requires : goal.limit-requires
limit-requires c = seen-sound (seen c.requires c.if-part-gt-LONGEST_NAME.false c.find-found.ensures c.seat_at-seat.ensures)

pub returns-in_default : goal.returns-in_default
returns-in_default c =
    let limits = limiting c.args.part.now c.args.amount.0 c.type_inv.part (omega arith) in
    let looked = seen c.requires c.if-part-gt-LONGEST_NAME.false c.find-found.ensures c.seat_at-seat.ensures in
    refuses limits looked (NegativeAmount c.args.amount.0) (limit-negative c.args.amount.0 _ _ _ c.in_default.ensures.0)

pub write_seat-requires : goal.write_seat-requires
write_seat-requires c =
    let limits = limiting c.args.part.now c.args.amount.0 c.type_inv.part (omega arith) in
    let looked = seen c.requires c.if-part-gt-LONGEST_NAME.false c.find-found.ensures c.seat_at-seat.ensures in
    ready looked limits [] c.in-Ok.changed c.in-Ok.ensures.0 c.in-Ok.ensures.1

pub returns-in_default-write_seat : goal.returns-in_default-write_seat
returns-in_default-write_seat c =
    let limits = limiting c.args.part.now c.args.amount.0 c.type_inv.part (omega arith) in
    let looked = seen c.requires c.if-part-gt-LONGEST_NAME.false c.find-found.ensures c.seat_at-seat.ensures in
    writes limits looked [] c.in-Ok.changed c.in-Ok.ensures.0 c.write_seat.new.room (Err NamesFull) (λ L r. full (c.in_default-write_seat.ensures L r))

pub returns : goal.returns
returns c =
    let limits = limiting c.args.part.now c.args.amount.0 c.type_inv.part (omega arith) in
    let looked = seen c.requires c.if-part-gt-LONGEST_NAME.false c.find-found.ensures c.seat_at-seat.ensures in
    writes limits looked [] c.in-Ok.changed c.in-Ok.ensures.0 c.write_seat.new.room (Ok tt) c.in-Ok-write_seat.ensures
