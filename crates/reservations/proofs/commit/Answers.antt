-- `reservations::commit` meets its contract: a booking that was found is live and what is due of it was read (`seen`), each check leaves the rule's next
-- case, and each answer is one law of Ending.
use mathlib.Core.Path.{sym}
use native.Mathlib.Omega.{arith}
use lib.IntN.{pos}
use Rattle.std.specs.Prelude.{Ok}
use Rattle.rules.specs.AnswerNumbers.{InvalidAmount, MissingTenant, MissingReservation, OverflowOfCommit, Overrun}
use Rattle.numbers.proofs.Amounts.{natural-none, natural-some, above-sum}
use Rattle.refusals.specs.Answers.{refusal_of}
use Rattle.moves.proofs.Cases.{is-missing, is-present, commit-negative, commit-gone, commit-missing, commit-overflows}
use Rattle.room.proofs.SoundRoom.{searchable}
use Rattle.room.proofs.Seating.{seat-small}
use Rattle.reservations.proofs.Fitting.{commit-decides, commit-overruns}
use Rattle.reservations.proofs.Ending.{committing, seen, readable, allowed, ready, refuses, misses, leaves, ends}
use Rattle.reservations.proofs.commit.Goals as goal

pub returns-in_default : goal.returns-in_default
returns-in_default c = refuses (committing c.args.id.0 c.args.actual.0 (omega arith)) InvalidAmount (λ live a l. commit-negative c.args.actual.0 live a l (natural-none c.args.actual.0 (sym c.in_default.ensures)))

pub find_booking-requires : goal.find_booking-requires
find_booking-requires c = searchable c.args.room.now c.requires

pub returns-in_default-find_booking : goal.returns-in_default-find_booking
returns-in_default-find_booking c =
    let commits = committing c.args.id.0 c.args.actual.0 (omega arith) in
    misses commits MissingReservation c.in_default-find_booking.ensures (commit-gone c.args.actual.0 c.in-Some.spent (natural-some c.args.actual.0 c.in-Some.spent (sym c.in-Some.ensures)))

pub due_at-due-requires : goal.due_at-due-requires
due_at-due-requires c = readable c.args.room.now c.requires c.args.id.0 c.in-Some-find_booking.j c.in-Some-find_booking.ensures

pub returns-in_default-has_account : goal.returns-in_default-has_account
returns-in_default-has_account c =
    let commits = committing c.args.id.0 c.args.actual.0 (omega arith) in
    let looked = seen c.requires c.in-Some-find_booking.ensures c.due_at-due.ensures in
    let due = c.due_at-due.result in
    let amount = natural-some c.args.actual.0 c.in-Some.spent (sym c.in-Some.ensures) in
    leaves commits looked MissingTenant (commit-missing due.seat due.amount.0 c.args.actual.0 c.in-Some.spent amount (is-missing due.seat (sym c.in_default-has_account.ensures)))

pub amount-requires : goal.amount-requires
amount-requires c =
    let looked = seen c.requires c.in-Some-find_booking.ensures c.due_at-due.ensures in
    (seat-small _ (allowed looked).0).remaining

pub returns-in_default-plus : goal.returns-in_default-plus
returns-in_default-plus c =
    let commits = committing c.args.id.0 c.args.actual.0 (omega arith) in
    let looked = seen c.requires c.in-Some-find_booking.ensures c.due_at-due.ensures in
    let due = c.due_at-due.result in
    let amount = natural-some c.args.actual.0 c.in-Some.spent (sym c.in-Some.ensures) in
    let present = is-present due.seat (sym c.in-true.ensures) in
    let above = above-sum due.seat.committed c.in-Some.spent (sym c.in_default-plus.ensures) in
    rw c.amount.ensures (leaves commits looked (OverflowOfCommit (pos due.seat.remaining)) (commit-overflows due.seat due.amount.0 c.args.actual.0 c.in-Some.spent amount present above))

pub commit-requires-clause-known : goal.commit-requires-clause-known
commit-requires-clause-known c =
    let may = allowed (seen c.requires c.in-Some-find_booking.ensures c.due_at-due.ensures) in
    (may.0, sym c.in-true.ensures, may.1)

pub amount-requires-in_default-commit : goal.amount-requires-in_default-commit
amount-requires-in_default-commit c =
    let looked = seen c.requires c.in-Some-find_booking.ensures c.due_at-due.ensures in
    (seat-small _ (allowed looked).0).remaining

pub returns-in_default-commit : goal.returns-in_default-commit
returns-in_default-commit c =
    let commits = committing c.args.id.0 c.args.actual.0 (omega arith) in
    let looked = seen c.requires c.in-Some-find_booking.ensures c.due_at-due.ensures in
    let due = c.due_at-due.result in
    let decided = commit-overruns due.seat due.amount.0 c.args.actual.0 c.in-Some.spent c.in-Some.ensures c.in-true.ensures c.in-Some-plus.committed c.in-Some-plus.ensures (refusal_of c.in_default-commit.field-0) c.in_default-commit.ensures.0 in
    rw c.amount-in_default-commit.ensures (leaves commits looked (Overrun (pos due.seat.remaining)) decided)

pub end-requires : goal.end-requires
end-requires c = ready (seen c.requires c.in-Some-find_booking.ensures c.due_at-due.ensures)

pub amount-requires-2 : goal.amount-requires-2
amount-requires-2 c = (seat-small c.in-Ok.ended c.in-Ok.ensures.1).remaining

pub returns : goal.returns
returns c =
    let commits = committing c.args.id.0 c.args.actual.0 (omega arith) in
    let looked = seen c.requires c.in-Some-find_booking.ensures c.due_at-due.ensures in
    let ended = c.in-Ok.ended in
    let decided = commit-decides c.args.actual.0 c.in-Some.spent _ _ _ (Ok ended) c.in-Some.ensures c.in-Ok.ensures.0 in
    rw c.amount-2.ensures (ends commits looked _ ended decided c.in-Ok.ensures.1 c.end.new.room c.end.ensures)
