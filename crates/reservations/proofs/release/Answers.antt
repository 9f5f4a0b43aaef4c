-- `reservations::release` meets its contract: as for `commit`, what was read is `seen`, the rule by value decides on it, and each answer is one law of
-- Ending.
use native.Mathlib.Omega.{arith}
use mathlib.Core.Path.{refl}
use Rattle.rules.specs.AnswerNumbers.{MissingTenant, MissingReservation}
use Rattle.rules.specs.AccountRules.{release_rule}
use Rattle.refusals.specs.Answers.{refusal_of}
use Rattle.room.proofs.SoundRoom.{searchable}
use Rattle.room.proofs.Seating.{seat-small}
use Rattle.reservations.proofs.Fitting.{release-missing}
use Rattle.reservations.proofs.Ending.{releasing, seen, readable, allowed, ready, misses, leaves, ends}
use Rattle.reservations.proofs.release.Goals as goal

pub find_booking-requires : goal.find_booking-requires
find_booking-requires c = searchable c.args.room.now c.requires

pub returns-in_default : goal.returns-in_default
unfolding release_rule
returns-in_default c = misses (releasing c.args.id.0) MissingReservation c.in_default.ensures refl

pub due_at-due-requires : goal.due_at-due-requires
due_at-due-requires c = readable c.args.room.now c.requires c.args.id.0 c.in-Some.j c.in-Some.ensures

pub release-requires : goal.release-requires
release-requires c = allowed (seen c.requires c.in-Some.ensures c.due_at-due.ensures)

pub returns-in_default-release : goal.returns-in_default-release
returns-in_default-release c =
    let looked = seen c.requires c.in-Some.ensures c.due_at-due.ensures in
    leaves (releasing c.args.id.0) looked MissingTenant (release-missing _ _ _ (refusal_of c.in_default-release.field-0) c.in_default-release.ensures.0)

pub end-requires : goal.end-requires
end-requires c = ready (seen c.requires c.in-Some.ensures c.due_at-due.ensures)

pub amount-requires : goal.amount-requires
amount-requires c = (seat-small c.in-Ok.returned c.in-Ok.ensures.1).remaining

-- what was reserved is part of an account
pub amount-requires-2 : goal.amount-requires-2
amount-requires-2 c =
    let may = allowed (seen c.requires c.in-Some.ensures c.due_at-due.ensures) in
    omega (arith, may.1, (seat-small _ may.0).reserved)

pub returns : goal.returns
returns c =
    let looked = seen c.requires c.in-Some.ensures c.due_at-due.ensures in
    let returned = c.in-Ok in
    rw (c.amount.ensures, c.amount-2.ensures) (ends (releasing c.args.id.0) looked _ returned.returned returned.ensures.0 returned.ensures.1 c.end.new.room c.end.ensures)
