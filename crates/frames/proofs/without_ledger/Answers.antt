-- `frames::without_ledger`: `told` turns what is promised of the frame matched into what is asked of the frame at hand. A snapshot that came with the frame is
-- the one in the part lent (`writes-supplied`), and every frame that asks for a ledger is refused by its tag (`refuses`, both of Arms.antt).
use mathlib.Core.Path.{◌≡◌, ap, subst}
use mathlib.Core.List.{List}
use Prim.Native.Nat.{ℕ, ◌≤◌}
use native.Mathlib.Omega.{arith}
use lib.ListN.{length}
use Rattle.rules.specs.AnswerNumbers.{unsound}
use Rattle.rules.specs.Frames.{migrate_to, certify, judge, answer, answer_or23}
use Rattle.frame_reader.specs.declared.Frame.{Frame}
use Rattle.frame_reader.specs.Operations.{operation_in, PartsWithin}
use Rattle.answer_bytes.specs.Sizes.{longest_other_answer}
use Rattle.answer_bytes.specs.Writing.{WritesReply}
use Rattle.answer_bytes.proofs.Arms.{matched}
use Rattle.frames.specs.Answering.{room_for}
use Rattle.frames.proofs.Arms.{is-snapshot, supplied-is, writes-supplied, room-bounds, is_lent, refuses}
use Rattle.frames.proofs.without_ledger.Lts as place
use Rattle.frames.proofs.without_ledger.Tie as tie
use Rattle.frames.proofs.without_ledger.Goals as goal

abbrev Start : Type 0
Start = place.Start tie.the-claims tie.handed_pre tie.handed_post

abbrev After-slice_known-1 : Type 0
After-slice_known-1 = place.After-slice_known tie.the-claims tie.handed_pre tie.handed_post

module _ (c : After-slice_known-1) where
  abbrev start : Start
  start = c.before.before

  abbrev bytes : List ℕ
  bytes = start.args.bytes.now

  abbrev output : List ℕ
  output = start.args.output.now

  enough : longest_other_answer ≤ length output
  enough = omega (arith, (room-bounds (operation_in bytes start.args.frame)).0, start.requires.1)

  module _ {f : Frame} (is : start.args.frame ≡ f) where
    parts : PartsWithin bytes f
    parts = subst (PartsWithin bytes) is start.requires.0

    room : room_for (operation_in bytes f) ≤ length output
    room = subst (λ f. room_for (operation_in bytes f) ≤ length output) is start.requires.1

    told : {after : List ℕ} {written : ℕ} → WritesReply (answer_or23 unsound (operation_in bytes f)).reply output after written
        → WritesReply (answer_or23 unsound (operation_in bytes start.args.frame)).reply output after written
    told = matched (ap (λ f. (answer_or23 unsound (operation_in bytes f)).reply) is)

pub migrate-requires : goal.migrate-requires
migrate-requires c =
    let stands = parts c.before.before.before.before c.in-Migrate.is in
    (is-snapshot stands, subst (λ o. room_for o ≤ length (output c.before.before.before.before)) (supplied-is stands (migrate_to _)) (room c.before.before.before.before c.in-Migrate.is))

pub certificate_of_snapshot-requires : goal.certificate_of_snapshot-requires
certificate_of_snapshot-requires c = (is-snapshot (parts c.before.before.before.before c.in-CertificateOfSnapshot.is), enough c.before.before.before.before)

pub status-requires : goal.status-requires
status-requires c = (is-snapshot (parts c.before.before.before.before c.in-Status.is), enough c.before.before.before.before)

pub returns-in-Migrate : goal.returns-in-Migrate
unfolding answer
returns-in-Migrate c =
    told c.before.before.before.before.before.before.before c.in-Migrate.is (writes-supplied (parts c.before.before.before.before.before.before.before c.in-Migrate.is) (migrate_to _) c.migrate.ensures)

pub returns-in-CertificateOfSnapshot : goal.returns-in-CertificateOfSnapshot
unfolding answer
returns-in-CertificateOfSnapshot c =
    told c.before.before.before.before.before.before.before c.in-CertificateOfSnapshot.is (writes-supplied (parts c.before.before.before.before.before.before.before c.in-CertificateOfSnapshot.is) (certify _) c.certificate_of_snapshot.ensures)

pub returns-in-Status : goal.returns-in-Status
unfolding answer
returns-in-Status c =
    told c.before.before.before.before.before.before.before c.in-Status.is (writes-supplied (parts c.before.before.before.before.before.before.before c.in-Status.is) judge c.status.ensures)

pub returns-in_default : goal.returns-in_default
returns-in_default c =
    let entry = start c.before.before.before.before.before.before in
    matched (refuses (bytes c.before.before.before.before.before.before) entry.args.frame (is_lent entry.args.frame c.in_default.not-Migrate c.in_default.not-CertificateOfSnapshot c.in_default.not-Status) entry.requires.0) c.write_refusal.ensures

pub slice_bounds-migrate-count : goal.slice_bounds-migrate-count
slice_bounds-migrate-count c = (parts c.before.before c.in-Migrate.is).within

pub slice_bounds-migrate-start : goal.slice_bounds-migrate-start
slice_bounds-migrate-start c = (parts c.before.before c.in-Migrate.is).within

pub slice_bounds-certificate_of_snapshot-count : goal.slice_bounds-certificate_of_snapshot-count
slice_bounds-certificate_of_snapshot-count c = (parts c.before.before c.in-CertificateOfSnapshot.is).within

pub slice_bounds-certificate_of_snapshot-start : goal.slice_bounds-certificate_of_snapshot-start
slice_bounds-certificate_of_snapshot-start c = (parts c.before.before c.in-CertificateOfSnapshot.is).within

pub slice_bounds-status-count : goal.slice_bounds-status-count
slice_bounds-status-count c = (parts c.before.before c.in-Status.is).within

pub slice_bounds-status-start : goal.slice_bounds-status-start
slice_bounds-status-start c = (parts c.before.before c.in-Status.is).within

pub write_refusal-requires : goal.write_refusal-requires
write_refusal-requires c = enough c.before.before.before
