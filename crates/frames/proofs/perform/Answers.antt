-- `frames::perform`: `performs` turns what is promised of the frame matched into what is asked of the frame at hand, arm by arm. A snapshot that came with the
-- frame is the one in the part lent (`answers-supplied`), and frames that take no ledger leave it alone (`left_alone`, both of Arms.antt).
use mathlib.Core.Path.{◌≡◌, sym, subst}
use mathlib.Core.List.{List}
use Prim.Native.Nat.{ℕ, ◌-◌, ◌≤◌}
use native.Mathlib.Omega.{arith}
use lib.ListN.{length, take, drop}
use Rattle.rules.specs.RoomAndSoundLedger.{Ledger}
use Rattle.rules.specs.AnswerNumbers.{sound}
use Rattle.rules.specs.Frames.{restore_from, recover_from}
use Rattle.room.specs.Room.{SoundRoom}
use Rattle.snapshot_reader.specs.Standing.{IsSnapshot}
use Rattle.frame_reader.specs.declared.Frame.{Frame}
use Rattle.frame_reader.specs.Operations.{operation_in, StandsFrom, PartsWithin}
use Rattle.answer_bytes.specs.Sizes.{longest_other_answer}
use Rattle.frames.specs.Answering.{AnswersOperation, room_for}
use Rattle.frames.proofs.Arms.{is-snapshot, answers-supplied, room-bounds, is_unlent, takes_none, left_alone}
use Rattle.frames.proofs.perform.Lts as place
use Rattle.frames.proofs.perform.Tie as tie
use Rattle.frames.proofs.perform.Goals as goal

abbrev Start : Type 0
Start = place.Start tie.the-claims tie.handed_pre tie.handed_post

abbrev After-slice_known-2-1 : Type 0
After-slice_known-2-1 = place.After-slice_known2 tie.the-claims tie.handed_pre tie.handed_post

module _ (c : After-slice_known-2-1) where
  abbrev start : Start
  start = c.before.before.before

  abbrev memory : List ℕ
  memory = start.args.room.now

  abbrev bytes : List ℕ
  bytes = start.args.bytes.now

  abbrev output : List ℕ
  output = start.args.output.now

  ready : SoundRoom memory × (longest_other_answer ≤ length output)
  ready = (start.requires.0, omega (arith, (room-bounds (operation_in bytes start.args.frame)).0, start.requires.1.1))

  supplied-ready : {from : ℕ} → StandsFrom from bytes → SoundRoom memory × IsSnapshot (take (length bytes - from) (drop from bytes)) × (longest_other_answer ≤ length output)
  supplied-ready stands = (ready.0, is-snapshot stands, ready.1)

  module _ {f : Frame} (is : start.args.frame ≡ f) where
    parts : PartsWithin bytes f
    parts = subst (PartsWithin bytes) is start.requires.1.0

    room : room_for (operation_in bytes f) ≤ length output
    room = subst (λ f. room_for (operation_in bytes f) ≤ length output) is start.requires.1.1

    performs : {L : Ledger} {after output-after : List ℕ} {written : ℕ} → AnswersOperation (operation_in bytes f) (sound L) memory after output output-after written
        → AnswersOperation (operation_in bytes start.args.frame) (sound L) memory after output output-after written
    performs {L} {after} {output-after} {written} = subst (λ f. AnswersOperation (operation_in bytes f) (sound L) memory after output output-after written) (sym is)

pub snapshot-requires : goal.snapshot-requires
snapshot-requires c = ((ready c.before.before.before.before).0, room c.before.before.before.before c.in-Snapshot.is)

pub returns-in-Restore : goal.returns-in-Restore
returns-in-Restore c L room =
    performs c.before.before.before.before.before.before.before.before.before.before c.in-Restore.is (answers-supplied (parts c.before.before.before.before.before.before.before.before.before.before c.in-Restore.is) restore_from (λ s e. c.restore.ensures s e L room))

pub returns-in-RecoveryRestore : goal.returns-in-RecoveryRestore
returns-in-RecoveryRestore c L room =
    performs c.before.before.before.before.before.before.before.before.before.before c.in-RecoveryRestore.is (answers-supplied (parts c.before.before.before.before.before.before.before.before.before.before c.in-RecoveryRestore.is) recover_from (λ s e. c.recovery_restore.ensures s e L room))

pub returns-in_default : goal.returns-in_default
returns-in_default c L is_room =
    let entry = start c.before.before.before.before.before.before in
    let other = c.in_default in
    left_alone
    (takes_none entry.args.bytes.now (sound L) entry.args.frame
    (is_unlent entry.args.frame other.not-Ensure other.not-TopUp other.not-Limit other.not-Reserve other.not-Commit other.not-Release other.not-Snapshot
    other.not-Restore other.not-RecoveryRestore other.not-Certificate other.not-ConservationProof))
    is_room c.without_ledger.ensures

pub slice_bounds-ensure-count : goal.slice_bounds-ensure-count
slice_bounds-ensure-count c = (parts c.before.before.before c.in-Ensure.is).0

pub slice_bounds-ensure-start : goal.slice_bounds-ensure-start
slice_bounds-ensure-start c = (parts c.before.before.before c.in-Ensure.is).0

pub slice_bounds-ensure-end : goal.slice_bounds-ensure-end
slice_bounds-ensure-end c = (parts c.before.before.before c.in-Ensure.is).1

pub ensure-requires : goal.ensure-requires
ensure-requires c = ready c.before.before.before.before.before

pub slice_bounds-top_up-count : goal.slice_bounds-top_up-count
slice_bounds-top_up-count c = (parts c.before.before.before c.in-TopUp.is).0

pub slice_bounds-top_up-start : goal.slice_bounds-top_up-start
slice_bounds-top_up-start c = (parts c.before.before.before c.in-TopUp.is).0

pub slice_bounds-top_up-end : goal.slice_bounds-top_up-end
slice_bounds-top_up-end c = (parts c.before.before.before c.in-TopUp.is).1

pub top_up-requires : goal.top_up-requires
top_up-requires c = ready c.before.before.before.before.before

pub slice_bounds-limit-count : goal.slice_bounds-limit-count
slice_bounds-limit-count c = (parts c.before.before.before c.in-Limit.is).0

pub slice_bounds-limit-start : goal.slice_bounds-limit-start
slice_bounds-limit-start c = (parts c.before.before.before c.in-Limit.is).0

pub slice_bounds-limit-end : goal.slice_bounds-limit-end
slice_bounds-limit-end c = (parts c.before.before.before c.in-Limit.is).1

pub limit-requires : goal.limit-requires
limit-requires c = ready c.before.before.before.before.before

pub slice_bounds-reserve-count : goal.slice_bounds-reserve-count
slice_bounds-reserve-count c = (parts c.before.before.before c.in-Reserve.is).0

pub slice_bounds-reserve-start : goal.slice_bounds-reserve-start
slice_bounds-reserve-start c = (parts c.before.before.before c.in-Reserve.is).0

pub slice_bounds-reserve-end : goal.slice_bounds-reserve-end
slice_bounds-reserve-end c = (parts c.before.before.before c.in-Reserve.is).1

pub reserve-requires : goal.reserve-requires
reserve-requires c = ready c.before.before.before.before.before

pub commit-requires : goal.commit-requires
commit-requires c = ready c.before.before.before.before

pub release-requires : goal.release-requires
release-requires c = ready c.before.before.before.before

pub slice_bounds-restore-count : goal.slice_bounds-restore-count
slice_bounds-restore-count c = (parts c.before.before.before c.in-Restore.is).within

pub slice_bounds-restore-start : goal.slice_bounds-restore-start
slice_bounds-restore-start c = (parts c.before.before.before c.in-Restore.is).within

pub restore-requires : goal.restore-requires
restore-requires c = supplied-ready c.before.before.before.before.before (parts c.before.before.before.before.before c.in-Restore.is)

pub slice_bounds-recovery_restore-count : goal.slice_bounds-recovery_restore-count
slice_bounds-recovery_restore-count c = (parts c.before.before.before c.in-RecoveryRestore.is).within

pub slice_bounds-recovery_restore-start : goal.slice_bounds-recovery_restore-start
slice_bounds-recovery_restore-start c = (parts c.before.before.before c.in-RecoveryRestore.is).within

pub recovery_restore-requires : goal.recovery_restore-requires
recovery_restore-requires c = supplied-ready c.before.before.before.before.before (parts c.before.before.before.before.before c.in-RecoveryRestore.is)

pub certificate-requires : goal.certificate-requires
certificate-requires c = ready c.before.before.before.before

pub conservation_proof-requires : goal.conservation_proof-requires
conservation_proof-requires c = ready c.before.before.before.before

pub shape_of-room-in-Ensure : goal.shape_of-room-in-Ensure
shape_of-room-in-Ensure c = c.room-1.given

pub shape_of-output-in-Ensure : goal.shape_of-output-in-Ensure
shape_of-output-in-Ensure c = c.output-1.given

pub returns-in-Ensure : goal.returns-in-Ensure
returns-in-Ensure c L room = performs c.before.before.before.before.before.before.before.before.before.before c.in-Ensure.is (c.ensure.ensures L room)

pub shape_of-room-in-TopUp : goal.shape_of-room-in-TopUp
shape_of-room-in-TopUp c = c.room-in-TopUp-1.given

pub shape_of-output-in-TopUp : goal.shape_of-output-in-TopUp
shape_of-output-in-TopUp c = c.output-in-TopUp-1.given

pub returns-in-TopUp : goal.returns-in-TopUp
returns-in-TopUp c L room = performs c.before.before.before.before.before.before.before.before.before.before c.in-TopUp.is (c.top_up.ensures L room)

pub shape_of-room-in-Limit : goal.shape_of-room-in-Limit
shape_of-room-in-Limit c = c.room-in-Limit-1.given

pub shape_of-output-in-Limit : goal.shape_of-output-in-Limit
shape_of-output-in-Limit c = c.output-in-Limit-1.given

pub returns-in-Limit : goal.returns-in-Limit
returns-in-Limit c L room = performs c.before.before.before.before.before.before.before.before.before.before c.in-Limit.is (c.limit.ensures L room)

pub shape_of-room-in-Reserve : goal.shape_of-room-in-Reserve
shape_of-room-in-Reserve c = c.room-in-Reserve-1.given

pub shape_of-output-in-Reserve : goal.shape_of-output-in-Reserve
shape_of-output-in-Reserve c = c.output-in-Reserve-1.given

pub returns-in-Reserve : goal.returns-in-Reserve
returns-in-Reserve c L room = performs c.before.before.before.before.before.before.before.before.before.before c.in-Reserve.is (c.reserve.ensures L room)

pub shape_of-room-in-Commit : goal.shape_of-room-in-Commit
shape_of-room-in-Commit c = c.room-in-Commit-1.given

pub shape_of-output-in-Commit : goal.shape_of-output-in-Commit
shape_of-output-in-Commit c = c.output-in-Commit-1.given

pub returns-in-Commit : goal.returns-in-Commit
returns-in-Commit c L room = performs c.before.before.before.before.before.before.before.before.before c.in-Commit.is (c.commit.ensures L room)

pub shape_of-room-in-Release : goal.shape_of-room-in-Release
shape_of-room-in-Release c = c.room-in-Release-1.given

pub shape_of-output-in-Release : goal.shape_of-output-in-Release
shape_of-output-in-Release c = c.output-in-Release-1.given

pub returns-in-Release : goal.returns-in-Release
returns-in-Release c L room = performs c.before.before.before.before.before.before.before.before.before c.in-Release.is (c.release.ensures L room)

pub shape_of-room-in-Snapshot : goal.shape_of-room-in-Snapshot
shape_of-room-in-Snapshot c = c.room-in-Snapshot-1.given

pub shape_of-output-in-Snapshot : goal.shape_of-output-in-Snapshot
shape_of-output-in-Snapshot c = c.output-in-Snapshot-1.given

pub returns-in-Snapshot : goal.returns-in-Snapshot
returns-in-Snapshot c L room = performs c.before.before.before.before.before.before.before.before.before c.in-Snapshot.is (c.snapshot.ensures L room)

pub shape_of-room-in-Restore : goal.shape_of-room-in-Restore
shape_of-room-in-Restore c = c.room-in-Restore-1.given

pub shape_of-output-in-Restore : goal.shape_of-output-in-Restore
shape_of-output-in-Restore c = c.output-in-Restore-1.given

pub shape_of-room-in-RecoveryRestore : goal.shape_of-room-in-RecoveryRestore
shape_of-room-in-RecoveryRestore c = c.room-in-RecoveryRestore-1.given

pub shape_of-output-in-RecoveryRestore : goal.shape_of-output-in-RecoveryRestore
shape_of-output-in-RecoveryRestore c = c.output-in-RecoveryRestore-1.given

pub shape_of-room-in-Certificate : goal.shape_of-room-in-Certificate
shape_of-room-in-Certificate c = c.room-in-Certificate-1.given

pub shape_of-output-in-Certificate : goal.shape_of-output-in-Certificate
shape_of-output-in-Certificate c = c.output-in-Certificate-1.given

pub returns-in-Certificate : goal.returns-in-Certificate
returns-in-Certificate c L room = performs c.before.before.before.before.before.before.before.before.before c.in-Certificate.is (c.certificate.ensures L room)

pub shape_of-room-in-ConservationProof : goal.shape_of-room-in-ConservationProof
shape_of-room-in-ConservationProof c = c.room-in-ConservationProof-1.given

pub shape_of-output-in-ConservationProof : goal.shape_of-output-in-ConservationProof
shape_of-output-in-ConservationProof c = c.output-in-ConservationProof-1.given

pub returns-in-ConservationProof : goal.returns-in-ConservationProof
returns-in-ConservationProof c L room = performs c.before.before.before.before.before.before.before.before.before c.in-ConservationProof.is (c.conservation_proof.ensures L room)

pub shape_of-output-in_default : goal.shape_of-output-in_default
shape_of-output-in_default c = c.output-in_default-1.given
