-- What the arms of `without_ledger` and `perform` share. A snapshot that comes with a frame is read once, and the part lent is all that follows, so what is
-- promised of the part's snapshot holds of the frame's operation (`on-supplied`). Frames that no arm names are told by their tags, one clause a frame.
use mathlib.Core.Path.{◌≡◌, refl, sym, ap, subst, ◌∙◌}
use mathlib.Core.List.{List, [], ◌∷◌}
use mathlib.Core.Logic.{◌≢◌}
use mathlib.Core.Option.{Option, none, some}
use Prim.Native.Nat.{ℕ, ◌-◌, ◌≤◌}
use native.Mathlib.Omega.{arith}
use denote.Enum.Declared.{tag_of, declared}
use types.Run.{OneOf, hit, miss}
use lib.ListN.{length, take, drop, length-drop}
use lib.Seq.{take_all}
use Rattle.rules.specs.AnswerNumbers.{Lent, unsound, UnsoundLedger, reply_of, Answered, answered, on_lent}
use Rattle.rules.specs.SnapshotsMigrationCertificates.{Snapshot, snapshot_of_bytes}
use Rattle.rules.specs.Frames.{Operation, on_account, take_snapshot, certify_ledger, prove_conservation, restore_from, recover_from, judge, migrate_to, certify, answer, answer_or23}
use Rattle.rules.proofs.Tests.{by-option}
use Rattle.numbers.specs.declared.Identifier.{Identifier}
use Rattle.numbers.specs.declared.Microcents.{Microcents}
use Rattle.snapshot_reader.specs.Standing.{IsSnapshot}
use Rattle.frame_reader.specs.declared.Frame.{Frame}
use Rattle.frame_reader.specs.declared.Frame.TheVariants as frame
use Rattle.frame_reader.specs.Operations.{word_end, supplied, operation_in, StandsFrom, PartsWithin}
use Rattle.frame_reader.specs.contracts.Frame.{enum}
use Rattle.answer_bytes.specs.Sizes.{longest_other_answer}
use Rattle.answer_bytes.specs.Writing.{WritesReply}
use Rattle.answer_bytes.proofs.Arms.{matched}
use Rattle.frames.specs.Answering.{IsLent, AnswersOperation, longest_answer, room_for}

-- ── a snapshot that stands from a byte on ──────────────────────────────────────────────────────

module _ {from : ℕ} {bs : List ℕ} (stands : StandsFrom from bs) where
  -- the part lent is all that follows
  part-is : take (length bs - from) (drop from bs) ≡ drop from bs
  part-is = take_all (length bs - from) (drop from bs) (omega (arith, length-drop from bs))

  is_read : snapshot_of_bytes (take (length bs - from) (drop from bs)) ≡ some stands.snapshot
  is_read = ap snapshot_of_bytes part-is ∙ stands.is_read

  pub is-snapshot : IsSnapshot (take (length bs - from) (drop from bs))
  is-snapshot = record { snapshot = stands.snapshot; is_read = is_read }

  pub supplied-is : (operation : Snapshot → Operation) → supplied operation (snapshot_of_bytes (drop from bs)) ≡ some (operation stands.snapshot)
  supplied-is operation = ap (supplied operation) stands.is_read

  -- what is promised of the operation on the snapshot in the part holds of the frame's operation
  on-supplied : (P : Option Operation → Type 0) (operation : Snapshot → Operation) → ((s : Snapshot) → snapshot_of_bytes (take (length bs - from) (drop from bs)) ≡ some s → P (some (operation s)))
      → P (supplied operation (snapshot_of_bytes (drop from bs)))
  on-supplied P operation holds = subst P (sym (supplied-is operation)) (holds stands.snapshot is_read)

  pub writes-supplied : (operation : Snapshot → Operation) {before after : List ℕ} {written : ℕ}
      → ((s : Snapshot) → snapshot_of_bytes (take (length bs - from) (drop from bs)) ≡ some s → WritesReply (answer unsound (operation s)).reply before after written)
      → WritesReply (answer_or23 unsound (supplied operation (snapshot_of_bytes (drop from bs)))).reply before after written
  writes-supplied operation {before} {after} {written} = on-supplied (λ o. WritesReply (answer_or23 unsound o).reply before after written) operation

  pub answers-supplied : (operation : Snapshot → Operation) {l : Lent} {before after output-before output-after : List ℕ} {written : ℕ}
      → ((s : Snapshot) → snapshot_of_bytes (take (length bs - from) (drop from bs)) ≡ some s → AnswersOperation (some (operation s)) l before after output-before output-after written)
      → AnswersOperation (supplied operation (snapshot_of_bytes (drop from bs))) l before after output-before output-after written
  answers-supplied operation {l} {before} {after} {output-before} {output-after} {written} = on-supplied (λ o. AnswersOperation o l before after output-before output-after written) operation

-- ── any operation ──────────────────────────────────────────────────────────────────────────────

-- room for a certificate is there whatever is asked, and no more than for a snapshot
pub room-bounds : (o : Option Operation) → (longest_other_answer ≤ room_for o) × (room_for o ≤ longest_answer)
room-bounds none = (omega arith, omega arith)
room-bounds (some (on_account x)) = (omega arith, omega arith)
room-bounds (some take_snapshot) = (omega arith, omega arith)
room-bounds (some certify_ledger) = (omega arith, omega arith)
room-bounds (some prove_conservation) = (omega arith, omega arith)
room-bounds (some (restore_from s)) = (omega arith, omega arith)
room-bounds (some (recover_from s)) = (omega arith, omega arith)
room-bounds (some (judge s)) = (omega arith, omega arith)
room-bounds (some (migrate_to fence s)) = (omega arith, omega arith)
room-bounds (some (certify since s)) = (omega arith, omega arith)

pub still-unsound : (o : Option Operation) → answer_or23 unsound o ≡ answered (answer_or23 unsound o).reply unsound
unfolding answer on_lent
still-unsound none = refl
still-unsound (some (on_account x)) = refl
still-unsound (some take_snapshot) = refl
still-unsound (some certify_ledger) = refl
still-unsound (some prove_conservation) = refl
still-unsound (some (restore_from s)) = refl
still-unsound (some (recover_from s)) = refl
still-unsound (some (judge s)) = refl
still-unsound (some (migrate_to fence s)) = refl
still-unsound (some (certify since s)) = refl

-- memory that an answer leaves as it is
pub left_alone : {o : Option Operation} {l : Lent} {memory before after : List ℕ} {written : ℕ} → answer_or23 l o ≡ answered (answer_or23 unsound o).reply l → IsLent memory l
    → WritesReply (answer_or23 unsound o).reply before after written → AnswersOperation o l memory memory before after written
left_alone {memory = memory} is lent writes = record {
  writes = matched (ap (λ (a : Answered). a.reply) is) writes;
  lent = subst (IsLent memory) (sym (ap (λ (a : Answered). a.lent) is)) lent;
  untouched = λ _. refl;
}

-- ── frames by their tags ───────────────────────────────────────────────────────────────────────

abbrev IsOneOf : List ℕ → Frame → Type 0
IsOneOf tags f = OneOf tags (tag_of (declared enum) f)

-- all but a snapshot and a migration
abbrev short_tags : List ℕ
short_tags = 0 ∷ 1 ∷ 2 ∷ 3 ∷ 4 ∷ 5 ∷ 7 ∷ 8 ∷ 10 ∷ 11 ∷ 12 ∷ 13 ∷ []

abbrev lent_tags : List ℕ
lent_tags = 0 ∷ 1 ∷ 2 ∷ 3 ∷ 4 ∷ 5 ∷ 6 ∷ 7 ∷ 8 ∷ 10 ∷ 12 ∷ []

abbrev unlent_tags : List ℕ
unlent_tags = 9 ∷ 11 ∷ 13 ∷ []

-- as code finds a frame that no arm names: one that is none of theirs has one of the other tags
pub is_short : (f : Frame) → f ≢ frame.Snapshot → ((fence : ℕ) → f ≢ frame.Migrate fence) → IsOneOf short_tags f
is_short (frame.Ensure end amount) _ _ = hit short_tags 0 tt
is_short (frame.TopUp end amount) _ _ = hit short_tags 1 tt
is_short (frame.Limit end amount) _ _ = hit short_tags 2 tt
is_short (frame.Reserve end amount) _ _ = hit short_tags 3 tt
is_short (frame.Commit id amount) _ _ = hit short_tags 4 tt
is_short (frame.Release id) _ _ = hit short_tags 5 tt
is_short frame.Snapshot other _ = absurd (other refl)
is_short frame.Restore _ _ = hit short_tags 7 tt
is_short frame.RecoveryRestore _ _ = hit short_tags 8 tt
is_short (frame.Migrate fence) _ other = absurd (other fence refl)
is_short frame.Certificate _ _ = hit short_tags 10 tt
is_short (frame.CertificateOfSnapshot since) _ _ = hit short_tags 11 tt
is_short frame.ConservationProof _ _ = hit short_tags 12 tt
is_short frame.Status _ _ = hit short_tags 13 tt

pub is_lent : (f : Frame)
    → ((fence : ℕ) → f ≢ frame.Migrate fence)
    → ((since : Microcents) → f ≢ frame.CertificateOfSnapshot since)
    → f ≢ frame.Status
    → IsOneOf lent_tags f
is_lent (frame.Ensure end amount) _ _ _ = hit lent_tags 0 tt
is_lent (frame.TopUp end amount) _ _ _ = hit lent_tags 1 tt
is_lent (frame.Limit end amount) _ _ _ = hit lent_tags 2 tt
is_lent (frame.Reserve end amount) _ _ _ = hit lent_tags 3 tt
is_lent (frame.Commit id amount) _ _ _ = hit lent_tags 4 tt
is_lent (frame.Release id) _ _ _ = hit lent_tags 5 tt
is_lent frame.Snapshot _ _ _ = hit lent_tags 6 tt
is_lent frame.Restore _ _ _ = hit lent_tags 7 tt
is_lent frame.RecoveryRestore _ _ _ = hit lent_tags 8 tt
is_lent (frame.Migrate fence) other _ _ = absurd (other fence refl)
is_lent frame.Certificate _ _ _ = hit lent_tags 10 tt
is_lent (frame.CertificateOfSnapshot since) _ other _ = absurd (other since refl)
is_lent frame.ConservationProof _ _ _ = hit lent_tags 12 tt
is_lent frame.Status _ _ other = absurd (other refl)

pub is_unlent : (f : Frame)
    → ((end : ℕ) (amount : Microcents) → f ≢ frame.Ensure end amount)
    → ((end : ℕ) (amount : Microcents) → f ≢ frame.TopUp end amount)
    → ((end : ℕ) (amount : Microcents) → f ≢ frame.Limit end amount)
    → ((end : ℕ) (amount : Microcents) → f ≢ frame.Reserve end amount)
    → ((id : Identifier) (amount : Microcents) → f ≢ frame.Commit id amount)
    → ((id : Identifier) → f ≢ frame.Release id)
    → f ≢ frame.Snapshot
    → f ≢ frame.Restore
    → f ≢ frame.RecoveryRestore
    → f ≢ frame.Certificate
    → f ≢ frame.ConservationProof
    → IsOneOf unlent_tags f
is_unlent (frame.Ensure end amount) other _ _ _ _ _ _ _ _ _ _ = absurd (other end amount refl)
is_unlent (frame.TopUp end amount) _ other _ _ _ _ _ _ _ _ _ = absurd (other end amount refl)
is_unlent (frame.Limit end amount) _ _ other _ _ _ _ _ _ _ _ = absurd (other end amount refl)
is_unlent (frame.Reserve end amount) _ _ _ other _ _ _ _ _ _ _ = absurd (other end amount refl)
is_unlent (frame.Commit id amount) _ _ _ _ other _ _ _ _ _ _ = absurd (other id amount refl)
is_unlent (frame.Release id) _ _ _ _ _ other _ _ _ _ _ = absurd (other id refl)
is_unlent frame.Snapshot _ _ _ _ _ _ other _ _ _ _ = absurd (other refl)
is_unlent frame.Restore _ _ _ _ _ _ _ other _ _ _ = absurd (other refl)
is_unlent frame.RecoveryRestore _ _ _ _ _ _ _ _ other _ _ = absurd (other refl)
is_unlent (frame.Migrate fence) _ _ _ _ _ _ _ _ _ _ _ = hit unlent_tags 9 tt
is_unlent frame.Certificate _ _ _ _ _ _ _ _ _ other _ = absurd (other refl)
is_unlent (frame.CertificateOfSnapshot since) _ _ _ _ _ _ _ _ _ _ _ = hit unlent_tags 11 tt
is_unlent frame.ConservationProof _ _ _ _ _ _ _ _ _ _ other = absurd (other refl)
is_unlent frame.Status _ _ _ _ _ _ _ _ _ _ _ = hit unlent_tags 13 tt

module _ (bs : List ℕ) where
  -- the room of an operation on a snapshot that is not handed out
  supplied-room : (operation : Snapshot → Operation) → ((s : Snapshot) → longest_other_answer ≡ room_for (some (operation s))) → (from : ℕ) → longest_other_answer ≡ room_for (supplied operation (snapshot_of_bytes (drop from bs)))
  supplied-room operation is from = by-option (λ o. longest_other_answer ≡ room_for (supplied operation o)) (snapshot_of_bytes (drop from bs)) (λ e. refl) (λ s e. is s)

  pub short-answer : (f : Frame) → IsOneOf short_tags f → longest_other_answer ≡ room_for (operation_in bs f)
  short-answer (frame.Ensure end amount) h = refl
  short-answer (frame.TopUp end amount) h = refl
  short-answer (frame.Limit end amount) h = refl
  short-answer (frame.Reserve end amount) h = refl
  short-answer (frame.Commit id amount) h = refl
  short-answer (frame.Release id) h = refl
  short-answer frame.Snapshot h = absurd (miss short_tags 6 tt h)
  short-answer frame.Restore h = supplied-room restore_from (λ s. refl) 1
  short-answer frame.RecoveryRestore h = supplied-room recover_from (λ s. refl) 1
  short-answer (frame.Migrate fence) h = absurd (miss short_tags 9 tt h)
  short-answer frame.Certificate h = refl
  short-answer (frame.CertificateOfSnapshot since) h = supplied-room (certify since.0) (λ s. refl) word_end
  short-answer frame.ConservationProof h = refl
  short-answer frame.Status h = supplied-room judge (λ s. refl) 1

  -- 24, of an operation that is one and asks for a ledger
  pub refuses : (f : Frame) → IsOneOf lent_tags f → PartsWithin bs f → (answer_or23 unsound (operation_in bs f)).reply ≡ reply_of UnsoundLedger
  unfolding answer on_lent
  refuses (frame.Ensure end amount) h within = refl
  refuses (frame.TopUp end amount) h within = refl
  refuses (frame.Limit end amount) h within = refl
  refuses (frame.Reserve end amount) h within = refl
  refuses (frame.Commit id amount) h within = refl
  refuses (frame.Release id) h within = refl
  refuses frame.Snapshot h within = refl
  refuses frame.Restore h within = ap (λ o. (answer_or23 unsound o).reply) (supplied-is within restore_from)
  refuses frame.RecoveryRestore h within = ap (λ o. (answer_or23 unsound o).reply) (supplied-is within recover_from)
  refuses (frame.Migrate fence) h within = absurd (miss lent_tags 9 tt h)
  refuses frame.Certificate h within = refl
  refuses (frame.CertificateOfSnapshot since) h within = absurd (miss lent_tags 11 tt h)
  refuses frame.ConservationProof h within = refl
  refuses frame.Status h within = absurd (miss lent_tags 13 tt h)

  -- no ledger is asked for: what is lent is no matter, and stays
  module _ (l : Lent) where
    no-matter : (operation : Snapshot → Operation) → ((s : Snapshot) → answer l (operation s) ≡ answered (answer unsound (operation s)).reply l)
        → (from : ℕ) → let o = supplied operation (snapshot_of_bytes (drop from bs)) in answer_or23 l o ≡ answered (answer_or23 unsound o).reply l
    no-matter operation is from =
        by-option (λ o. answer_or23 l (supplied operation o) ≡ answered (answer_or23 unsound (supplied operation o)).reply l) (snapshot_of_bytes (drop from bs)) (λ e. refl) (λ s e. is s)

    pub takes_none : (f : Frame) → IsOneOf unlent_tags f → answer_or23 l (operation_in bs f) ≡ answered (answer_or23 unsound (operation_in bs f)).reply l
    unfolding answer
    takes_none (frame.Ensure end amount) h = absurd (miss unlent_tags 0 tt h)
    takes_none (frame.TopUp end amount) h = absurd (miss unlent_tags 1 tt h)
    takes_none (frame.Limit end amount) h = absurd (miss unlent_tags 2 tt h)
    takes_none (frame.Reserve end amount) h = absurd (miss unlent_tags 3 tt h)
    takes_none (frame.Commit id amount) h = absurd (miss unlent_tags 4 tt h)
    takes_none (frame.Release id) h = absurd (miss unlent_tags 5 tt h)
    takes_none frame.Snapshot h = absurd (miss unlent_tags 6 tt h)
    takes_none frame.Restore h = absurd (miss unlent_tags 7 tt h)
    takes_none frame.RecoveryRestore h = absurd (miss unlent_tags 8 tt h)
    takes_none (frame.Migrate fence) h = no-matter (migrate_to fence) (λ s. refl) word_end
    takes_none frame.Certificate h = absurd (miss unlent_tags 10 tt h)
    takes_none (frame.CertificateOfSnapshot since) h = no-matter (certify since.0) (λ s. refl) word_end
    takes_none frame.ConservationProof h = absurd (miss unlent_tags 12 tt h)
    takes_none frame.Status h = no-matter judge (λ s. refl) 1
