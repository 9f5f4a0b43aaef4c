-- What the contracts leave open: nothing. For any memory, any bytes and any output, the result, every byte of the memory and every byte of the output are
-- fixed: by whether the bytes are a snapshot, by the soundness of the memory, and by the answer, from which the result can be read back (Results).
use mathlib.Core.Path.{◌≡◌, sym, ◌∙◌, ap}
use mathlib.Core.List.{List}
use mathlib.Core.Option.{Option, none, some}
use Prim.Native.Nat.{ℕ, ◌≤◌}
use lib.ListN.{length}
use Rattle.std.specs.Prelude.{Result, IfOk}
use Rattle.rules.specs.Lists.{All}
use Rattle.rules.specs.RoomAndSoundLedger.{Ledger, IsByte}
use Rattle.rules.specs.AnswerNumbers.{Reply, Outcome}
use Rattle.rules.specs.SnapshotsMigrationCertificates.{Snapshot, snapshot, output_after}
use Rattle.refusals.specs.declared.Refusal.{Refusal}
use Rattle.refusals.specs.Answers.{answer_of, carries_nothing, carries_snapshot}
use Rattle.refusals.proofs.SameResult.{one-result, nothing-read, same-result}
use Rattle.room.specs.Room.{Answers}
use Rattle.room.proofs.SameAnswers.{same_answer}
use Rattle.certificates.specs.declared.Certificate.{Certificate}
use Rattle.certificates.specs.Certified.{carries_certificate}
use Rattle.any_memory_snapshots.specs.Supplied.{AnswersSnapshot}
use Rattle.any_memory_snapshots.proofs.Results.{certified-read, sized_in, size-read}

-- of `certificate` and `conservation_proof`, which take no bytes and no output, `same-result` (crate room) says it, with `certified-read` and `proved-read`

-- of the output: the answer and what stood there fix it
pub same-output : (r s : Reply) (before after others : List ℕ) → after ≡ output_after r before → others ≡ output_after s before → r ≡ s → after ≡ others
same-output r s before after others one two same = one ∙ ap (λ t. output_after t before) same ∙ sym two

module _ (f : Ledger → Snapshot → Outcome) (before after others : List ℕ) (bytes : All IsByte after) (other-bytes : All IsByte others) where
  same-reply : (r s : Reply) (o : Option Snapshot) → AnswersSnapshot f o before r after → AnswersSnapshot f o before s others → (r ≡ s) × (after ≡ others)
  same-reply r s none one two = (one.0 ∙ sym two.0, one.1 ∙ sym two.1)
  same-reply r s (some supplied) one two = same_answer before (λ L. f L supplied) r after bytes one s others other-bytes two

  -- of `restore` and `recovery_restore`
  pub same-restore : (r s : Result (Unit {0}) Refusal) (o : Option Snapshot)
      → AnswersSnapshot f o before (answer_of carries_nothing r) after → AnswersSnapshot f o before (answer_of carries_nothing s) others → (r ≡ s) × (after ≡ others)
  same-restore r s o one two =
      let same = same-reply (answer_of carries_nothing r) (answer_of carries_nothing s) o one two in
      (same-result carries_nothing nothing-read r s same.0, same.1)

-- of `status`
pub same-status : (answer : Reply) (r s : Result (Unit {0}) Refusal) → answer_of carries_nothing r ≡ answer → answer_of carries_nothing s ≡ answer → r ≡ s
same-status answer r s one two = same-result carries_nothing nothing-read r s (one ∙ sym two)

-- of `certificate_of_snapshot`
pub same-certificate : (answer : Reply) (r s : Result Certificate Refusal) → answer_of carries_certificate r ≡ answer → answer_of carries_certificate s ≡ answer → r ≡ s
same-certificate answer r s one two = one-result (answer_of carries_certificate) certified-read r s (one ∙ sym two)

-- of the two that write a snapshot
module _ (output output-after output-others : List ℕ) (r s : Result ℕ Refusal) (size : IfOk r (λ n. n ≤ length output)) (other-size : IfOk s (λ n. n ≤ length output))
    (written : output-after ≡ output_after (answer_of (carries_snapshot output-after) r) output)
    (also-written : output-others ≡ output_after (answer_of (carries_snapshot output-others) s) output) where
  same-written : answer_of (carries_snapshot output-after) r ≡ answer_of (carries_snapshot output-others) s → (r ≡ s) × (output-after ≡ output-others)
  same-written same = (
    sym (size-read output output-after r written size) ∙ ap sized_in same ∙ size-read output output-others s also-written other-size,
    same-output (answer_of (carries_snapshot output-after) r) (answer_of (carries_snapshot output-others) s) output output-after output-others written also-written same,
  )

  -- of `migrate`
  pub same-migration : (answer : Reply) → answer_of (carries_snapshot output-after) r ≡ answer → answer_of (carries_snapshot output-others) s ≡ answer
      → (r ≡ s) × (output-after ≡ output-others)
  same-migration answer one two = same-written (one ∙ sym two)

  -- of `snapshot`
  pub same-snapshot : (before after others : List ℕ) → All IsByte after → All IsByte others
      → Answers (snapshot (length output)) before (answer_of (carries_snapshot output-after) r) after
      → Answers (snapshot (length output)) before (answer_of (carries_snapshot output-others) s) others
      → (r ≡ s) × (after ≡ others) × (output-after ≡ output-others)
  same-snapshot before after others bytes other-bytes one two =
      let same =
      same_answer before (snapshot (length output)) (answer_of (carries_snapshot output-after) r) after bytes one (answer_of (carries_snapshot output-others) s) others other-bytes
      two in
      let both = same-written same.0 in
      (both.0, same.1, both.1)
