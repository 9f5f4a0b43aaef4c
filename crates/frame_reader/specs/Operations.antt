-- A frame's bytes as an operation: what each answer of the reader says of the bytes in the words of the rules.
use Rattle.std.specs.Prelude.{◌≡◌, List, ℕ, ◌+◌, ◌-◌, ◌≤◌, length, get_or, take, drop, Option as Read, Some, None, IfSome}
use Rattle.std.proofs.Math.Option.{Option, none, some}
use Rattle.rules.specs.RoomAndSoundLedger.{Name}
use Rattle.rules.specs.AccountRules.{ensure, top_up, limit, reserve, commit, release}
use Rattle.rules.specs.SnapshotsMigrationCertificates.{Snapshot, snapshot_of_bytes}
use Rattle.rules.specs.Frames.{Operation, on_account, take_snapshot, certify_ledger, prove_conservation, restore_from, recover_from, judge, migrate_to, certify, operation_of}
use Rattle.frame_reader.specs.declared.Frame.{Frame}
use Rattle.frame_reader.specs.declared.Frame.TheVariants as frame

-- where a frame's parts stand: behind its code a word and perhaps another, or the length of a name and the name
abbrev pub word_end : ℕ
word_end = 1 + 8

abbrev pub two_words_end : ℕ
two_words_end = word_end + 8

abbrev pub name_start : ℕ
name_start = 1 + 1

-- a name is a part of the frame, not a copy
abbrev pub name_in : List ℕ → (end : ℕ) → Name
name_in bs end = take (end - name_start) (drop name_start bs)

-- an operation on the snapshot that stands from a byte on
abbrev pub supplied : (Snapshot → Operation) → Option Snapshot → Option Operation
supplied operation none = none
supplied operation (some s) = some (operation s)

abbrev pub operation_in : List ℕ → Frame → Option Operation
operation_in bs (frame.Ensure end amount) = some (on_account (ensure (name_in bs end) amount.0))
operation_in bs (frame.TopUp end amount) = some (on_account (top_up (name_in bs end) amount.0))
operation_in bs (frame.Limit end amount) = some (on_account (limit (name_in bs end) amount.0))
operation_in bs (frame.Reserve end amount) = some (on_account (reserve (name_in bs end) amount.0))
operation_in bs (frame.Commit id amount) = some (on_account (commit id.0 amount.0))
operation_in bs (frame.Release id) = some (on_account (release id.0))
operation_in bs frame.Snapshot = some take_snapshot
operation_in bs frame.Restore = supplied restore_from (snapshot_of_bytes (drop 1 bs))
operation_in bs frame.RecoveryRestore = supplied recover_from (snapshot_of_bytes (drop 1 bs))
operation_in bs (frame.Migrate fence) = supplied (migrate_to fence) (snapshot_of_bytes (drop word_end bs))
operation_in bs frame.Certificate = some certify_ledger
operation_in bs (frame.CertificateOfSnapshot since) = supplied (certify since.0) (snapshot_of_bytes (drop word_end bs))
operation_in bs frame.ConservationProof = some prove_conservation
operation_in bs frame.Status = supplied judge (snapshot_of_bytes (drop 1 bs))

-- what a frame that was read is, or none for a bad frame
abbrev pub operation_read : List ℕ → Read Frame → Option Operation
operation_read bs None = none
operation_read bs (Some f) = operation_in bs f

-- a snapshot stands from this byte on
pub record StandsFrom (from : ℕ) (bs : List ℕ) : Type 0 where
  pub within : from ≤ length bs
  pub snapshot : Snapshot
  pub is_read : snapshot_of_bytes (drop from bs) ≡ some snapshot

-- the parts that an operation names are within the frame
abbrev pub PartsWithin : List ℕ → Frame → Type 0
PartsWithin bs (frame.Ensure end amount) = (name_start ≤ end) × (end ≤ length bs)
PartsWithin bs (frame.TopUp end amount) = (name_start ≤ end) × (end ≤ length bs)
PartsWithin bs (frame.Limit end amount) = (name_start ≤ end) × (end ≤ length bs)
PartsWithin bs (frame.Reserve end amount) = (name_start ≤ end) × (end ≤ length bs)
PartsWithin bs (frame.Commit id amount) = Unit {0}
PartsWithin bs (frame.Release id) = Unit {0}
PartsWithin bs frame.Snapshot = Unit {0}
PartsWithin bs frame.Restore = StandsFrom 1 bs
PartsWithin bs frame.RecoveryRestore = StandsFrom 1 bs
PartsWithin bs (frame.Migrate fence) = StandsFrom word_end bs
PartsWithin bs frame.Certificate = Unit {0}
PartsWithin bs (frame.CertificateOfSnapshot since) = StandsFrom word_end bs
PartsWithin bs frame.ConservationProof = Unit {0}
PartsWithin bs frame.Status = StandsFrom 1 bs

-- of a frame that was read
abbrev pub PartsStand : List ℕ → Read Frame → Type 0
PartsStand bs read = IfSome read (PartsWithin bs)

-- ── what the readers ask and promise ───────────────────────────────────────────────────────────

abbrev pub HasCode : List ℕ → (code : ℕ) → Type 0
HasCode bs code = (1 ≤ length bs) × (get_or bs 0 0 ≡ code)

-- the reader's answer is the operation that the rules read
abbrev pub ReadsAs : List ℕ → Read Frame → Type 0
ReadsAs bs read = operation_read bs read ≡ operation_of bs
