-- What an operation promises that is handed any bytes as a snapshot: 23, then 24 where a ledger is lent, then the operation of the rules.
use Rattle.std.specs.Prelude.{◌≡◌, ◌⊎◌, List, ℕ, Result, Ok, Err}
use Rattle.std.proofs.Math.Option.{Option, none, some}
use Rattle.rules.specs.RoomAndSoundLedger.{Ledger}
use Rattle.rules.specs.AnswerNumbers.{Reply, BadFrame, reply_of, Outcome}
use Rattle.rules.specs.SnapshotsMigrationCertificates.{Snapshot, snapshot_of_bytes}
use Rattle.snapshot_reader.specs.Standing.{IsSnapshot}
use Rattle.refusals.specs.declared.Refusal.{Refusal}
use Rattle.refusals.specs.declared.Refusal.TheVariants as refusal
use Rattle.room.specs.Room.{SoundRoom, Answers}

-- 23 is the first of all answers (document 01, "Answer numbers"): bytes that are no snapshot are refused before the memory is looked at, and it is untouched
abbrev pub AnswersSnapshot : (Ledger → Snapshot → Outcome) → Option Snapshot → (before : List ℕ) → Reply → (after : List ℕ) → Type 0
AnswersSnapshot f none before r after = (r ≡ reply_of BadFrame) × (after ≡ before)
AnswersSnapshot f (some s) before r after = Answers (λ L. f L s) before r after

abbrev pub SoundOr24 : (room : List ℕ) → Result (Unit {0}) Refusal → Type 0
SoundOr24 room v = ((v ≡ Ok tt) × SoundRoom room) ⊎ ((v ≡ Err refusal.UnsoundLedger) × (SoundRoom room → ⊥))

-- the same order, of what both restores ask first: of bytes that are no snapshot the answer is 23 whatever the memory is
pub record FirstCheck (bytes room : List ℕ) (v : Result (Unit {0}) Refusal) : Type 0 where
  pub bad_frame : snapshot_of_bytes bytes ≡ none → v ≡ Err refusal.BadFrame
  pub read : IsSnapshot bytes → SoundOr24 room v

-- where no ledger is lent
abbrev pub on_supplied : (Snapshot → Reply) → Option Snapshot → Reply
on_supplied f none = reply_of BadFrame
on_supplied f (some s) = f s
