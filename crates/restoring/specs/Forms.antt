-- What both forms of a restore share, over what a form says of the version.
use Rattle.std.specs.Prelude.{List, ℕ}
use Rattle.std.proofs.Math.Option.{Option}
use Rattle.rules.specs.RoomAndSoundLedger.{Ledger, Sound}
use Rattle.rules.specs.AnswerNumbers.{Reply, Refusal, Outcome}
use Rattle.rules.specs.SnapshotsMigrationCertificates.{Snapshot, restored, or_else, restore_refusal}
use Rattle.rules.specs.Domain.{SnapshotFits}
use Rattle.snapshot_reader.specs.Standing.{OfSnapshot}
use Rattle.room.specs.Room.{Performs}

-- what either form comes to after its own check of the version
abbrev pub restore_by : (of-version : Option Refusal) → Ledger → Snapshot → Outcome
restore_by of-version L s = or_else (restore_refusal of-version L.T s) L (restored L s)

-- what a restore promises of bytes known to be a snapshot, and of memory known to be the room of a sound ledger
abbrev pub Restores : (Ledger → Snapshot → Outcome) → (bytes before : List ℕ) → Reply → (after : List ℕ) → Type 0
Restores f bytes before r after = OfSnapshot bytes (λ s. Performs (λ L. f L s) before r after)

-- what a form says of these bytes' version refuses every version that would leave no sound ledger
pub record Keeps (bytes : List ℕ) (of-version : Option Refusal) : Type 0 where
  pub sound : OfSnapshot bytes (λ s. SnapshotFits s → (L : Ledger) → Sound L → Sound (restore_by of-version L s).ledger)
