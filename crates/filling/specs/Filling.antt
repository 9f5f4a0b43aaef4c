-- The rows of a snapshot that has passed every check, put in the place of what a room holds.
use Rattle.std.specs.Prelude.{◌≡◌, false, List, ℕ, ◌≤◌, min, ℤ, length}
use Rattle.std.proofs.Math.Option.{none, some}
use Rattle.rules.specs.RoomAndSoundLedger.{M, Ledger, with_places, committed_total, fresh}
use Rattle.rules.specs.AccountRules.{natural}
use Rattle.rules.specs.SnapshotsMigrationCertificates.{Row, Snapshot, snapshot_of_bytes, has_long_name, is_negative, validation, restored_places}
use Rattle.moves.specs.declared.Seat.{Seat}
use Rattle.snapshot_reader.specs.declared.StandingRow.{StandingRow}
use Rattle.room.specs.Contents.{contents_of}
use Rattle.room.specs.Room.{contents_in, IsRoom}

-- a snapshot that a ledger with room for so many names takes: every check of a restore but that of the version passes
pub record Takes (names : ℕ) (bs : List ℕ) : Type 0 where
  pub snapshot : Snapshot
  pub is_read : snapshot_of_bytes bs ≡ some snapshot
  pub short : has_long_name snapshot.rows ≡ false
  pub valid : validation snapshot ≡ none
  pub few : length snapshot.rows ≤ names

-- memory that holds this ledger, of the size it had
pub record Holds (L : Ledger) (before after : List ℕ) : Type 0 where
  pub size : length after ≡ length before
  pub contents : contents_of after ≡ contents_in L

-- an amount that is not negative
abbrev pub NotNegative : ℤ → Type 0
NotNegative z = is_negative z ≡ false

-- the amounts that a restore takes from a row
abbrev pub NoneNegative : StandingRow → Type 0
NoneNegative r = NotNegative r.initial.0 × NotNegative r.remaining.0 × NotNegative r.committed.0

-- a row's account, with nothing reserved and no limit
abbrev pub seat_of_row : Row → Seat
seat_of_row r =
    record { initial = natural r.initial; remaining = natural r.remaining; reserved = 0; committed = natural r.committed; limit = 0; account = 1 }

-- the room of a fresh ledger with these rows put into it, and the baseline that they give
pub record PutsRows (t r : ℕ) (rs : List Row) (room : List ℕ) (baseline : ℕ) : Type 0 where
  pub is_room : IsRoom room (with_places (fresh t r) (restored_places rs))
  pub total : baseline ≡ min (committed_total (restored_places rs)) M
