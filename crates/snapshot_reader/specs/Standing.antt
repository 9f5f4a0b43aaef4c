-- A supplied snapshot, read where it stands in the lent bytes: no row is copied to be read.
use Rattle.std.specs.Prelude.{◌≡◌, Bool, true, false, cond, List, [], ◌∷◌, ◌++◌, ℕ, ◌+◌, ◌≤◌, ◌<◌, length, get_or, take, drop, Option as Found, Some, None, Result, Ok, Err, MatchResult}
use Rattle.std.proofs.Math.Option.{Option, none, some}
use Rattle.rules.specs.SnapshotsMigrationCertificates.{Row, Snapshot, Reading, read_rows, snapshot_of_bytes, has_long_name}
use Rattle.big_endian.specs.Layout.{row_amounts}
use Rattle.snapshot_reader.specs.declared.StandingRow.{StandingRow}
use Rattle.refusals.specs.declared.Refusal.{Refusal}
use Rattle.refusals.specs.declared.Refusal.TheVariants.{NameTooLong, BadFrame}

-- what bytes come to that are this snapshot, or none: 23 before 19
abbrev pub checked_as : Option Snapshot → Result (Unit {0}) Refusal
checked_as none = Err BadFrame
checked_as (some s) = cond (has_long_name s.rows) (Err NameTooLong) (Ok tt)

-- whether bytes are a snapshot
abbrev pub is_read : Option Snapshot → Bool
is_read none = false
is_read (some s) = true

-- bytes that are a snapshot
pub record IsSnapshot (bs : List ℕ) : Type 0 where
  pub snapshot : Snapshot
  pub is_read : snapshot_of_bytes bs ≡ some snapshot

-- bytes that are no snapshot are refused with 23, and no others
abbrev pub ExpectsSnapshot : List ℕ → Result (Unit {0}) Refusal → Type 0
ExpectsSnapshot bs r = MatchResult r (λ _. IsSnapshot bs) (λ e. (e ≡ BadFrame) × (snapshot_of_bytes bs ≡ none))

-- what holds of the snapshot that the bytes are
abbrev pub OfSnapshot : List ℕ → (Snapshot → Type 0) → Type 0
OfSnapshot bs P = (s : Snapshot) → snapshot_of_bytes bs ≡ some s → P s

-- from this byte on, the bytes are just these rows
pub record RowsFrom (bs : List ℕ) (at : ℕ) (rs : List Row) : Type 0 where
  pub within : at ≤ length bs
  pub read : read_rows (length rs) (drop at bs) ≡ some (record { value = rs; rest = [] })

-- a row starts at this byte, and later ones follow
pub record RowStands (bs : List ℕ) (at : ℕ) : Type 0 where
  pub row : Row
  pub later : List Row
  pub from : RowsFrom bs at (row ∷ later)

-- what holds of the row that starts at this byte, and of the rows after it
abbrev pub OfRow : (bs : List ℕ) (at : ℕ) → (Row → List Row → Type 0) → Type 0
OfRow bs at P = (row : Row) (later : List Row) → RowsFrom bs at (row ∷ later) → P row later

-- a snapshot without a name of more than 24 bytes
pub record ShortNames (bs : List ℕ) : Type 0 where
  pub snapshot : Snapshot
  pub is_read : snapshot_of_bytes bs ≡ some snapshot
  pub short : has_long_name snapshot.rows ≡ false

-- a row of such a snapshot, between the rows before it and those after it
pub record RowOf (bs : List ℕ) (at : ℕ) : Type 0 where
  pub snapshot : Snapshot
  pub is_read : snapshot_of_bytes bs ≡ some snapshot
  pub short : has_long_name snapshot.rows ≡ false
  pub earlier : List Row
  pub row : Row
  pub later : List Row
  pub rows : snapshot.rows ≡ earlier ++ row ∷ later
  pub from : RowsFrom bs at (row ∷ later)

-- a pass over the rows that has come to this byte: those passed, those to come, and what holds of them
pub record Passed (bs : List ℕ) (all : List Row) (at : ℕ) (So-far : (earlier later : List Row) → Type 0) : Type 0 where
  pub earlier : List Row
  pub later : List Row
  pub rows : all ≡ earlier ++ later
  pub from : RowsFrom bs at later
  pub so_far : So-far earlier later

-- the end of the row that starts here: its first byte is its name's length, and the bytes after it are what the rules' reader leaves
pub record EndsRow (bs : List ℕ) (at : ℕ) (r : Reading Row) (end : ℕ) : Type 0 where
  pub further : at < end
  pub within : end ≤ length bs
  pub size : get_or bs at 0 ≡ length r.value.name
  pub rest : drop end bs ≡ r.rest

abbrev pub RowEnds : List ℕ → ℕ → Option (Reading Row) → Found ℕ → Type 0
RowEnds bs at none r = r ≡ None
RowEnds bs at (some reading) (Some end) = EndsRow bs at reading end
RowEnds bs at (some reading) None = ⊥

-- where the name of a row ends: it starts after its length, and four amounts of 8 bytes follow it
pub record EndsName (bs : List ℕ) (at : ℕ) (r : Row) (later : List Row) (end : ℕ) : Type 0 where
  pub size : end ≡ at + 1 + length r.name
  pub name : take (length r.name) (drop (at + 1) bs) ≡ r.name
  pub within : end + row_amounts ≤ length bs
  pub next : RowsFrom bs (end + row_amounts) later

-- the four amounts of a row, and where it ends
pub record ReadsRow (bs : List ℕ) (at : ℕ) (r : Row) (later : List Row) (read : StandingRow) : Type 0 where
  pub ends_name : EndsName bs at r later read.name_end
  pub initial : read.initial.0 ≡ r.initial
  pub remaining : read.remaining.0 ≡ r.remaining
  pub reserved : read.reserved.0 ≡ r.reserved
  pub committed : read.committed.0 ≡ r.committed
  pub end : read.end ≡ read.name_end + row_amounts
