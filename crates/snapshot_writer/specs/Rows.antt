-- A place's row in a snapshot, and what the rows written so far have made of the output.
use Rattle.std.specs.Prelude.{◌≡◌, ℕ, ◌+◌, pos, length, take, drop}
use mathlib.Core.List.{List, ◌++◌, flat_map}
use Rattle.rules.specs.RoomAndSoundLedger.{Ledger}
use Rattle.rules.specs.SnapshotsMigrationCertificates.{Row, bytes_of, row_bytes, account_rows}
use Rattle.big_endian.specs.Layout.{snapshot_header}
use Rattle.names.specs.Names.{spelled}
use Rattle.records.specs.declared.Place.{Place}
use Rattle.snapshot_writer.specs.declared.Extent.{Extent}

abbrev pub row_in_place : Place → Row
row_in_place p =
    record { name = spelled p.name; initial = pos p.initial; remaining = pos p.remaining; reserved = pos p.reserved; committed = pos p.committed }

-- a row's four amounts
abbrev pub amounts_bytes : Place → List ℕ
amounts_bytes p = bytes_of 8 p.initial ++ bytes_of 8 p.remaining ++ bytes_of 8 p.reserved ++ bytes_of 8 p.committed

-- the numbers before the rows
abbrev pub header_bytes : (version active count : ℕ) → List ℕ
header_bytes version active count = bytes_of 8 version ++ bytes_of 8 active ++ bytes_of 2 count

-- the bytes of all rows of a ledger's own snapshot
abbrev pub account_bytes : Ledger → List ℕ
account_bytes L = flat_map row_bytes (account_rows L.places)

-- these rows stand in the output after the room for the header; what stood past them stands there still
pub record WritesRows (rs : List Row) (before after : List ℕ) (e : Extent) : Type 0 where
  pub rows : e.rows ≡ length rs
  pub end : e.end ≡ snapshot_header + length (flat_map row_bytes rs)
  pub output : after ≡ take snapshot_header before ++ flat_map row_bytes rs ++ drop e.end before

-- behind whatever rows are written, these more
abbrev pub Appends : List Row → (before after : List ℕ) (from to : Extent) → Type 0
Appends more before after from to = (first : List ℕ) (rs : List Row) → WritesRows rs first before from → WritesRows (rs ++ more) first after to
