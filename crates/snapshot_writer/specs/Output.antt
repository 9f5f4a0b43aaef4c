-- The row of a place.
use Rattle.std.specs.Prelude.{cond, List, [], ◌∷◌, ℕ, ◌+◌, eqb}
use Rattle.rules.specs.SnapshotsMigrationCertificates.{Row}
use Rattle.big_endian.specs.Layout.{shortest_row}
use Rattle.records.specs.declared.Place.{Place}
use Rattle.snapshot_writer.specs.Rows.{row_in_place}

-- a place's row, where it has an account
abbrev pub row_of_place : Place → List Row
row_of_place p = cond (eqb p.account 0) [] (row_in_place p ∷ [])

-- its length: the name's length, the name and four amounts
abbrev pub row_size : Place → ℕ
row_size p = cond (eqb p.account 0) 0 (shortest_row + p.name.length)
