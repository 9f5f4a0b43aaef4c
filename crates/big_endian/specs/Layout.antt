-- How long the parts of a snapshot's bytes are, and where its header's numbers start (document 01, "Snapshots, migration, certificates"): said here once
-- for specs and proofs, as crates/rules/src/lib.rt says it for code. If the two differ, the crates that read and write snapshots are not proved.
use Rattle.std.specs.Prelude.{ℕ, ◌+◌, ◌*◌}
use Rattle.rules.specs.RoomAndSoundLedger.{longest_name}

-- version, active count, row count
abbrev pub active_start : ℕ
active_start = 8

abbrev pub count_start : ℕ
count_start = active_start + 8

abbrev pub snapshot_header : ℕ
snapshot_header = count_start + 2

-- a row: the name's length, the name, four amounts; the shortest has an empty name
abbrev pub row_amounts : ℕ
row_amounts = 4 * 8

abbrev pub shortest_row : ℕ
shortest_row = 1 + row_amounts

abbrev pub longest_row : ℕ
longest_row = shortest_row + longest_name
