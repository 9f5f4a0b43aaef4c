-- `snapshot_writer::write_rows` meets its contract. The invariant: the rows of the places passed are written. What the requirement says of all rows bounds
-- those passed (PlaceRows).
use Rattle.snapshot_writer.specs.Rows.{WritesRows}
use Rattle.snapshot_writer.proofs.PlaceRows.{rows_to}
use Rattle.snapshot_writer.proofs.write_rows.Given as goal

abbrev pub invariant-loop-i : goal.invariant-loop-i
invariant-loop-i l = WritesRows (rows_to l.room l.i) l.initial.output l.output l.extent
