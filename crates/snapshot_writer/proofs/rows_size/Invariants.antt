-- `snapshot_writer::rows_size` meets its contract. The invariant: the size is that of the rows of the places passed, which no sum lets overflow: each is at
-- most the longest.
use mathlib.Core.Path.{◌≡◌}
use Rattle.snapshot_writer.proofs.PlaceRows.{size_to}
use Rattle.snapshot_writer.proofs.rows_size.Given as goal

abbrev pub invariant-loop-i : goal.invariant-loop-i
invariant-loop-i l = l.size ≡ size_to l.room l.i
