-- `snapshot_writer::append_row` meets its contract: the lent part is as long as the row, which is put behind the others (Appending), and counted.
use mathlib.Core.Path.{◌≡◌, ◌∙◌}
use Prim.Native.Nat.{◌+◌, ◌-◌}
use native.Mathlib.Omega.{arith}
use lib.ListN.{length}
use Rattle.rules.specs.SnapshotsMigrationCertificates.{row_bytes}
use Rattle.big_endian.specs.Layout.{shortest_row}
use Rattle.records.proofs.Rows.{row-length}
use Rattle.snapshot_writer.specs.Rows.{row_in_place}
use Rattle.snapshot_writer.proofs.Appending.{row-behind}
use Rattle.snapshot_writer.proofs.append_row.Goals as goal

pub returns : goal.returns
returns c before rs h =
    let output = c.args.output.now in
    let e = c.args.extent in
    let p = c.args.place in
    let k = e.end + shortest_row + p.name.length - e.end in
    let width : k ≡ shortest_row + p.name.length = omega arith in
    let row : _ ≡ row_bytes (row_in_place p) = c.write_row.ensures in
    let size : length c.write_row.new.part ≡ k = c.write_row.auto.part ∙ row-length k e.end output (omega (arith, c.requires.room)) in
    row-behind (row_in_place p) k rs before output c.write_row.new.part e _ row size (omega (arith, c.requires.room)) (omega arith) (omega arith) h
