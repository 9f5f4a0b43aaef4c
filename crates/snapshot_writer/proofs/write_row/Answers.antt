-- `snapshot_writer::write_row` meets its contract: the name fills the first half of the part and the amounts the other; together they spell the row.
use mathlib.Core.Path.{◌≡◌, ap₂, ◌∙◌}
use mathlib.Core.List.{◌++◌, append_assoc}
use Prim.Native.Nat.{◌+◌}
use native.Mathlib.Omega.{arith}
use lib.ListN.{length}
use lib.Seq.{length-take-le}
use Rattle.rules.specs.SnapshotsMigrationCertificates.{name_bytes, row_bytes}
use Rattle.names.specs.Names.{spelled}
use Rattle.records.specs.declared.Place.{Place}
use Rattle.snapshot_writer.specs.Rows.{amounts_bytes, row_in_place}
use Rattle.records.proofs.Rows.{two-halves}
use Rattle.snapshot_writer.proofs.write_row.Goals as goal

row-bytes : (p : Place) → name_bytes (spelled p.name) ++ amounts_bytes p ≡ row_bytes (row_in_place p)
unfolding row_bytes
row-bytes p = simp append_assoc

pub returns : goal.returns
returns c =
    let p = c.args.place in
    let name : _ ≡ name_bytes (spelled p.name) = c.write_name.ensures in
    let amounts : _ ≡ amounts_bytes p = c.write_amounts.ensures in
    let size : length c.write_name.new.part ≡ 1 + p.name.length = c.write_name.auto.part ∙ length-take-le (1 + p.name.length) c.args.part.now (omega (arith, c.requires.0)) in
    two-halves (1 + p.name.length) c.args.part.now c.write_name.new.part c.write_amounts.new.part size
    ∙ ap₂ ◌++◌ name amounts
    ∙ row-bytes p
