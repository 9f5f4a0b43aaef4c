-- `snapshot_writer::write_header` meets its contract: its numbers, put one after the other, are written as one list at the start of the output (records,
-- Fields).
use mathlib.Core.Path.{◌≡◌, refl, ◌∙◌}
use mathlib.Core.List.{[], ◌∷◌, append_assoc, append-nil}
use native.Mathlib.Omega.{arith}
use Rattle.rules.specs.SnapshotsMigrationCertificates.{bytes_of}
use Rattle.rules.proofs.Numbers.{bytes-length}
use Rattle.big_endian.specs.Layout.{active_start, count_start}
use Rattle.records.specs.Rows.{put}
use Rattle.records.proofs.Fields.{written_is}
use Rattle.snapshot_writer.proofs.write_header.Goals as goal

pub returns : goal.returns
returns c =
    let output = c.args.output.now in
    let version : _ ≡ bytes_of 8 c.args.version = c.write8.ensures in
    let active : _ ≡ bytes_of 8 c.args.active = c.write8-2.ensures in
    let rows : _ ≡ bytes_of 2 c.args.rows = c.write2.ensures in
    (λ j. put count_start 2 (put active_start 8 (put 0 8 output (version j)) (active j)) (rows j))
    ∙ written_is bytes_of bytes-length 0 (8 ∷ 8 ∷ 2 ∷ []) (c.args.version ∷ c.args.active ∷ c.args.rows ∷ []) output refl (omega (arith, c.requires))
    ∙ simp (append_assoc, append-nil)
