-- `snapshot_writer::write_amounts` meets its contract: four fields put one after the other are written as one list, and it fills the part (records, Fields).
use mathlib.Core.Path.{◌≡◌, refl, ◌∙◌}
use mathlib.Core.List.{List, [], ◌∷◌, append_assoc, append-nil}
use Prim.Native.Nat.{ℕ}
use native.Mathlib.Omega.{arith}
use Rattle.rules.specs.SnapshotsMigrationCertificates.{bytes_of}
use Rattle.rules.proofs.Numbers.{bytes-length}
use Rattle.big_endian.specs.Layout.{row_amounts}
use Rattle.records.specs.Rows.{put, encoded}
use Rattle.records.proofs.Rows.{put_all}
use Rattle.records.proofs.Fields.{written_is}
use Rattle.snapshot_writer.proofs.write_amounts.Goals as goal

pub returns : goal.returns
returns c =
    let part = c.args.part.now in
    let p = c.args.place in
    let initial : _ ≡ bytes_of 8 p.initial = c.write8.ensures in
    let remaining : _ ≡ bytes_of 8 p.remaining = c.write8-2.ensures in
    let reserved : _ ≡ bytes_of 8 p.reserved = c.write8-3.ensures in
    let committed : _ ≡ bytes_of 8 p.committed = c.write8-4.ensures in
    let widths : List ℕ = 8 ∷ 8 ∷ 8 ∷ 8 ∷ [] in
    let amounts : List ℕ = p.initial ∷ p.remaining ∷ p.reserved ∷ p.committed ∷ [] in
    (λ j. put 24 8 (put 16 8 (put 8 8 (put 0 8 part (initial j)) (remaining j)) (reserved j)) (committed j))
    ∙ written_is bytes_of bytes-length 0 widths amounts part refl (omega (arith, c.requires))
    ∙ put_all row_amounts part (encoded bytes_of widths amounts) c.requires
    ∙ simp (append_assoc, append-nil)
