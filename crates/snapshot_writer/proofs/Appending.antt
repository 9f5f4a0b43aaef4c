-- A row behind the rows of a snapshot: what stands in front of it is the rows written, so the new row is put where they end.
use mathlib.Core.Path.{◌≡◌, sym, ap, ◌∙◌}
use mathlib.Core.List.{List, [], ◌∷◌, ◌++◌, flat_map, append_assoc}
use Prim.Native.Nat.{ℕ, ◌+◌, ◌-◌, ◌≤◌, min}
use native.Mathlib.Omega.{arith}
use lib.ListN.{length, take, drop, length-append, length-take, length-drop}
use Rattle.rules.specs.SnapshotsMigrationCertificates.{Row, row_bytes}
use Rattle.rules.proofs.Lists.{flat_map-append, flat_map-one}
use Rattle.big_endian.specs.Layout.{snapshot_header}
use Rattle.records.specs.Rows.{put}
use Rattle.records.proofs.Rows.{put-behind}
use Rattle.snapshot_writer.specs.declared.Extent.{Extent}
use Rattle.snapshot_writer.specs.Rows.{WritesRows}

-- a row put where the others end; that the output has room for it shows that the header's room is there
pub row-behind : (r : Row) (k : ℕ) (rs : List Row) (before output w : List ℕ) (e next : Extent) → w ≡ row_bytes r → length w ≡ k
    → e.end + k ≤ length output → next.rows ≡ e.rows + 1 → next.end ≡ e.end + k → WritesRows rs before output e → WritesRows (rs ++ r ∷ []) before (put e.end k output w) next
row-behind r k rs before output w e next is l room counted ended h =
    let written = flat_map row_bytes rs in
    let front = take snapshot_header before ++ written in
    let more : flat_map row_bytes (rs ++ r ∷ []) ≡ written ++ w = flat_map-append row_bytes rs (r ∷ []) ∙ ap (λ v. written ++ v) (flat_map-one row_bytes r ∙ sym is) in
    let size : length output ≡ min snapshot_header (length before) + length written + (length before - e.end) = ap length h.output ∙ simp (length-append, length-take, length-drop) in
    let start : length front ≡ e.end = rw (length-append, length-take) (omega (arith, size, h.end)) in
    record {
      rows = rw length-append (omega (arith, h.rows));
      end = rw (more, length-append) (omega (arith, h.end));
      output =
          ap (λ xs. put e.end k xs w) h.output
          ∙ put-behind e.end k before front w start
          ∙ (λ i. append_assoc (take snapshot_header before) written w i ++ drop (sym ended i) before)
          ∙ ap (λ l. take snapshot_header before ++ l ++ drop next.end before) (sym more);
    }
