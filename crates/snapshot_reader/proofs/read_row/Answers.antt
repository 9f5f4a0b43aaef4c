-- `snapshot_reader::read_row` meets its contract: the four amounts stand after the name, 8 bytes each; each lent part is the one that the rules read (Rows).
use mathlib.Core.Path.{◌≡◌, refl, ap, ◌∙◌}
use mathlib.Core.List.{List}
use Prim.Native.Nat.{ℕ, ◌+◌, ◌-◌, ◌≤◌}
use native.Mathlib.Omega.{arith}
use lib.ListN.{take, drop}
use lib.Seq.{drop-drop}
use Rattle.std.proofs.lemmas.List.{drop-take, take-take}
use Rattle.rules.specs.SnapshotsMigrationCertificates.{number_of, signed}
use Rattle.big_endian.specs.Layout.{row_amounts}
use Rattle.snapshot_reader.proofs.RowBytes.{amount_at}
use Rattle.snapshot_reader.proofs.Rows.{amounts, forward}
use Rattle.snapshot_reader.proofs.read_row.Goals as goal

-- an amount of the four, by its place in all the bytes
lent : (bs : List ℕ) (from k there : ℕ) → k + 8 ≤ row_amounts → there ≡ k + from → amount_at k (take (from + row_amounts - from) (drop from bs)) ≡ amount_at there bs
lent bs from k there h e =
    let size : from + row_amounts - from ≡ k + (row_amounts - k) = omega arith in
    ap (λ l. signed (number_of (take 8 l)))
    (ap (λ n. drop k (take n (drop from bs))) size ∙ drop-take k (row_amounts - k) (drop from bs))
    ∙ ap (λ l. signed (number_of l)) (take-take 8 (row_amounts - k) (drop k (drop from bs)) (omega arith))
    ∙ ap (λ l. signed (number_of (take 8 l))) (drop-drop k from bs ∙ ap (λ n. drop n bs) (omega arith))

pub returns : goal.returns
returns c row later h =
    let bytes = c.args.bytes.now in
    let end = c.name_end-name_end.result in
    let ends = c.name_end-name_end.ensures row later h in
    let a = amounts h ends in
    record {
      ends_name = ends;
      initial = c.read_amount.ensures ∙ lent bytes end 0 end (omega arith) (omega arith) ∙ a.initial;
      remaining = c.read_amount-2.ensures ∙ lent bytes end 8 (end + 8) (omega arith) (omega arith) ∙ a.remaining;
      reserved = c.read_amount-3.ensures ∙ lent bytes end 16 (end + 16) (omega arith) (omega arith) ∙ a.reserved;
      committed = c.read_amount-4.ensures ∙ lent bytes end 24 (end + 24) (omega arith) (omega arith) ∙ a.committed;
      end = refl;
    }

pub overflow_add-end : goal.overflow_add-end
overflow_add-end c = omega (arith, forward c.requires c.name_end-name_end.ensures)

pub slice_bounds-amounts-end : goal.slice_bounds-amounts-end
slice_bounds-amounts-end c = omega (arith, forward c.requires c.name_end-name_end.ensures)
