-- `snapshot_reader::row_end` meets its contract: too few bytes for a shortest row and the name are none for the rules, and else they take just these
-- (RowBytes).
use mathlib.Core.Path.{◌≡◌, refl, sym, subst, ◌∙◌}
use mathlib.Core.List.{List}
use Prim.Native.Nat.{ℕ, ◌+◌, ◌-◌, ◌≤◌, ◌<◌}
use native.Mathlib.Omega.{arith}
use lib.ListN.{length, drop, length-drop}
use Rattle.std.specs.Prelude.{Some, None}
use Rattle.std.proofs.lemmas.Grind.{get_or_default_zero}
use Rattle.rules.specs.SnapshotsMigrationCertificates.{read_row}
use Rattle.snapshot_reader.specs.Standing.{RowEnds}
use Rattle.snapshot_reader.proofs.RowBytes.{size_at, name-size, front-byte, no-row-at, row_at}
use Rattle.snapshot_reader.proofs.row_end.Goals as goal

module _ (bs : List ℕ) (at : ℕ) (h : at ≤ length bs) where
  short : length bs - at < size_at bs at → RowEnds bs at (read_row (drop at bs)) None
  short l = subst (λ o. RowEnds bs at o None) (sym (no-row-at bs at h l)) refl

  long : size_at bs at ≤ length bs - at → (size : ℕ) → size ≡ size_at bs at → RowEnds bs at (read_row (drop at bs)) (Some (at + size))
  long l size is = subst (λ n. RowEnds bs at (read_row (drop at bs)) (Some (at + n))) (sym is)
      (subst (λ o. RowEnds bs at o (Some (at + size_at bs at))) (sym (row_at bs at h l)) (record {
        further = omega arith;
        within = omega arith;
        size = sym (name-size (drop at bs) (omega (arith, front-byte at bs, length-drop at bs)) ∙ front-byte at bs);
        rest = refl;
      }))

pub returns-in_err-name_size : goal.returns-in_err-name_size
returns-in_err-name_size c = rw c.from_residual.ensures (short c.args.bytes.now c.args.at c.requires (omega (arith, c.in_err-name_size.ensures.lookup)))

pub returns-then-bytes-at : goal.returns-then-bytes-at
returns-then-bytes-at c = short c.args.bytes.now c.args.at c.requires (omega (arith, get_or_default_zero, c.in_ok-name_size.ensures.lookup))

pub returns : goal.returns
returns c = long c.args.bytes.now c.args.at c.requires (omega (arith, get_or_default_zero, c.in_ok-name_size.ensures.lookup)) _ (omega (arith, get_or_default_zero, c.in_ok-name_size.ensures.lookup))
