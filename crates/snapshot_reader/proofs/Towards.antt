-- A pass that goes towards a row, and not to the end: the rows that it passes until it comes to where the row starts. Which they are follows from the
-- lengths, since from any byte on the rows are as long as the bytes.
use mathlib.Core.Path.{◌≡◌, refl, sym, ap, ◌∙◌}
use mathlib.Core.List.{List, [], ◌∷◌, ◌++◌, append-nil}
use Prim.Native.Nat.{ℕ, ◌≤◌, ◌<◌}
use native.Mathlib.Omega.{arith}
use lib.Seq.{append_snoc}
use Rattle.rules.specs.Lists.{sum}
use Rattle.rules.specs.SnapshotsMigrationCertificates.{Row}
use Rattle.rules.proofs.SnapshotBytes.{row_length}
use Rattle.snapshot_reader.specs.Standing.{RowsFrom}
use Rattle.snapshot_reader.proofs.Rows.{rows-length}

-- the rows are those before the place and those after it; so many of those before it are passed, and these are between
pub record Towards (before after earlier later : List Row) : Type 0 where
  pub between : List Row
  pub passed : before ≡ earlier ++ between
  pub coming : later ≡ between ++ after

pub towards-start : {before after all : List Row} → all ≡ before ++ after → Towards before after [] all
towards-start {before} rows = record { between = before; passed = refl; coming = rows }

sum-after : (rows after : List Row) → sum row_length after ≤ sum row_length (rows ++ after)
unfolding sum
sum-after [] after = omega arith
sum-after (row ∷ rows) after = omega (arith, sum-after rows after)

-- the pass stands at `at`, and the place is at `there`
module _ {bs : List ℕ} {before after earlier : List Row} {at there : ℕ} (place : RowsFrom bs there after) where
  -- before the place: the row that is passed is one of those before it
  pub towards-turn : {row : Row} {later : List Row} → RowsFrom bs at (row ∷ later) → at < there → Towards before after earlier (row ∷ later) → Towards before after (earlier ++ row ∷ []) later
  towards-turn {row} {later} from h t = go t.between t.passed t.coming
    where
      go : (between : List Row) → before ≡ earlier ++ between → row ∷ later ≡ between ++ after → Towards before after (earlier ++ row ∷ []) later
      go [] passed coming = absurd (omega (arith, rows-length (row ∷ later) from, rows-length after place, ap (sum row_length) coming))
      go (next ∷ between) passed coming =
          let same : next ≡ row = cc in
          record { between = between; passed = passed ∙ ap (λ r. earlier ++ r ∷ between) same ∙ sym (append_snoc earlier row between); coming = cc }

  -- at the place: all those before it are passed
  pub towards_end : {later : List Row} → RowsFrom bs at later → there ≤ at → Towards before after earlier later → earlier ≡ before
  unfolding sum
  towards_end {later} from h t = go t.between t.passed t.coming
    where
      go : (between : List Row) → before ≡ earlier ++ between → later ≡ between ++ after → earlier ≡ before
      go [] passed coming = sym (passed ∙ append-nil earlier)
      go (next ∷ between) passed coming = absurd (omega (arith, rows-length later from, rows-length after place, ap (sum row_length) coming, sum-after between after))
