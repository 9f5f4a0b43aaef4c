-- A row where it stands, and the snapshot that it is of: the amounts as they are read make up the row. Two readings of the same bytes are one, so what is
-- known of some snapshot is known of the caller's.
use mathlib.Core.Path.{◌≡◌, sym, subst, ◌∙◌}
use mathlib.Core.Bool.{false}
use mathlib.Core.List.{List}
use mathlib.Core.Option.{some}
use Prim.Native.Nat.{ℕ}
use Rattle.rules.specs.SnapshotsMigrationCertificates.{Row, Snapshot, snapshot_of_bytes, has_long_name}
use Rattle.snapshot_reader.specs.declared.StandingRow.{StandingRow}
use Rattle.snapshot_reader.specs.Standing.{ShortNames, ReadsRow}
use Rattle.validation.specs.Judgement.{row_with}

module _ {bs : List ℕ} {at : ℕ} {row : Row} {later : List Row} where
  pub read-is-row : {read : StandingRow} → ReadsRow bs at row later read → row_with row.name read.initial.0 read.remaining.0 read.reserved.0 read.committed.0 ≡ row
  read-is-row is i = row_with row.name (is.initial i) (is.remaining i) (is.reserved i) (is.committed i)

-- ── a pass over all rows ───────────────────────────────────────────────────────────────────────

-- bytes are one snapshot only
module _ {bs : List ℕ} (names : ShortNames bs) (s : Snapshot) (is_read : snapshot_of_bytes bs ≡ some s) where
  pub short_names : has_long_name s.rows ≡ false
  short_names = let same : names.snapshot ≡ s = cc (sym names.is_read ∙ is_read) in subst (λ t. has_long_name t.rows ≡ false) same names.short

  abbrev pub names_in : ShortNames bs
  names_in = record { snapshot = s; is_read = is_read; short = short_names }
