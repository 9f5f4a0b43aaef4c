-- What is said of a row of a supplied snapshot in document 01's numbers, and the names seen by a pass over its rows.
use Rattle.std.specs.Prelude.{◌≡◌, List, [], ◌∷◌, ◌++◌, ℕ, ℤ, Result, Ok, Err}
use Rattle.std.proofs.Math.Option.{Option, none, some}
use Rattle.rules.specs.RoomAndSoundLedger.{Name}
use Rattle.rules.specs.AnswerNumbers.{Refusal, DuplicateTenant, GhostReservation, NegativeLedgerField, ConservationViolation, AggregateOverflow}
use Rattle.rules.specs.SnapshotsMigrationCertificates.{Row, and_then}
use Rattle.snapshot_reader.specs.Standing.{RowOf}
use Rattle.validation.specs.declared.RowRefusal.{RowRefusal}
use Rattle.validation.specs.declared.RowRefusal.TheVariants as row

-- the refusal, with the name of the row that it is of
abbrev pub of_row : Name → RowRefusal → Refusal
of_row a row.DuplicateTenant = DuplicateTenant a
of_row a (row.GhostReservation reserved) = GhostReservation a reserved.0
of_row a (row.NegativeLedgerField field value) = NegativeLedgerField a field value.0
of_row a (row.ConservationViolation delta) = ConservationViolation a delta.0
of_row a row.AggregateOverflow = AggregateOverflow

-- or none where the checks pass
abbrev pub row_refusal : Name → Result (Unit {0}) RowRefusal → Option Refusal
row_refusal a (Ok x) = none
row_refusal a (Err e) = some (of_row a e)

abbrev pub row_with : Name → (initial remaining reserved committed : ℤ) → Row
row_with a initial remaining reserved committed = record { name = a; initial = initial; remaining = remaining; reserved = reserved; committed = committed }

-- the names of the rows passed, before those seen already
unfoldable pub seen_in : (seen : List Name) → List Row → List Name
seen_in seen [] = seen
seen_in seen (r ∷ rs) = seen_in (r.name ∷ seen) rs

-- a check of rows, one after the other: what is said of a row after those before it, and of all rows to come, of which the first refused decides
pub record Pass : Type 0 where
  pub row : (earlier : List Row) → Row → Option Refusal
  pub rest : (earlier later : List Row) → Option Refusal
  pub step : (earlier : List Row) (r : Row) (later : List Row) → rest earlier (r ∷ later) ≡ and_then (row earlier r) (rest (earlier ++ r ∷ []) later)
  pub end : (earlier : List Row) → rest earlier [] ≡ none

-- what may be asked of each row, and answers as such a check
pub record Judges (pass : Pass) (bytes : List ℕ) (may-ask : ℕ → Type 0) (answers : ℕ → Result (Unit {0}) RowRefusal → Type 0) : Type 0 where
  pub asked : (at : ℕ) → RowOf bytes at → may-ask at
  pub answered : (at : ℕ) (here : RowOf bytes at) (r : Result (Unit {0}) RowRefusal) → answers at r → row_refusal here.row.name r ≡ pass.row here.earlier here.row
