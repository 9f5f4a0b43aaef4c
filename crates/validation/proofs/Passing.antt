-- A pass that judges row by row, over what it says of a row: the first bad row decides, and a pass that finds none is done.
use mathlib.Core.Path.{◌≡◌, refl, sym, ap, ◌∙◌}
use mathlib.Core.List.{List, [], ◌∷◌, ◌++◌}
use mathlib.Core.Option.{none, some}
use Prim.Native.Nat.{ℕ, ◌+◌, ◌≤◌, ◌<◌}
use lib.ListN.{length}
use Rattle.std.specs.Prelude.{Result, Ok, Err}
use Rattle.rules.specs.SnapshotsMigrationCertificates.{Row, and_then, row_conservation, conservation, row_validation, rows_validation}
use Rattle.big_endian.specs.Layout.{snapshot_header, row_amounts}
use Rattle.snapshot_reader.specs.Standing.{OfSnapshot, RowStands, ShortNames, RowOf, Passed}
use Rattle.snapshot_reader.proofs.Header.{header}
use Rattle.snapshot_reader.proofs.Rows.{Ends, AtRow, start, at_row, advance, finished, row_here, row_of}
use Rattle.refusals.specs.declared.Refusal.{Refusal as Told}
use Rattle.refusals.specs.Answers.{refusal_of}
use Rattle.names.specs.Names.{spelled, stored}
use Rattle.names.proofs.Storing.{spelled-stored}
use Rattle.refusals.specs.declared.tenant_name.TenantName.{TenantName}
use Rattle.validation.specs.declared.RowRefusal.{RowRefusal}
use Rattle.validation.specs.Judgement.{Pass, of_row, row_refusal, seen_in}
use Rattle.validation.proofs.Seen.{seen_more}
use Rattle.validation.proofs.Standing.{names_in}

pub conserved-step : (r : Row) (later : List Row) → conservation (r ∷ later) ≡ and_then (row_conservation r) (conservation later)
unfolding conservation
conserved-step r later = refl

pub conserved-end : conservation [] ≡ none
unfolding conservation
conserved-end = refl

abbrev pub conserving : Pass
conserving = record { row = λ _. row_conservation; rest = λ _. conservation; step = λ _. conserved-step; end = λ _. conserved-end }

pub validated-step : (earlier : List Row) (r : Row) (later : List Row)
    → rows_validation (seen_in [] earlier) (r ∷ later) ≡ and_then (row_validation (seen_in [] earlier) r) (rows_validation (seen_in [] (earlier ++ r ∷ [])) later)
unfolding rows_validation
validated-step earlier r later = ap (λ seen. and_then (row_validation (seen_in [] earlier) r) (rows_validation seen later)) (sym (seen_more [] earlier r))

pub validated-end : (earlier : List Row) → rows_validation (seen_in [] earlier) [] ≡ none
unfolding rows_validation
validated-end earlier = refl

abbrev pub validating : Pass
validating = record { row = λ earlier. row_validation (seen_in [] earlier); rest = λ earlier. rows_validation (seen_in [] earlier); step = validated-step; end = validated-end }

-- what a pass has not yet decided, the rows to come decide
abbrev pub Coming : Pass → (bytes : List ℕ) (at : ℕ) → Type 0
Coming pass bytes at =
    (names : ShortNames bytes) → Passed bytes names.snapshot.rows at (λ earlier later. pass.rest [] names.snapshot.rows ≡ pass.rest earlier later)

pub standing : {bytes : List ℕ} {at : ℕ} → RowOf bytes at → RowStands bytes at
standing here = record { row = here.row; later = here.later; from = here.from }

module _ (pass : Pass) where
  pub first : {bytes : List ℕ} → Coming pass bytes snapshot_header
  first names = start (header _ names.snapshot names.is_read).from refl

  module _ {bytes : List ℕ} {at : ℕ} (coming : Coming pass bytes at) (more : at < length bytes) where
    pub row-there : ShortNames bytes → RowOf bytes at
    row-there names = row_of names (coming names) more

    -- what the row's check came to decides, or leaves the rows after it
    module _ (r : Result (Unit {0}) RowRefusal) (judged : (here : RowOf bytes at) → row_refusal here.row.name r ≡ pass.row here.earlier here.row) where
      decided : (names : ShortNames bytes) (a : AtRow bytes names.snapshot.rows at (λ earlier later. pass.rest [] names.snapshot.rows ≡ pass.rest earlier later))
          → pass.rest [] names.snapshot.rows ≡ and_then (row_refusal a.row.name r) (pass.rest (a.earlier ++ a.row ∷ []) a.later)
      decided names a =
          a.so_far ∙ pass.step a.earlier a.row a.later
          ∙ ap (λ o. and_then o (pass.rest (a.earlier ++ a.row ∷ []) a.later)) (sym (judged (row_here names a)))

      pub stops : (refusal : RowRefusal) (tenant : TenantName) (told : Told) → r ≡ Err refusal
          → ((here : RowOf bytes at) → tenant.name ≡ stored here.row.name) → refusal_of told ≡ of_row (spelled tenant.name) refusal
          → ShortNames bytes → OfSnapshot bytes (λ s. some (refusal_of told) ≡ pass.rest [] s.rows)
      unfolding and_then
      stops refusal tenant told is named said known s is_read =
          let names = names_in known s is_read in
          let a = at_row (coming names) more in
          let name : spelled tenant.name ≡ a.row.name = ap spelled (named (row_here names a)) ∙ spelled-stored a.row.name in
          let others = pass.rest (a.earlier ++ a.row ∷ []) a.later in
          ap some (said ∙ ap (λ n. of_row n refusal) name)
          ∙ ap (λ o. and_then (row_refusal a.row.name o) others) (sym is)
          ∙ sym (decided names a)

      pub goes_on : {end : ℕ} {x : Unit {0}} → Ends bytes at end → r ≡ Ok x → Coming pass bytes (end + row_amounts)
      unfolding and_then
      goes_on ends is names =
          advance (coming names) more ends
          (λ a. decided names a ∙ ap (λ o. and_then (row_refusal a.row.name o) (pass.rest (a.earlier ++ a.row ∷ []) a.later)) is)

  pub none-bad : {bytes : List ℕ} {at : ℕ} → Coming pass bytes at → length bytes ≤ at → ShortNames bytes
      → OfSnapshot bytes (λ s. none ≡ pass.rest [] s.rows)
  none-bad coming left known s is_read = sym (finished (coming (names_in known s is_read)) left ∙ pass.end s.rows)
