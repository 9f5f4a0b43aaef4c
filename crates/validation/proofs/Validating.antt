-- The validation of one row: one law for each answer, in the order of its checks, over what was read of the row; each supposes what the checks before it found.
use mathlib.Core.Path.{◌≡◌, sym, ap, ◌∙◌}
use mathlib.Core.Logic.{◌≢◌}
use mathlib.Core.Bool.{true, false, not}
use mathlib.Core.List.{List}
use mathlib.Core.Option.{none, some}
use Prim.Native.Nat.{ℕ}
use lib.IntN.{pos}
use Rattle.rules.specs.Lists.{any}
use Rattle.rules.specs.RoomAndSoundLedger.{Name, same}
use Rattle.rules.specs.AnswerNumbers.{remaining_field, initial_field, committed_field, DuplicateTenant, GhostReservation, NegativeLedgerField}
use Rattle.rules.specs.SnapshotsMigrationCertificates.{Row, is_negative, row_validation}
use Rattle.snapshot_reader.specs.declared.StandingRow.{StandingRow}
use Rattle.snapshot_reader.specs.Standing.{ReadsRow}
use Rattle.validation.proofs.Deciding.{decides, goes_on, equals-other}

module _ (seen : List Name) (r : Row) where
  pub duplicate : any (same r.name) seen ≡ true → some (DuplicateTenant r.name) ≡ row_validation seen r
  unfolding row_validation
  duplicate e = sym (decides _ _ _ e)

  module _ (unseen : any (same r.name) seen ≡ false) {bs : List ℕ} {at : ℕ} {later : List Row} {read : StandingRow} (is : ReadsRow bs at r later read) where
    pub ghost : read.reserved.0 ≢ pos 0 → some (GhostReservation r.name read.reserved.0) ≡ row_validation seen r
    unfolding row_validation
    ghost other =
        ap (λ z. some (GhostReservation r.name z)) is.reserved
        ∙ sym (goes_on _ _ _ unseen ∙ decides _ _ _ (ap not (equals-other r.reserved (pos 0) (λ e. other (is.reserved ∙ e)))))

    module _ (empty : read.reserved.0 ≡ pos 0) where
      pub remaining-negative : is_negative read.remaining.0 ≡ true → some (NegativeLedgerField r.name remaining_field read.remaining.0) ≡ row_validation seen r
      unfolding row_validation
      remaining-negative e =
          ap (λ z. some (NegativeLedgerField r.name remaining_field z)) is.remaining
          ∙ sym (goes_on _ _ _ unseen ∙ goes_on _ _ _ (rw (← is.reserved, empty)) ∙ decides _ _ _ (rw (← is.remaining) e))

      module _ (remaining : is_negative read.remaining.0 ≡ false) where
        pub initial-negative : is_negative read.initial.0 ≡ true → some (NegativeLedgerField r.name initial_field read.initial.0) ≡ row_validation seen r
        unfolding row_validation
        initial-negative e =
            ap (λ z. some (NegativeLedgerField r.name initial_field z)) is.initial
            ∙ sym (goes_on _ _ _ unseen ∙ goes_on _ _ _ (rw (← is.reserved, empty)) ∙ goes_on _ _ _ (rw (← is.remaining) remaining) ∙ decides _ _ _ (rw (← is.initial) e))

        module _ (initial : is_negative read.initial.0 ≡ false) where
          pub committed-negative : is_negative read.committed.0 ≡ true → some (NegativeLedgerField r.name committed_field read.committed.0) ≡ row_validation seen r
          unfolding row_validation
          committed-negative e =
              ap (λ z. some (NegativeLedgerField r.name committed_field z)) is.committed
              ∙ sym (goes_on _ _ _ unseen ∙ goes_on _ _ _ (rw (← is.reserved, empty)) ∙ goes_on _ _ _ (rw (← is.remaining) remaining)
              ∙ goes_on _ _ _ (rw (← is.initial) initial) ∙ decides _ _ _ (rw (← is.committed) e))

          pub valid : is_negative read.committed.0 ≡ false → none ≡ row_validation seen r
          unfolding row_validation
          valid e =
              sym (goes_on _ _ _ unseen ∙ goes_on _ _ _ (rw (← is.reserved, empty)) ∙ goes_on _ _ _ (rw (← is.remaining) remaining)
              ∙ goes_on _ _ _ (rw (← is.initial) initial) ∙ goes_on _ _ _ (rw (← is.committed) e))
