-- What is said of the two exact totals of rows: that both are amounts of 64 bits, or that one of them is not.
use mathlib.Core.Path.{◌≡◌, sym, ap}
use mathlib.Core.Bool.{true, false}
use mathlib.Core.List.{List}
use Rattle.std.specs.Prelude.{Some, None}
use Rattle.rules.specs.SnapshotsMigrationCertificates.{Row, initial_total, committed_rows_total, totals_fit}
use Rattle.rules.proofs.Tests.{by-test}
use Rattle.certificates.specs.Certified.{totals_of}
use Rattle.certificates.specs.declared.Totals.{Totals}

-- two amounts that are these totals, both of 64 bits
pub record Fitting (rs : List Row) (t : Totals) : Type 0 where
  pub initial_is : t.initial.0 ≡ initial_total rs
  pub committed_is : t.committed.0 ≡ committed_rows_total rs
  pub fit : totals_fit rs ≡ true

module _ (rs : List Row) where
  pub fit_is : (t : Totals) → Some t ≡ totals_of rs → Fitting rs t
  fit_is t are = by-test (λ r. r ≡ Some t → Fitting rs t) (totals_fit rs)
      (λ fit e.
      let same : record { initial = record { 0 = initial_total rs }; committed = record { 0 = committed_rows_total rs } } ≡ t = cc in
      record { initial_is = sym (ap (λ t. t.initial.0) same); committed_is = sym (ap (λ t. t.committed.0) same); fit = fit })
      (λ _ e. cc) (sym are)

  pub outside-is : None ≡ totals_of rs → totals_fit rs ≡ false
  outside-is are = by-test (λ r. r ≡ None → totals_fit rs ≡ false) (totals_fit rs) (λ _ e. cc) (λ t _. t) (sym are)
