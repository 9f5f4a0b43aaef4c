-- A total that amounts are added to, one after the other; and over rows, where the rules add from the last row and the code from the first.
use mathlib.Core.Path.{◌≡◌, sym, ◌∙◌, ap}
use mathlib.Core.List.{List, [], ◌∷◌, ◌++◌}
use mathlib.Core.Option.{some}
use Prim.Native.Nat.{ℕ, ◌+◌, ◌^◌, ◌≤◌, ◌<◌}
use native.Mathlib.Omega.{arith}
use lib.IntN.{ℤ, pos, ◌+ℤ◌, +ℤ_assoc, +ℤ_idl, +ℤ_idr}
use lib.ListN.{length, length-append}
use lib.Signed.{mag}
use Rattle.rules.specs.SnapshotsMigrationCertificates.{Row, Snapshot, snapshot_of_bytes, exact_total, most_rows}
use Rattle.numbers.specs.declared.Microcents.{Microcents}
use Rattle.snapshot_reader.specs.Standing.{Passed}
use Rattle.snapshot_reader.proofs.Header.{header}
use Rattle.totals.specs.declared.Total.{Total}
use Rattle.totals.specs.Totals.{value_of, Moved}
use Rattle.totals.proofs.Carrying.{moved-little}

-- the total of n amounts
abbrev pub Totalled : ℕ → ℤ → Total → Type 0
Totalled n z t = (value_of t ≡ z) × Moved n t

-- what `plus` answers
abbrev pub Plus : Total → Microcents → Total → Type 0
Plus t a u = (value_of u ≡ value_of t +ℤ a.0) × Moved (mag t.high + 1) u

module _ (n : ℕ) (z : ℤ) (t : Total) (so_far : Totalled n z t) where
  -- what `plus` asks
  pub may_add : n ≤ most_rows → mag t.high < 2 ^ 62
  may_add few = (moved-little t n (omega arith) so_far.1).1

  pub one_more : (a : Microcents) (u : Total) → Plus t a u → Totalled (n + 1) (z +ℤ a.0) u
  one_more a u (value, moved) = (value ∙ ap (λ x. x +ℤ a.0) so_far.0, omega (arith, moved, so_far.1))

-- ── over rows ──────────────────────────────────────────────────────────────────────────────────

module _ (of : Row → ℤ) where
  total-more : (rs : List Row) (r : Row) → exact_total of (rs ++ r ∷ []) ≡ exact_total of rs +ℤ of r
  unfolding exact_total
  total-more [] r = +ℤ_idr (of r) ∙ sym (+ℤ_idl (of r))
  total-more (first ∷ rs) r = ap (λ z. of first +ℤ z) (total-more rs r) ∙ sym (+ℤ_assoc (of first) (exact_total of rs) (of r))

  -- the total of the rows passed
  abbrev pub RowsAdded : List Row → Total → Type 0
  RowsAdded rs t = Totalled (length rs) (exact_total of rs) t

  pub rows_none : (t : Total) → Totalled 0 (pos 0) t → RowsAdded [] t
  unfolding exact_total
  rows_none t h = h

  pub rows_next : (rs : List Row) (r : Row) (t : Total) → RowsAdded rs t → (a : Microcents) (u : Total) → a.0 ≡ of r → Plus t a u → RowsAdded (rs ++ r ∷ []) u
  rows_next rs r t added a u is plus =
      let next = one_more (length rs) (exact_total of rs) t added a u plus in
      (next.0 ∙ ap (λ z. exact_total of rs +ℤ z) is ∙ sym (total-more rs r), omega (arith, next.1, length-append rs (r ∷ [])))

-- there are at most 256 rows
pub few-passed : {bs : List ℕ} {s : Snapshot} → snapshot_of_bytes bs ≡ some s → {at : ℕ} {P : List Row → List Row → Type 0} → (p : Passed bs s.rows at P) → length p.earlier ≤ most_rows
few-passed {bs} {s} is p = omega (arith, (header bs s is).few, ap length p.rows, length-append p.earlier p.later)
