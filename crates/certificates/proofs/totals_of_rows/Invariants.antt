-- `certificates::totals_of_rows` meets its contract. The invariant: each total is that of the rows passed (Adding). So few amounts leave the high word far
-- from its ends, which is what `plus` asks.
use mathlib.Core.List.{List}
use Prim.Native.Nat.{◌-◌}
use lib.ListN.{length}
use Rattle.rules.specs.SnapshotsMigrationCertificates.{Row}
use Rattle.totals.specs.declared.Total.{Total}
use Rattle.snapshot_reader.specs.Standing.{Passed, OfSnapshot}
use Rattle.certificates.proofs.Adding.{RowsAdded}
use Rattle.certificates.proofs.totals_of_rows.Given as goal

abbrev pub BothAdded : (initial committed : Total) (earlier later : List Row) → Type 0
BothAdded initial committed earlier later = RowsAdded (λ r. r.initial) earlier initial × RowsAdded (λ r. r.committed) earlier committed

abbrev pub invariant-loop-at : goal.invariant-loop-at
invariant-loop-at l = OfSnapshot l.bytes (λ s. Passed l.bytes s.rows l.at (BothAdded l.initial' l.committed))

abbrev pub decreases-loop-at : goal.decreases-loop-at
decreases-loop-at l = length l.bytes - l.at
