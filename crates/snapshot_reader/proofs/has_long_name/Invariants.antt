-- `snapshot_reader::has_long_name` meets its contract. The invariant: the rows to come decide; a row's first byte is its name's length, so it decides a turn.
use mathlib.Core.Path.{◌≡◌}
use Prim.Native.Nat.{◌-◌}
use lib.ListN.{length}
use Rattle.rules.specs.SnapshotsMigrationCertificates.{has_long_name}
use Rattle.snapshot_reader.specs.Standing.{OfSnapshot, Passed}
use Rattle.snapshot_reader.proofs.has_long_name.Given as goal

abbrev pub invariant-loop-at : goal.invariant-loop-at
invariant-loop-at l = OfSnapshot l.bytes (λ s. Passed l.bytes s.rows l.at (λ earlier later. has_long_name s.rows ≡ has_long_name later))

abbrev pub decreases-loop-at : goal.decreases-loop-at
decreases-loop-at l = length l.bytes - l.at
