-- `snapshot_reader::check` meets its contract. The loop's invariant: what the bytes come to is what those from here on do as the rows that are left.
use Prim.Native.Nat.{◌-◌}
use Rattle.snapshot_reader.proofs.Passing.{Undecided}
use Rattle.snapshot_reader.proofs.check.Given as goal

abbrev pub invariant-loop : goal.invariant-loop
invariant-loop l = Undecided l.bytes l.long l.at (l.count - l.counter)
