-- The invariant of `reads::sum_committed`: the total is the sum over the places passed, and not above M.
use mathlib.Core.Path.{◌≡◌}
use Prim.Native.Nat.{◌≤◌}
use Rattle.rules.specs.RoomAndSoundLedger.{M}
use Rattle.reads.proofs.Sums.{sum_to}
use Rattle.reads.proofs.Totals.{committed_in}
use Rattle.reads.proofs.sum_committed.Given as goal

abbrev pub invariant-loop-i : goal.invariant-loop-i
invariant-loop-i l = record { sum : l.total ≡ sum_to committed_in l.room l.i; small : l.total ≤ M }
