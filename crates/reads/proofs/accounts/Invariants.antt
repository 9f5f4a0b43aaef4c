-- The invariant of `reads::accounts`: the count is the number of accounts among the places passed.
use mathlib.Core.Path.{◌≡◌}
use Prim.Native.Nat.{◌≤◌}
use Rattle.reads.proofs.Sums.{sum_to}
use Rattle.reads.proofs.Totals.{counted}
use Rattle.reads.proofs.accounts.Given as goal

abbrev pub invariant-loop-at : goal.invariant-loop-at
invariant-loop-at l = record { sum : l.count ≡ sum_to counted l.room l.at; small : l.count ≤ l.at }
