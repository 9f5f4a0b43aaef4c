-- `validation::seen_earlier` meets its contract. The invariant: the pass goes towards the row, and no row passed has its name.
use Prim.Native.Nat.{◌-◌}
use Rattle.validation.proofs.Seen.{Looking}
use Rattle.validation.proofs.seen_earlier.Given as goal

abbrev pub invariant-loop-earlier : goal.invariant-loop-earlier
invariant-loop-earlier l = Looking l.bytes l.at l.earlier

abbrev pub decreases-loop-earlier : goal.decreases-loop-earlier
decreases-loop-earlier l = l.at - l.earlier
