-- `validation::each_row` meets its contract: a pass that judges (Passing). The invariant: the rows to come decide.
use Prim.Native.Nat.{◌-◌}
use lib.ListN.{length}
use Rattle.validation.proofs.Passing.{Coming}
use Rattle.validation.proofs.each_row.Given as goal

abbrev pub invariant-loop-at : goal.invariant-loop-at
invariant-loop-at g l = Coming g.pass l.bytes l.at

abbrev pub decreases-loop-at : goal.decreases-loop-at
decreases-loop-at g l = length l.bytes - l.at
