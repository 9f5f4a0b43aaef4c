-- `lines::line_end`, by a loop whose invariant is that no character passed is a line feed.
use Prim.Native.Nat.{◌-◌}
use lib.ListN.{take, drop}
use Rattle.lines.specs.Batching.{IsLine}
use Rattle.lines.proofs.line_end.Given as goal

abbrev pub invariant-loop-at : goal.invariant-loop-at
invariant-loop-at l = IsLine (take (l.at - l.from) (drop l.from l.input))
