-- `cases::read_full`, by a loop that stays within the input; a read that brings nothing ends it.
use Rattle.std.proofs.Common.{◌≡◌, ◌-◌, ◌≤◌, length}
use Rattle.cases.proofs.read_full.Given as goal

abbrev pub invariant-loop-size : goal.invariant-loop-size
invariant-loop-size l = (l.size ≤ length l.input) × (length l.input ≡ length l.initial.input)

abbrev pub decreases-loop-size : goal.decreases-loop-size
decreases-loop-size l = length l.initial.input - l.size
