-- `cases::case::in_pieces`, by a loop whose invariant is that what was used is at most what was brought, and that at most the input; a piece has a character.
use Rattle.std.proofs.Common.{◌≡◌, ◌-◌, ◌≤◌, length}
use Rattle.cases.proofs.case.in_pieces.Given as goal

abbrev pub invariant-loop-end : goal.invariant-loop-end
invariant-loop-end l = (l.used ≤ l.end) × (l.end ≤ length l.input) × (length l.memory ≡ length l.initial.memory) × (length l.output ≡ length l.initial.output)

abbrev pub decreases-loop-end : goal.decreases-loop-end
decreases-loop-end l = length l.input - l.end
