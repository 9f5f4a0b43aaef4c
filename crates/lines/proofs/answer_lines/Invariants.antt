-- `lines::answer_lines`, by a loop whose invariant is `Underway` of Stretch.antt for whatever is lent, and that what is known of the memory still holds
-- (StaysKnown.antt). `turn` adds a line; `stopped` and `at-the-end` make the batch of it.
use Prim.Native.Nat.{◌-◌, ◌≤◌}
use lib.ListN.{length}
use Rattle.rules.specs.AnswerNumbers.{Lent}
use Rattle.frames.specs.Answering.{IsLent, Known}
use Rattle.lines.proofs.Stretch.{Underway}
use Rattle.lines.proofs.answer_lines.Given as goal

abbrev pub invariant-loop-used : goal.invariant-loop-used
invariant-loop-used l = record {
  read : l.used ≤ length l.input;
  fits : l.written ≤ length l.output;
  known : Known l.known l.room;
  underway : (lent : Lent) → IsLent l.initial.room lent → Underway lent l.input l.initial.room l.room l.initial.output l.output l.used l.written;
}

abbrev pub decreases-loop-used : goal.decreases-loop-used
decreases-loop-used l = length l.input - l.used
