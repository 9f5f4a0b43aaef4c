-- `house::desk::answer`, by a loop whose invariant is that what is held stands within the input, with room to read into once the turn is done; each step that
-- does not end the turn gets further, so that fewer steps are left (`steps_left`).
use mathlib.Core.Path.{◌≡◌}
use mathlib.Core.Bool.{Bool, true, false}
use Prim.Native.Nat.{ℕ, ◌+◌, ◌-◌, ◌<◌}
use lib.ListN.{length}
use Rattle.turns.specs.Turns.{Within}
use Rattle.house.proofs.desk.answer.Given as goal

abbrev pub steps_left : (done : Bool) (from end : ℕ) → ℕ
steps_left true from end = 0
steps_left false from end = end - from + 1

abbrev pub invariant-loop-turn : goal.invariant-loop-turn
invariant-loop-turn l =
    Within l.input l.turn.held × (l.turn.done ≡ true → l.turn.held.end < length l.input)

abbrev pub decreases-loop-turn : goal.decreases-loop-turn
decreases-loop-turn l = steps_left l.turn.done l.turn.held.from l.turn.held.end
