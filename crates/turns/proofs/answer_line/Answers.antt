-- `turns::answer_line`: the output has room for any answer (`has_room` of Answering.antt), so `lines::answer` gives one; it stands within the output whatever
-- the memory is lent as (`of-any`).
use mathlib.Core.Path.{◌≡◌, sym, subst}
use mathlib.Core.List.{List}
use Prim.Native.Nat.{ℕ, ◌≤◌}
use native.Mathlib.Omega.{arith}
use lib.ListN.{length}
use Rattle.std.specs.Prelude.{Option as Found, Some, None}
use Rattle.std.specs.Option.{unwrap_or}
use Rattle.rules.specs.Frames.{operation_of_line}
use Rattle.frames.specs.Answering.{OfLent}
use Rattle.lines.specs.Batching.{AnswersLine, PromisesLine}
use Rattle.lines.proofs.Stretch.{written-within}
use Rattle.turns.specs.Turns.{longest_answer_line}
use Rattle.turns.proofs.Answering.{of-any, has_room}
use Rattle.turns.proofs.answer_line.Goals as goal

module _ (line before after output output-after : List ℕ) (enough : longest_answer_line ≤ length output) where
  given : (r : Found ℕ) → PromisesLine (operation_of_line line) before after output output-after r → {size : ℕ} → size ≡ unwrap_or r 0
      → OfLent before (λ l. AnswersLine (operation_of_line line) l before after output output-after size)
  given (Some n) promise is l lent = subst (AnswersLine (operation_of_line line) l before after output output-after) (sym is) (promise l lent).1
  given None promise is l lent = absurd (omega (arith, (promise l lent).0, has_room (operation_of_line line), enough))

pub returns : goal.returns
returns c =
    let a = c.args in
    let call = c.answer in
    let size = c.unwrap_or.result in
    let answers : OfLent a.room.now (λ l. AnswersLine (operation_of_line a.line.now) l a.room.now call.new.room a.output.now call.new.output size) =
    given a.line.now a.room.now call.new.room a.output.now call.new.output c.requires call.result call.ensures c.unwrap_or.ensures in
    record { within = of-any a.room.now size (length a.output.now) (λ l is. written-within (answers l is) call.auto.output); answers = answers }
