-- However the input comes in stretches, and however many steps a program takes over each: by induction along the run, what it has written is the answers to
-- the lines handed on, so at the end of the input it is the definition's output.
use mathlib.Core.Path.{◌≡◌, sym, subst}
use mathlib.Core.Bool.{Bool, false}
use mathlib.Core.List.{List, [], ◌++◌}
use Prim.Native.Nat.{ℕ, ◌<◌}
use lib.ListN.{length, take}
use Rattle.rules.specs.RoomAndSoundLedger.{most_names, most_reservations, fresh}
use Rattle.rules.specs.AnswerNumbers.{Lent, sound}
use Rattle.rules.specs.Frames.{longest_line, house}
use Rattle.frames.specs.Answering.{IsLent}
use Rattle.lines.specs.Batching.{IsLine}
use Rattle.turns.specs.declared.Turn.{Turn}
use Rattle.turns.specs.Turns.{held_in, TakesIn, Answers, PromisesTurn, PromisesLast}
use Rattle.turns.proofs.Answering.{begins}

-- the steps of a program over one lent input and one lent memory, each of them what `brought` or `answer` promises
pub data Run (l : Lent) (capacity : ℕ) : (read written memory : List ℕ) → Bool → List ℕ → Type 0 where
  starts : {memory : List ℕ} → IsLent memory l → Run l capacity [] [] memory false []
  brings : {read written memory held held_after : List ℕ} {passing passing-after : Bool} (more : List ℕ) → TakesIn capacity passing held more passing-after held_after
      → Run l capacity read written memory passing held → Run l capacity (read ++ more) written memory passing-after held_after
  answers : {read written memory after held : List ℕ} {passing : Bool} (input output : List ℕ) (t : Turn) → length input ≡ capacity
      → PromisesTurn passing held memory after input output t → Run l capacity read written memory passing held
      → Run l capacity read (written ++ take t.written output) after t.held.passing (held_in input t.held)

module _ {l : Lent} {capacity : ℕ} where
  pub run-answers : {read written memory held : List ℕ} {passing : Bool} → Run l capacity read written memory passing held → Answers l capacity read written memory passing held
  run-answers (starts {memory} is) = begins l capacity memory is
  run-answers (brings {read} more takes-in run) =
      let a = run-answers run in
      record { handed_on = a.handed_on; reads = takes-in read a.handed_on a.reads; answered = a.answered; lent = a.lent }
  run-answers (answers {read} {written} {memory} {after} {held} {passing} input output t same promise run) =
      subst (λ n. Answers l n read (written ++ take t.written output) after t.held.passing (held_in input t.held)) same
      (promise l read written (subst (λ n. Answers l n read written memory passing held) (sym same) (run-answers run))).answers

-- `last` ends it
pub any-turns : (input output : List ℕ) (size : ℕ) {read written memory after held : List ℕ} {passing : Bool} → longest_line < length input → IsLine held
    → Run (sound (fresh most_names most_reservations)) (length input) read written memory passing held → PromisesLast passing held input memory after output size
    → written ++ take size output ≡ house read
unfolding house
any-turns input output size {read} {written} long is_line run promise = (promise (sound (fresh most_names most_reservations)) read written long is_line (run-answers run)).answered
