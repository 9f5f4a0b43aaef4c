-- What the functions for C and Rust promise, in numbers.
use Rattle.std.specs.Prelude.{◌≡◌, List, ℕ, ◌≤◌, ◌<◌, length}
use Rattle.std.proofs.Math.Option.{Option, none, some}
use Rattle.rules.specs.RoomAndSoundLedger.{Ledger}
use Rattle.rules.specs.AnswerNumbers.{Lent}
use Rattle.rules.specs.Frames.{Operation}
use Rattle.room.specs.LedgerBytes.{ledger_bytes}
use Rattle.frames.specs.Answering.{OfLent, AnswersOperation, room_for}
use Rattle.lines.specs.declared.Progress.{Progress}

-- the bytes that the room of a ledger takes; none, where T or R is out of range
abbrev pub bytes_of_room : Option Ledger → ℕ
bytes_of_room none = 0
bytes_of_room (some L) = length (ledger_bytes L)

-- the answer is given exactly where there is room for the longest one to this operation, and else nothing changes
pub record FrameAnswered (o : Option Operation) (l : Lent) (before after output-before output-after : List ℕ) (written : ℕ) : Type 0 where
  pub answered : room_for o ≤ length output-before → AnswersOperation o l before after output-before output-after written
  pub too_short : length output-before < room_for o → (written ≡ 0) × (after ≡ before) × (output-after ≡ output-before)

abbrev pub PromisesFrame : Option Operation → (before after output-before output-after : List ℕ) → (written : ℕ) → Type 0
PromisesFrame o before after output-before output-after written = OfLent before (λ l. FrameAnswered o l before after output-before output-after written)

abbrev pub progress : (used written : ℕ) → Progress
progress used written = record { used = used; written = written }
