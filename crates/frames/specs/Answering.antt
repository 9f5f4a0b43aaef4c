-- What the answering of a frame promises of the lent memory and of the output.
use Rattle.std.specs.Prelude.{◌≡◌, Bool, true, false, List, ℕ, ◌+◌, ◌≤◌, length, Option as Read}
use Rattle.std.proofs.Math.Option.{Option, none, some}
use Rattle.rules.specs.RoomAndSoundLedger.{Ledger}
use Rattle.rules.specs.AnswerNumbers.{Lent, sound, unsound}
use Rattle.rules.specs.Frames.{Operation, on_account, take_snapshot, certify_ledger, prove_conservation, restore_from, recover_from, judge, migrate_to, certify, longest_snapshot, answer_or23}
use Rattle.room.specs.Room.{IsRoom, OfRoom, SoundRoom}
use Rattle.frame_reader.specs.declared.Frame.{Frame}
use Rattle.frame_reader.specs.Operations.{operation_in, operation_read, PartsWithin, PartsStand}
use Rattle.answer_bytes.specs.Sizes.{longest_other_answer}
use Rattle.answer_bytes.specs.Writing.{WritesReply}

-- memory that is what is lent: the room of a sound ledger, or of none
abbrev pub IsLent : List ℕ → Lent → Type 0
IsLent memory (sound L) = IsRoom memory L
IsLent memory unsound = OfRoom memory (λ L. ⊥)

-- what holds of whatever the memory is lent as
abbrev pub OfLent : List ℕ → (Lent → Type 0) → Type 0
OfLent memory P = (l : Lent) → IsLent memory l → P l

-- what an earlier check has found of the memory
abbrev pub Known : Bool → List ℕ → Type 0
Known true memory = SoundRoom memory
Known false memory = IsLent memory unsound

-- the answer's bytes stand at the front of the output; the memory is what is lent after the operation, and no byte of it has changed where it is no room
pub record AnswersOperation (o : Option Operation) (l : Lent) (before after output-before output-after : List ℕ) (written : ℕ) : Type 0 where
  pub writes : WritesReply (answer_or23 l o).reply output-before output-after written
  pub lent : IsLent after (answer_or23 l o).lent
  pub untouched : l ≡ unsound → after ≡ before

-- the same, of the room of whatever sound ledger
abbrev pub AnswersInRoom : Option Operation → (before after output-before output-after : List ℕ) → (written : ℕ) → Type 0
AnswersInRoom o before after output-before output-after written = OfRoom before (λ L. AnswersOperation o (sound L) before after output-before output-after written)

-- and of whatever memory
abbrev pub PromisesAnswer : Option Operation → (before after output-before output-after : List ℕ) → (written : ℕ) → Type 0
PromisesAnswer o before after output-before output-after written = OfLent before (λ l. AnswersOperation o l before after output-before output-after written)

-- ── the room for an answer ─────────────────────────────────────────────────────────────────────

-- the number and a snapshot
abbrev pub longest_answer : ℕ
longest_answer = 1 + longest_snapshot

-- how many bytes the longest answer to an operation takes
abbrev pub room_for_operation : Operation → ℕ
room_for_operation (on_account x) = longest_other_answer
room_for_operation take_snapshot = longest_answer
room_for_operation certify_ledger = longest_other_answer
room_for_operation prove_conservation = longest_other_answer
room_for_operation (restore_from s) = longest_other_answer
room_for_operation (recover_from s) = longest_other_answer
room_for_operation (judge s) = longest_other_answer
room_for_operation (migrate_to fence s) = longest_answer
room_for_operation (certify since s) = longest_other_answer

abbrev pub room_for : Option Operation → ℕ
room_for none = longest_other_answer
room_for (some x) = room_for_operation x

-- a frame that was read from these bytes, and output with room for its longest answer
abbrev pub Answerable : (bytes : List ℕ) → Frame → (output : List ℕ) → Type 0
Answerable bytes f output = PartsWithin bytes f × (room_for (operation_in bytes f) ≤ length output)

-- or none that was read
abbrev pub AnswerableRead : (bytes : List ℕ) → Read Frame → (output : List ℕ) → Type 0
AnswerableRead bytes read output = PartsStand bytes read × (room_for (operation_read bytes read) ≤ length output)
