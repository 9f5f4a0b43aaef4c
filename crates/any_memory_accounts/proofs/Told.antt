-- A read that asks first whether the memory is sound: what it promises of any memory, from what the read proper promises of a sound room. The check finds every goal
-- of this crate alone; each `returns` is answered all the same, so that a wrong function is refused at once, by what differs.
use Rattle.std.proofs.Common.{◌≡◌, List, ℕ}
use Rattle.rules.specs.RoomAndSoundLedger.{Ledger}
use Rattle.rules.specs.AnswerNumbers.{Reply}
use Rattle.room.specs.Room.{SoundRoom, OfRoom}
use Rattle.any_memory_accounts.specs.Tells.{Tells}

pub told : (f : Ledger → Reply) (memory : List ℕ) → SoundRoom memory → (reply : Reply) → OfRoom memory (λ L. reply ≡ f L) → Tells f memory reply
told f memory sound reply reads = record { sound_room = reads; other = λ no_room. absurd (no_room sound.ledger sound.is_room) }
