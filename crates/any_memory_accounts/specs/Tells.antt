-- What a read promises of any lent memory, which it cannot change: the read of the rules where it is the room of a sound ledger, else 24.
use Rattle.std.specs.Prelude.{◌≡◌, List, ℕ}
use Rattle.rules.specs.RoomAndSoundLedger.{Ledger}
use Rattle.rules.specs.AnswerNumbers.{Reply, UnsoundLedger, reply_of}
use Rattle.room.specs.Room.{OfRoom}

pub record Tells (f : Ledger → Reply) (memory : List ℕ) (r : Reply) : Type 0 where
  pub sound_room : OfRoom memory (λ L. r ≡ f L)
  pub other : OfRoom memory (λ L. ⊥) → r ≡ reply_of UnsoundLedger
