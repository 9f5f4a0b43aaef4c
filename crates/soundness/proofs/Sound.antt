-- The rooms of which the facts hold are just the rooms of sound ledgers. So whatever decides the facts decides whether lent bytes are such a room.
use mathlib.Core.Logic.{◌↔◌}
use mathlib.Core.Bool.{Bool}
use mathlib.Core.List.{List}
use Prim.Native.Nat.{ℕ}
use Rattle.rules.specs.Lists.{All}
use Rattle.rules.specs.RoomAndSoundLedger.{IsByte}
use Rattle.room.specs.Room.{SoundRoom}
use Rattle.soundness.specs.Facts.{Decides, RoomFacts}
use Rattle.soundness.proofs.FactsToSound.{facts-sound}
use Rattle.soundness.proofs.SoundToFacts.{sound-facts}

pub facts-are-soundness : (xs : List ℕ) → All IsByte xs → RoomFacts xs ↔ SoundRoom xs
facts-are-soundness xs bytes = (facts-sound xs bytes, sound-facts xs)

-- an answer about the facts is an answer about the room
pub decides-soundness : (xs : List ℕ) (r : Bool) → All IsByte xs → Decides (RoomFacts xs) r → Decides (SoundRoom xs) r
decides-soundness xs r bytes d = record { holds = λ e. facts-sound xs bytes (d.holds e); fails = λ e room. d.fails e (sound-facts xs room) }
