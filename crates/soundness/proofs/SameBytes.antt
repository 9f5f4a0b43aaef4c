-- What `make` leaves open: nothing. Whether a ledger is made is told by the sizes alone, and one ledger has one room.
use mathlib.Core.Path.{◌≡◌, sym, ◌∙◌}
use mathlib.Core.List.{List}
use mathlib.Core.Option.{Option, none, some}
use Prim.Native.Nat.{ℕ}
use Rattle.rules.specs.Lists.{All}
use Rattle.rules.specs.RoomAndSoundLedger.{Ledger, IsByte}
use Rattle.rules.specs.AnswerNumbers.{Reply}
use Rattle.room.proofs.Decoding.{canonical}
use Rattle.soundness.specs.Making.{Makes}

-- of `soundness::make`, and of `zatovola_make`, whose reply is its number
pub same-made : (o : Option Ledger) (before after others : List ℕ) (r s : Reply) → All IsByte after → All IsByte others → Makes o before r after → Makes o before s others → (r ≡ s) × (after ≡ others)
same-made none before after others r s bytes other-bytes (a, b) (c, d) = (a ∙ sym c, b ∙ sym d)
same-made (some L) before after others r s bytes other-bytes (a, b) (c, d) = (a ∙ sym c, canonical after others L bytes other-bytes b d)
