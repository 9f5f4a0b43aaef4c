-- `soundness::is_sound` meets its contract: what `check` decides of the records is, for a slice of bytes, whether it is the room of a sound ledger.
use Rattle.numbers.proofs.Bytes.{all-bytes}
use Rattle.soundness.proofs.Sound.{decides-soundness}
use Rattle.soundness.proofs.is_sound.Goals as goal

pub returns : goal.returns
returns c = decides-soundness c.args.room.now c.check.result (all-bytes c.args.room.now c.type_inv.room) c.check.ensures
