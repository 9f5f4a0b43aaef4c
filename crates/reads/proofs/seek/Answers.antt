-- `reads::seek` meets its contract: what the look-up found is the ledger's seat of the name (`sought-seat`).
use Rattle.room.proofs.SoundRoom.{searchable}
use Rattle.lookup.proofs.Places.{seat-readable}
use Rattle.reads.proofs.Seeking.{sought-seat}
use Rattle.reads.proofs.seek.Goals as goal

pub find-found-requires : goal.find-found-requires
find-found-requires c = searchable _ c.requires

pub seat_at-requires : goal.seat_at-requires
seat_at-requires c = seat-readable _ c.requires _ _ c.find-found.ensures

pub returns : goal.returns
returns c L room = sought-seat L _ _ room _ _ c.if-part-gt-LONGEST_NAME.false c.find-found.ensures c.seat_at.ensures
