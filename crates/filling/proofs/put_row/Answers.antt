-- `filling::put_row` meets its contract: the seat is not vacant and has room, so of what `seats::write_seat` may do only putting it is left.
use mathlib.Core.Path.{◌∙◌, ap}
use mathlib.Core.Bool.{cond}
use Rattle.rules.specs.RoomAndSoundLedger.{with_places}
use Rattle.rules.specs.AccountRules.{seated}
use Rattle.rules.proofs.Tests.{true-false}
use Rattle.moves.specs.Moves.{meaning}
use Rattle.room.specs.Room.{contents_in}
use Rattle.room.proofs.SoundRoom.{searchable}
use Rattle.filling.proofs.put_row.Goals as goal

pub find-found-requires : goal.find-found-requires
find-found-requires c =
    searchable c.args.room.now c.requires.0

-- the seat is not vacant: nothing is freed
pub write_seat-requires : goal.write_seat-requires
write_seat-requires c =
    (c.requires.0, c.requires.1, c.requires.2, c.find-found.ensures, λ L room vacant. true-false vacant c.requires.3)

pub returns : goal.returns
returns c L room =
    let a = c.args in
    let done = c.write_seat.ensures L room in
    record {
      size = done.size;
      contents = done.holds ∙ ap (λ b. cond b (contents_in (with_places L (seated a.part.now (meaning a.seat) L.places))) (contents_in L)) (c.requires.4 L room);
    }
