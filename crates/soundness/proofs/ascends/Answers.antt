-- `soundness::ascends` meets its contract: the names that are loaded are of bytes, as the room is.
use Rattle.std.proofs.Common.{◌-◌}
use Rattle.numbers.proofs.Bytes.{all-bytes}
use Rattle.soundness.proofs.NameBytes.{name-at-bytes}
use Rattle.soundness.proofs.ascends.Goals as goal

pub precedes-requires-clause-bytes : goal.precedes-requires-clause-bytes
precedes-requires-clause-bytes c =
    let room = c.args.room.now in
    let bytes = all-bytes room c.type_inv.room in
    (rw c.load_place.ensures (name-at-bytes (c.args.i - 1) room bytes), rw c.load_place-2.ensures (name-at-bytes c.args.i room bytes))
