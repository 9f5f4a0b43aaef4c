-- `soundness::name_length` meets its contract: the byte at its index is the length in the place's record (`name-length` of room).
use mathlib.Core.Path.{sym}
use Rattle.room.proofs.InRoom.{name-length}
use Rattle.soundness.proofs.name_length.Goals as goal

pub returns : goal.returns
returns c = sym (name-length _ _ c.requires)
