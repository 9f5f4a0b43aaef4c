-- `soundness::name_part` meets its contract: the part of the room is the row of the name's bytes (`part-stands`).
use Rattle.records.proofs.Rows.{span}
use Rattle.soundness.proofs.Standing.{part-stands}
use Rattle.soundness.proofs.name_part.Goals as goal

pub returns-clause-stands : goal.returns-clause-stands
returns-clause-stands c = rw span (part-stands c.args.i c.args.room.now c.args.part c.requires.third)
