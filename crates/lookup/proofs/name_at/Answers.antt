-- `lookup::name_at` meets its contract: the length and the bytes in the room are those of the place's name.
use mathlib.Core.Path.{sym}
use native.Mathlib.Omega.{arith}
use Rattle.records.proofs.Rows.{span}
use Rattle.room.proofs.InRoom.{name-length, name-spelled}
use Rattle.lookup.proofs.name_at.Goals as goal

pub slice_bounds-result-end : goal.slice_bounds-result-end
slice_bounds-result-end c = omega (arith, name-length c.args.i c.args.room.now c.requires.0)

pub returns : goal.returns
returns c = rw span (sym (name-spelled c.args.i c.args.room.now c.requires.0 c.requires.1))
