-- `turns::make_room`: `to_front` leaves at the front what was held; Reading.antt has what it is then, held on (`stays-held`) or handed on
-- (`too-long-to-hold`).
use Prim.Native.Nat.{◌-◌}
use native.Mathlib.Omega.{arith}
use Rattle.records.specs.Rows.{row}
use Rattle.turns.proofs.Reading.{stays-held, too-long-to-hold}
use Rattle.turns.proofs.make_room.Goals as goal

pub returns-then-size-input : goal.returns-then-size-input
returns-then-size-input c =
    let f = c.to_front-size in
    let a = c.args in record { room = (omega arith, omega (arith, c.if-size-input.true, f.auto)); reads = stays-held (row (a.end - a.from) a.from a.input.now) f.new.input f.result f.ensures.front }

pub returns : goal.returns
returns c =
    let f = c.to_front-size in
    let a = c.args in record { room = (omega arith, omega (arith, c.requires.2, f.auto)); reads = too-long-to-hold (row (a.end - a.from) a.from a.input.now) f.new.input f.result f.ensures.front (omega (arith, c.if-size-input.false, f.auto)) }
