-- `snapshot_writer::has_room` meets its contract: no row is longer than the longest, so room for that many of those is room enough; else the rows are
-- measured.
use mathlib.Core.Path.{ap}
use native.Mathlib.Omega.{arith}
use Rattle.snapshot_writer.proofs.PlaceRows.{used-most, rows-most}
use Rattle.snapshot_writer.proofs.Answering.{measured, plenty}
use Rattle.snapshot_writer.proofs.has_room.Goals as goal

pub overflow_mul-longest : goal.overflow_mul-longest
overflow_mul-longest c =
    record { fits = omega (arith, ap (λ s. s.used) c.load_sizes-sizes.ensures, used-most c.args.room.now c.requires.ledger c.requires.is_room) }

pub overflow_add-longest : goal.overflow_add-longest
overflow_add-longest c =
    record { fits = omega (arith, ap (λ s. s.used) c.load_sizes-sizes.ensures, used-most c.args.room.now c.requires.ledger c.requires.is_room) }

pub returns-then-longest-size : goal.returns-then-longest-size
returns-then-longest-size c L room =
    plenty L c.args.size c.args.room.now room (omega (arith, ap (λ s. s.used) c.load_sizes-sizes.ensures, c.if-longest-size.true))

pub overflow_add-result : goal.overflow_add-result
overflow_add-result c =
    let L = c.requires.ledger in
    let r = c.requires.is_room in
    record { fits = omega (arith, c.rows_size.ensures L r, rows-most c.args.room.now L r, used-most c.args.room.now L r) }

pub returns : goal.returns
returns c L room = measured L c.args.size c.rows_size.result (c.rows_size.ensures L room)
