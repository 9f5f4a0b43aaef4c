-- `snapshot_writer::rows_size` meets its contract. The invariant: the size is that of the rows of the places passed, which no sum lets overflow: each is at
-- most the longest.
use mathlib.Core.Path.{sym, ◌∙◌, ap}
use mathlib.Core.List.{flat_map}
use Prim.Native.Nat.{◌+◌}
use native.Mathlib.Omega.{arith}
use lib.ListN.{length}
use Rattle.rules.specs.SnapshotsMigrationCertificates.{row_bytes}
use Rattle.snapshot_writer.specs.Output.{row_size}
use Rattle.snapshot_writer.proofs.PlaceRows.{size_none, place-counted, place-in-room, size-next, size-most, used-most, rows_all}
use Rattle.snapshot_writer.proofs.rows_size.Goals as goal

pub loop-i-init : goal.loop-i-init
loop-i-init c = sym (size_none c.args.room.now)

pub load_place-requires : goal.load_place-requires
load_place-requires c =
    let room = c.args.room.now in
    (place-in-room room c.requires.ledger c.requires.is_room c.loop-i.i (place-counted room c.load_sizes-sizes.ensures c.loop-i-test.true)).0

pub overflow_add-size : goal.overflow_add-size
overflow_add-size c =
    let room = c.args.room.now in
    let L = c.requires.ledger in
    let r = c.requires.is_room in
    let i = c.loop-i.i in
    let within = place-counted room c.load_sizes-sizes.ensures c.loop-i-test.true in
    record {
      fits = omega (arith, size-next room L r i within, ap row_size c.load_place.ensures, size-most room L r (i + 1) (omega arith), used-most room L r);
    }

pub loop-i-preserved : goal.loop-i-preserved
loop-i-preserved c =
    let room = c.args.room.now in
    let within = place-counted room c.load_sizes-sizes.ensures c.loop-i-test.true in
    omega (arith, size-next room c.requires.ledger c.requires.is_room c.loop-i.i within, ap row_size c.load_place.ensures)

pub returns : goal.returns
returns c L room =
    c.loop-i.invariant
    ∙ ap (λ rs. length (flat_map row_bytes rs)) (rows_all c.args.room.now L room c.loop-i.i (omega (arith, ap (λ s. s.used) c.load_sizes-sizes.ensures)))
