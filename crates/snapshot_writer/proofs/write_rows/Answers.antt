-- `snapshot_writer::write_rows` meets its contract. The invariant: the rows of the places passed are written. What the requirement says of all rows bounds
-- those passed (PlaceRows).
use mathlib.Core.Path.{sym, ◌∙◌, ap, subst}
use mathlib.Core.List.{List, ◌++◌}
use Prim.Native.Nat.{◌+◌}
use native.Mathlib.Omega.{arith}
use Rattle.rules.specs.SnapshotsMigrationCertificates.{Row}
use Rattle.snapshot_writer.specs.Rows.{WritesRows}
use Rattle.snapshot_writer.specs.Output.{row_of_place, row_size}
use Rattle.snapshot_writer.proofs.PlaceRows.{rows_to, none_written, count_most, used-most, place-counted, place-in-room, rows_next, size-next, rows_all, size-within}
use Rattle.snapshot_writer.proofs.write_rows.Goals as goal

pub loop-i-init : goal.loop-i-init
loop-i-init c = none_written c.args.room.now c.args.output.now

pub load_place-requires : goal.load_place-requires
load_place-requires c =
    let room = c.args.room.now in
    (place-in-room room c.requires.0.ledger c.requires.0.is_room c.loop-i.i (place-counted room c.load_sizes-sizes.ensures c.loop-i-test.true)).0

pub append_account-extent-requires : goal.append_account-extent-requires
append_account-extent-requires c =
    let room = c.args.room.now in
    let L = c.requires.0.ledger in
    let r = c.requires.0.is_room in
    let i = c.loop-i.i in
    let within = place-counted room c.load_sizes-sizes.ensures c.loop-i-test.true in
    let written = c.loop-i.invariant in
    record {
      room = omega (arith, written.end, size-next room L r i within, ap row_size c.load_place.ensures, size-within room L r (i + 1), c.requires.1 L r, c.loop-i.auto.output);
      short = omega (arith, (place-in-room room L r i within).1, ap (λ p. p.name.length) c.load_place.ensures);
      few = omega (arith, written.rows, count_most room i, used-most room L r);
    }

pub loop-i-preserved : goal.loop-i-preserved
loop-i-preserved c =
    let room = c.args.room.now in
    let i = c.loop-i.i in
    let next = rows_next room c.requires.0.ledger c.requires.0.is_room i (place-counted room c.load_sizes-sizes.ensures c.loop-i-test.true) in
    subst (λ (rs : List Row). WritesRows rs c.args.output.now c.append_account-extent.new.output c.append_account-extent.result)
    (ap (λ p. rows_to room i ++ row_of_place p) c.load_place.ensures ∙ sym next)
    (c.append_account-extent.ensures c.args.output.now (rows_to room i) c.loop-i.invariant)

pub returns : goal.returns
returns c L room =
    subst (λ (rs : List Row). WritesRows rs c.args.output.now c.loop-i.output c.loop-i.extent)
    (rows_all c.args.room.now L room c.loop-i.i (omega (arith, ap (λ s. s.used) c.load_sizes-sizes.ensures))) c.loop-i.invariant
