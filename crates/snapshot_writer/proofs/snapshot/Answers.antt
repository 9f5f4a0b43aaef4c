-- `snapshot_writer::snapshot` meets its contract: the head is stamped, the output measured, rows and header written, in this order; each return is one law of
-- Answering, and what was measured is what writing asks.
use mathlib.Core.Path.{◌≡◌, sym, ap, ◌∙◌}
use mathlib.Core.Bool.{false}
use native.Mathlib.Omega.{arith}
use borrow.Author.Tests.{not-true, not-false}
use lib.ListN.{length}
use Rattle.rules.specs.RoomAndSoundLedger.{Ledger}
use Rattle.rules.specs.SnapshotsMigrationCertificates.{Snapshot, account_rows, snapshot_of, too_short_for}
use Rattle.room.specs.Room.{OfRoom}
use Rattle.room.proofs.SoundRoom.{head-is, sized}
use Rattle.snapshot_writer.proofs.Answering.{roomy, WrittenInto, written_out, answers-exhausted, answers-short, answers-written}
use Rattle.snapshot_writer.proofs.snapshot.Goals as goal

pub stamp-requires : goal.stamp-requires
stamp-requires c =
    let r = c.requires.is_room in
    omega (arith, ap (λ h. h.next_id) (c.load_head.ensures ∙ head-is c.args.room.now c.requires.ledger r), r.sound.next_id.1)

pub returns-in_default-clause-performs : goal.returns-in_default-clause-performs
returns-in_default-clause-performs c L r = answers-exhausted c.args.room.now L r (length c.args.output.now) c.load_head.ensures c.in_default.ensures

pub returns-then-not-has_room-clause-performs : goal.returns-then-not-has_room-clause-performs
returns-then-not-has_room-clause-performs c L r =
    answers-short c.args.room.now L r (length c.args.output.now) c.load_head.ensures c.in-Ok.ensures (not-false _ (sym (c.if-not-has_room.ensures L r)))

pub write_rows-extent-requires : goal.write_rows-extent-requires
write_rows-extent-requires c =
    (c.requires, λ L r. roomy L (length c.args.output.now) (not-true _ (sym (c.if-not-has_room.ensures L r))))

pub write_header-requires : goal.write_header-requires
write_header-requires c =
    let L = c.requires.ledger in
    omega (arith, roomy L (length c.args.output.now) (not-true _ (sym (c.if-not-has_room.ensures L c.requires.is_room))), c.write_rows-extent.auto)

pub put_head-requires : goal.put_head-requires
put_head-requires c = sized c.args.room.now c.requires.ledger c.requires.is_room

pub returns : goal.returns
returns c =
    let room = c.args.room.now in
    let output = c.args.output.now in
    let rows = c.write_rows-extent in
    let enough : OfRoom room (λ L. too_short_for (length output) (snapshot_of L) ≡ false) = λ L r. not-true _ (sym (c.if-not-has_room.ensures L r)) in
    let made : Ledger → Snapshot = λ L. record { version = c.in-Ok.head.last_version; active = c.load_sizes-sizes.result.live; rows = account_rows L.places } in
    let into : OfRoom room (λ L. WrittenInto output c.write_header.new.output rows.result.end (made L)) =
    λ L r. written_out (made L) output rows.new.output c.write_header.new.output rows.result (omega (arith, roomy L (length output) (enough L r))) (rows.ensures L r) c.write_header.ensures in
    record {
      performs = λ L r. answers-written room L r (length output) c.load_head.ensures c.in-Ok.ensures (enough L r) c.load_sizes-sizes.result c.load_sizes-sizes.ensures _ _ (into L r).0 c.put_head.ensures;
      output = (into c.requires.ledger c.requires.is_room).1;
      size = omega (arith, roomy c.requires.ledger (length output) (enough c.requires.ledger c.requires.is_room), (rows.ensures c.requires.ledger c.requires.is_room).end);
    }
