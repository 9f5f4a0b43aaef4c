-- `seats::write_seat` meets its contract: one lemma for each way of writing.
use mathlib.Core.Path.{sym}
use Rattle.room.proofs.SoundRoom.{sized}
use Rattle.seats.proofs.Places.{found-held, found_nowhere, found-in-use, keeps, frees, leaves}
use Rattle.seats.proofs.write_seat.Goals as goal

-- ── a name that holds no place ─────────────────────────────────────────────────────────────────

pub returns-in-None-true : goal.returns-in-None-true
returns-in-None-true c L room =
    let xs = c.args.room.now in
    leaves L xs room c.args.part.now c.args.seat (sym c.in-None-true.ensures) (found_nowhere L xs room c.args.part.now c.args.found c.requires.3 c.in-None-true.is-0)

pub open_place-requires : goal.open_place-requires
open_place-requires c =
    (c.requires.0, c.requires.1, c.requires.2, sym c.in-None-false.ensures, λ L room. found_nowhere L c.args.room.now room c.args.part.now c.args.found c.requires.3 c.in-None-false.is-0)

-- ── a name that holds one ──────────────────────────────────────────────────────────────────────

pub free_place-requires : goal.free_place-requires
free_place-requires c =
    let xs = c.args.room.now in
    let L = c.requires.0.ledger in
    let room = c.requires.0.is_room in
    (sized xs L room, found-in-use L xs room c.args.part.now c.args.found c.requires.3 c.in-Some-true.i c.in-Some-true.is-0)

pub returns-in-Some-true : goal.returns-in-Some-true
returns-in-Some-true c L room =
    let xs = c.args.room.now in
    let vacant = sym c.in-Some-true.ensures in
    frees L xs room c.args.part.now c.args.seat c.free_place.new.room c.free_place.ensures.0 vacant (c.requires.4 L room vacant) c.in-Some-true.i
    (found-held L xs room c.args.part.now c.args.found c.requires.3 c.in-Some-true.i c.in-Some-true.is-0) c.free_place.ensures.1

pub put_seat-requires : goal.put_seat-requires
put_seat-requires c =
    let xs = c.args.room.now in
    let L = c.requires.0.ledger in
    let room = c.requires.0.is_room in
    (sized xs L room, found-in-use L xs room c.args.part.now c.args.found c.requires.3 c.in-Some-false.i c.in-Some-false.is-0)

pub returns-in-Some-false : goal.returns-in-Some-false
returns-in-Some-false c L room =
    let xs = c.args.room.now in
    keeps L xs room c.args.part.now c.args.seat c.put_seat.new.room c.put_seat.ensures.0 c.requires.2 (sym c.in-Some-false.ensures) c.in-Some-false.i
    (found-held L xs room c.args.part.now c.args.found c.requires.3 c.in-Some-false.i c.in-Some-false.is-0) c.put_seat.ensures.1
