-- `seats::open_place` meets its contract: what is loaded are the ledger's counts, so the test says whether it is full; else the look-up says where the
-- name goes, and `opens` that the room with it is the ledger's with the seat.
use mathlib.Core.Path.{◌≡◌, ◌∙◌, sym, ap}
use Prim.Native.Nat.{◌<◌}
use native.Mathlib.Omega.{arith}
use lib.ListN.{length}
use Rattle.rules.specs.RoomAndSoundLedger.{Ledger}
use Rattle.room.specs.Room.{IsRoom}
use Rattle.room.proofs.SoundRoom.{sized, searchable}
use Rattle.seats.specs.Writing.{seated_under}
use Rattle.seats.proofs.Places.{sizes-read, owners-small, one_more, place-for, opens, full}
use Rattle.seats.proofs.open_place.Goals as goal
use Rattle.seats.proofs.open_place.Goals.{Else-sizes}

pub returns-then-sizes : goal.returns-then-sizes
returns-then-sizes c L room =
    let xs = c.args.room.now in
    let read = sizes-read L xs room c.load_sizes-sizes.result c.load_sizes-sizes.ensures in
    full L xs room c.args.part.now c.args.seat c.requires.3 (c.requires.4 L room) (sym read.0 ∙ c.if-sizes.true ∙ read.1)

-- there is room for one more name
room_left : (c : Else-sizes) (L : Ledger) → IsRoom c.args.room.now L → length L.places < L.T
room_left c L room =
    let read = sizes-read L c.args.room.now room c.load_sizes-sizes.result c.load_sizes-sizes.ensures in
    let unequal : c.load_sizes-sizes.result.used ≡ c.load_sizes-sizes.result.names → ⊥ = c.if-sizes.false in
    omega (arith, room.sound.names_fit)

pub place_for-at-requires : goal.place_for-at-requires
place_for-at-requires c = searchable c.args.room.now c.requires.0

pub insert_place-requires : goal.insert_place-requires
insert_place-requires c =
    let xs = c.args.room.now in
    let L = c.requires.0.ledger in
    let room = c.requires.0.is_room in
    (sized xs L room, omega (arith, c.place_for-at.ensures, place-for L xs room c.args.part.now), one_more L xs room (room_left (goal.at.insert_place-requires c).Else-sizes L room), owners-small L xs room)

pub returns : goal.returns
returns c L room =
    opens L c.args.room.now room c.args.part.now c.args.seat c.insert_place.new.room c.insert_place.ensures.0 c.requires.2 c.requires.3 (c.requires.4 L room) (room_left (goal.at.returns c).Else-sizes L room)
    c.place_for-at.result c.place_for-at.ensures c.place_with.result (c.place_with.ensures ∙ ap (λ n. seated_under n c.args.seat) c.name_of-name.ensures) c.insert_place.ensures.1
