-- `tables::free_place` meets its contract: the last place, which still stands where it stood, is emptied.
use Prim.Native.Nat.{◌-◌, ◌≤◌}
use native.Mathlib.Omega.{arith}
use lib.ListN.{length}
use Rattle.room.specs.Contents.{contents_of, closed, renumbered, lowered, empty_place, freed_place}
use Rattle.tables.specs.Steps.{Becomes, on_places, moved_down}
use Rattle.tables.proofs.Moving.{closed-set}
use Rattle.tables.proofs.Stores.{loaded, for-bookings, finished, places-length, place-replaced}
use Rattle.tables.proofs.Whole.{freed}
use Rattle.tables.proofs.free_place.Goals as goal
use Rattle.tables.proofs.free_place.Goals.{After-store_place}

pub move_places_down-requires : goal.move_places_down-requires
move_places_down-requires c =
    let z = loaded _ _ c.requires.0 c.load_sizes-sizes.ensures in
    (c.requires.0, omega arith, omega arith)

pub overflow_sub-used : goal.overflow_sub-used
overflow_sub-used c = let z = loaded _ _ c.requires.0 c.load_sizes-sizes.ensures in omega arith

pub store_place-requires : goal.store_place-requires
store_place-requires c = let z = loaded _ _ c.requires.0 c.load_sizes-sizes.ensures in omega arith

pub overflow_sub-sizes : goal.overflow_sub-sizes
overflow_sub-sizes c = let z = loaded _ _ c.requires.0 c.load_sizes-sizes.ensures in omega arith

emptied : (c : After-store_place)
    → Becomes (on_places (closed c.args.i c.load_sizes-sizes.result.used empty_place)) c.args.room.now c.store_place.new.room
emptied c =
    let used = c.load_sizes-sizes.result.used in
    let z = loaded _ _ c.requires.0 c.load_sizes-sizes.ensures in
    let moved = c.move_places_down in
    let room = c.args.room.now in
    let i = c.args.i in
    let ps = (contents_of room).places in
    let all : used ≤ length ps = rw places-length (omega arith) in
    place-replaced room moved.new.room (moved_down i used empty_place) moved.ensures (closed i used empty_place) c.store_place.new.room (used - 1) empty_place c.requires.0 (omega arith) (c.store_place.ensures.stored, c.store_place.ensures.fits)
    (closed-set i used _ empty_place ps (omega arith) all)

pub lower_owners-requires : goal.lower_owners-requires
lower_owners-requires c =
    for-bookings (closed c.args.i c.load_sizes-sizes.result.used empty_place) c.args.room.now c.store_place.new.room c.requires.0 (emptied (goal.at.lower_owners-requires c).After-store_place)
    c.load_sizes-sizes.result (loaded _ _ c.requires.0 c.load_sizes-sizes.ensures)

pub returns : goal.returns
returns c =
    let t = c.load_sizes-sizes.result in
    let z = loaded _ _ c.requires.0 c.load_sizes-sizes.ensures in
    let owners = c.lower_owners in
    let last = c.store_counts in
    let i = c.args.i in
    finished (closed i t.used empty_place) c.args.room.now c.store_place.new.room c.requires.0 (emptied (goal.at.returns c).After-store_place) (renumbered (lowered i) t.live) (freed_place i)
    owners.new.room last.new.room (t.used - 1) t.live owners.ensures (last.ensures.stored, last.ensures.fits) (freed (contents_of c.args.room.now) t z.sizes i)
