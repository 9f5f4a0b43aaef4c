-- `tables::insert_place` meets its contract: the place goes where the one at i still stands.
use Prim.Native.Nat.{◌+◌, ◌≤◌}
use mathlib.Core.Path.{sym, ap, ap₂, subst}
use native.Mathlib.Omega.{arith}
use lib.ListN.{length, take}
use Rattle.rules.specs.Lists.{All}
use Rattle.room.specs.Contents.{contents_of, opened, renumbered, raised, empty_place, inserted_place}
use Rattle.tables.specs.Steps.{Becomes, on_places, moved_up, CanRise}
use Rattle.tables.proofs.Moving.{opened-set}
use Rattle.tables.proofs.Stores.{loaded, for-bookings, finished, places-length, place-replaced}
use Rattle.tables.proofs.Whole.{inserted}
use Rattle.tables.proofs.insert_place.Goals as goal
use Rattle.tables.proofs.insert_place.Goals.{After-store_place}

pub move_places_up-requires : goal.move_places_up-requires
move_places_up-requires c =
    let z = loaded _ _ c.requires.0 c.load_sizes-sizes.ensures in
    (c.requires.0, omega arith, omega arith)

pub store_place-requires : goal.store_place-requires
store_place-requires c = let z = loaded _ _ c.requires.0 c.load_sizes-sizes.ensures in omega arith

placed : (c : After-store_place)
    → Becomes (on_places (opened c.args.i c.load_sizes-sizes.result.used c.args.place)) c.args.room.now c.store_place.new.room
placed c =
    let used = c.load_sizes-sizes.result.used in
    let z = loaded _ _ c.requires.0 c.load_sizes-sizes.ensures in
    let moved = c.move_places_up in
    let room = c.args.room.now in
    let i = c.args.i in
    let place = c.args.place in
    let ps = (contents_of room).places in
    let all : i ≤ length ps = rw places-length (omega arith) in
    place-replaced room moved.new.room (moved_up i used empty_place) moved.ensures (opened i used place) c.store_place.new.room i place c.requires.0 (omega arith) (c.store_place.ensures.stored, c.store_place.ensures.fits)
    (opened-set i used _ place ps all)

pub raise_owners-requires : goal.raise_owners-requires
raise_owners-requires c =
    let z = loaded _ _ c.requires.0 c.load_sizes-sizes.ensures in
    let b = placed (goal.at.raise_owners-requires c).After-store_place in
    let ready = for-bookings (opened c.args.i c.load_sizes-sizes.result.used c.args.place) c.args.room.now c.store_place.new.room c.requires.0 b c.load_sizes-sizes.result z in
    (ready.0, ready.1, ready.2, subst (All CanRise) (ap₂ take (sym z.live) (sym (ap (λ k. k.bookings) b.1))) c.requires.3)

pub returns : goal.returns
returns c =
    let t = c.load_sizes-sizes.result in
    let z = loaded _ _ c.requires.0 c.load_sizes-sizes.ensures in
    let owners = c.raise_owners in
    let last = c.store_counts in
    let i = c.args.i in
    let place = c.args.place in
    finished (opened i t.used place) c.args.room.now c.store_place.new.room c.requires.0 (placed (goal.at.returns c).After-store_place) (renumbered (raised i) t.live) (inserted_place i place)
    owners.new.room last.new.room (t.used + 1) t.live owners.ensures (last.ensures.stored, last.ensures.fits) (inserted (contents_of c.args.room.now) t z.sizes i place)
