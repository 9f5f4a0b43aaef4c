-- `tables::move_places_down` meets its contract: the places moved so far are those before j.
use Prim.Native.Nat.{◌+◌, ◌-◌}
use mathlib.Core.Path.{refl, ap}
use native.Mathlib.Omega.{arith}
use Rattle.room.specs.Contents.{contents_of, empty_place}
use Rattle.tables.specs.Steps.{on_places, moved_down}
use Rattle.tables.proofs.Moving.{down-none, down_turn}
use Rattle.tables.proofs.Stores.{sized-by, places-length, place-moved}
use Rattle.tables.proofs.move_places_down.Goals as goal

pub loop-j-init : goal.loop-j-init
loop-j-init c =
    let room = c.args.room.now in
    record {
      sized = sized-by room c.requires.0;
      moved = (refl, ap (λ ps. on_places (λ _. ps) (contents_of room)) (down-none c.args.i empty_place (contents_of room).places (rw places-length (omega arith))));
    }

pub loop-j-preserved : goal.loop-j-preserved
loop-j-preserved c =
    let stored = c.store_place in
    let room = c.args.room.now in
    let i = c.args.i in
    let j = c.loop-j.j in
    record {
      sized = c.loop-j.invariant.sized;
      moved = place-moved room c.loop-j.room (moved_down i j empty_place) c.loop-j.invariant.moved (moved_down i (j + 1) empty_place) stored.new.room j (j - 1) empty_place _ c.requires.0
          (omega arith) (omega arith) c.load_place-moved.ensures (stored.ensures.stored, stored.ensures.fits)
          (down_turn i j empty_place (contents_of room).places (omega arith) (rw places-length (omega arith)));
    }
