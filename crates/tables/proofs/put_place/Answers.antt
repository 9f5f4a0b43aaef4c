-- `tables::put_place` meets its contract: a place in use lies within the room, and `place-put` reads the one store as a change of the contents.
use native.Mathlib.Omega.{arith}
use Rattle.tables.proofs.Stores.{sized-by, place-put}
use Rattle.tables.proofs.put_place.Goals as goal

pub store_place-requires : goal.store_place-requires
store_place-requires c = let r = sized-by c.args.room.now c.requires.0 in omega arith

pub returns : goal.returns
returns c =
    let r = sized-by c.args.room.now c.requires.0 in
    let stored = c.store_place in
    place-put c.args.room.now stored.new.room c.requires.0 c.args.i c.args.place (omega arith) stored.ensures.fits stored.ensures.stored
