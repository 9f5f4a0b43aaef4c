-- `tables::move_places_up` meets its contract: the places moved so far are those from j on.
use Prim.Native.Nat.{◌+◌, ◌-◌}
use mathlib.Core.Path.{◌≡◌, refl, ap, subst}
use native.Mathlib.Omega.{arith}
use Rattle.room.specs.Contents.{contents_of, empty_place}
use Rattle.tables.specs.Steps.{Becomes, on_places, moved_up}
use Rattle.tables.proofs.Moving.{up_none, up_turn}
use Rattle.tables.proofs.Stores.{sized-by, places-length, place-moved}
use Rattle.tables.proofs.move_places_up.Goals as goal

pub loop-j-init : goal.loop-j-init
loop-j-init c =
    let room = c.args.room.now in
    record {
      from = c.requires.1;
      sized = sized-by room c.requires.0;
      moved = (refl, ap (λ ps. on_places (λ _. ps) (contents_of room)) (up_none c.args.used empty_place (contents_of room).places (rw places-length c.requires.2)));
    }

pub loop-j-preserved : goal.loop-j-preserved
loop-j-preserved c =
    let stored = c.store_place in
    let room = c.args.room.now in
    let used = c.args.used in
    let j = c.loop-j.j in
    let e : j - 1 + 1 ≡ j = omega arith in
    record {
      from = omega arith;
      sized = c.loop-j.invariant.sized;
      moved = place-moved room c.loop-j.room (moved_up j used empty_place) c.loop-j.invariant.moved (moved_up (j - 1) used empty_place) stored.new.room (j - 1) j empty_place _ c.requires.0
          (omega arith) (omega arith) c.load_place-moved.ensures (rw e at stored.ensures.stored, stored.ensures.fits)
          (up_turn j used empty_place (contents_of room).places (omega arith) (omega arith) (rw places-length c.requires.2));
    }

pub returns : goal.returns
returns c =
    let e : c.loop-j.j ≡ c.args.i = omega arith in
    subst (λ j. Becomes (on_places (moved_up j c.args.used empty_place)) c.args.room.now c.loop-j.room) e c.loop-j.invariant.moved
