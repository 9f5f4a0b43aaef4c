-- `seats::put_seat` meets its contract: the place is loaded, its seat replaced and the place stored: together the change of one seat.
use mathlib.Core.Path.{ap, ◌∙◌}
use native.Mathlib.Omega.{arith}
use Rattle.room.specs.Contents.{contents_of, empty_place, with_place}
use Rattle.room.specs.Seats.{reseated, with_seat}
use Rattle.tables.proofs.Stores.{sized-by, place-loaded}
use Rattle.seats.proofs.put_seat.Goals as goal

pub load_place-old-requires : goal.load_place-old-requires
load_place-old-requires c = let r = sized-by c.args.room.now c.requires.0 in omega arith

pub returns : goal.returns
unfolding with_seat
returns c =
    let put = c.put_place in
    let xs = c.args.room.now in
    let r = sized-by xs c.requires.0 in (
      put.ensures.0,
      put.ensures.1 ∙ ap (λ p. with_place c.args.i p (contents_of xs)) (c.place_with.ensures ∙ ap (reseated c.args.seat) (c.load_place-old.ensures ∙ place-loaded xs c.args.i empty_place (omega arith))),
    )
