-- `seats::seat_at` meets its contract: a place that was found is in use, so what is loaded is its entry; an absent name has the seat of an empty place.
use mathlib.Core.Path.{sym, ap, ◌∙◌, subst}
use Prim.Native.Nat.{◌<◌}
use native.Mathlib.Omega.{arith}
use lib.ListN.{length}
use Rattle.records.specs.Records.{sizes_of}
use Rattle.room.specs.Contents.{contents_of, used_places, empty_place}
use Rattle.room.specs.Seats.{FoundIn, seat_of_place, seat_found}
use Rattle.room.proofs.InRoom.{used-places, loaded-place}
use Rattle.seats.proofs.seat_at.Goals as goal
use Rattle.seats.proofs.seat_at.Goals.{In-Some}

-- a place that was found is in use
in_use : (c : In-Some) → c.in-Some.i < (sizes_of c.args.room.now).used
in_use c =
    let xs = c.args.room.now in
    let h : c.in-Some.i < length (used_places (contents_of xs)) = subst (λ f. FoundIn f (used_places (contents_of xs))) c.in-Some.is c.requires.1 in
    omega (arith, used-places xs c.requires.0)

pub load_place-requires : goal.load_place-requires
load_place-requires c = omega (arith, in_use (goal.at.load_place-requires c).In-Some, c.requires.0)

pub returns-in-Some : goal.returns-in-Some
returns-in-Some c =
    let xs = c.args.room.now in
    c.seat_of.ensures
    ∙ ap seat_of_place (c.load_place.ensures ∙ loaded-place xs c.requires.0 c.in-Some.i empty_place (in_use (goal.at.returns-in-Some c).In-Some))
    ∙ sym (ap (λ f. seat_found f (used_places (contents_of xs))) c.in-Some.is)
