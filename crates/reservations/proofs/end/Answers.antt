-- `reservations::end` meets its contract: the first of the two changes of the contents leaves the sizes that the second asks for.
use mathlib.Core.Path.{◌≡◌}
use Rattle.room.specs.Contents.{contents_of}
use Rattle.reservations.proofs.Stepping.{seated-sizes, seated-sized}
use Rattle.reservations.proofs.end.Goals as goal

pub remove_booking-requires : goal.remove_booking-requires
remove_booking-requires c =
    let xs = c.args.room.now in
    let put = c.put_seat in
    let same : (contents_of put.new.room).sizes ≡ (contents_of xs).sizes = seated-sizes xs put.new.room c.requires.0 c.args.owner c.args.seat put.ensures in (
      seated-sized xs put.new.room c.requires.0 c.args.owner c.args.seat put.ensures,
      rw same c.requires.2,
    )
