-- The steps on the tables one after the other: the room stays sized, since a step changes the counts only as it says.
use mathlib.Core.Path.{◌≡◌, ap}
use mathlib.Core.List.{List}
use Prim.Native.Nat.{ℕ, suc, ◌<◌}
use native.Mathlib.Omega.{arith}
use Rattle.moves.specs.declared.Seat.{Seat}
use Rattle.records.specs.declared.Booking.{Booking}
use Rattle.records.specs.declared.Sizes.{Sizes}
use Rattle.records.specs.Records.{sizes_of}
use Rattle.room.specs.Contents.{contents_of, Sized, appended_booking}
use Rattle.room.specs.Seats.{with_seat}
use Rattle.tables.specs.Steps.{Becomes}
use Rattle.tables.proofs.Stores.{sized-by, loaded, still-sized, recounted}

-- fewer are live than there is room for
pub room-left : (xs : List ℕ) → Sized xs → (t : Sizes) → t ≡ sizes_of xs → (t.live ≡ t.reservations → ⊥) → (contents_of xs).sizes.live < (contents_of xs).sizes.reservations
room-left xs sized t e n =
    let z = loaded xs t sized e in
    let r = z.room in
    omega arith

module _ (xs ys : List ℕ) (sized : Sized xs) where
  module _ (i : ℕ) (s : Seat) (step : Becomes (with_seat i s) xs ys) where
    pub seated-sizes : (contents_of ys).sizes ≡ (contents_of xs).sizes
    unfolding with_seat
    seated-sizes = ap (λ c. c.sizes) step.1

    pub seated-sized : Sized ys
    seated-sized = still-sized xs ys sized step.0 seated-sizes

    -- what the appending of a booking for that seat asks
    pub seated-appends : i < (contents_of xs).sizes.used → (contents_of xs).sizes.live < (contents_of xs).sizes.reservations → Sized ys × ((contents_of ys).sizes.live < (contents_of ys).sizes.reservations) × (i < 65536)
    seated-appends used left = let r = sized-by xs sized in (seated-sized, rw seated-sizes left, omega arith)

  pub appended-sized : (b : Booking) → Becomes (appended_booking b) xs ys → (contents_of xs).sizes.live < (contents_of xs).sizes.reservations → Sized ys
  unfolding appended_booking
  appended-sized b step left =
      let r = sized-by xs sized in
      recounted xs ys (contents_of xs).sizes.used (suc (contents_of xs).sizes.live) sized step.0 (ap (λ c. c.sizes) step.1) r.used left
