-- What booking makes of a room: a reservation is granted under the id that was drawn, and the head after the draw kept, unless R are live. And what a settlement asks of a
-- live reservation.
use Rattle.std.specs.Prelude.{◌≡◌, List, [], ℕ, ◌<◌, pos, length, get_or, Result, Ok, Err}
use Rattle.rules.specs.RoomAndSoundLedger.{Booking as RulesBooking, Ledger, seat_in}
use Rattle.numbers.specs.declared.Microcents.{Microcents}
use Rattle.numbers.specs.declared.Identifier.{Identifier}
use Rattle.numbers.specs.declared.Held.{Held}
use Rattle.moves.specs.declared.Seat.{Seat}
use Rattle.moves.specs.Moves.{kept_seat}
use Rattle.records.specs.declared.Head.{Head}
use Rattle.room.specs.Contents.{contents_of, with_head, appended_booking}
use Rattle.room.specs.Room.{place_number}
use Rattle.room.specs.Seats.{with_seat}
use Rattle.reservations.specs.declared.Due.{Due}
use Rattle.refusals.specs.declared.Refusal.{Refusal}
use Rattle.refusals.specs.declared.Refusal.TheVariants.{ReservationsFull}
use Rattle.reservations.specs.declared.Granted.{Granted}

pub data Booked (i : ℕ) (s : Seat) (cost : Held) (id : Identifier) (h : Head) (xs : List ℕ) : Result Granted Refusal → List ℕ → Type 0 where
  granted : (remaining : Microcents) (ys : List ℕ) → (contents_of xs).sizes.live < (contents_of xs).sizes.reservations
      → remaining.0 ≡ pos s.remaining → length ys ≡ length xs
      → contents_of ys ≡ with_head h (appended_booking (record { id = id; amount = cost; owner = i }) (with_seat i s (contents_of xs)))
      → Booked i s cost id h xs (Ok (record { remaining = remaining; id = id })) ys
  full : (contents_of xs).sizes.live ≡ (contents_of xs).sizes.reservations → Booked i s cost id h xs (Err ReservationsFull) xs

abbrev pub no_booking : RulesBooking
no_booking = record { id = 0; name = []; amount = 0 }

abbrev pub booking_at : Ledger → ℕ → RulesBooking
booking_at L j = get_or L.bookings j no_booking

abbrev pub due_of : Ledger → RulesBooking → Due
due_of L b = record { amount = record { 0 = b.amount }; owner = place_number b.name L.places; seat = kept_seat (seat_in b.name L.places) }

-- of the reservation at j: its amount, the number of its airline's place, and the seat there
unfoldable pub due_at : Ledger → ℕ → Due
due_at L j = due_of L (booking_at L j)
