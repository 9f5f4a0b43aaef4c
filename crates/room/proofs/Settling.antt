-- A reserve that books, and a settlement that ends: the steps on the tables, one after the other, make the contents those of the ledger after it.
use mathlib.Core.Path.{◌≡◌, sym, ◌∙◌, ap}
use mathlib.Core.Bool.{true, false}
use mathlib.Core.List.{[], ◌∷◌, ◌++◌}
use Prim.Native.Nat.{ℕ, suc, ◌<◌}
use lib.ListN.{length, take, drop}
use Rattle.rules.specs.RoomAndSoundLedger.{Name, Ledger, is_vacant, with_places, with_bookings, holds_place, Sound}
use Rattle.rules.specs.AccountRules.{seated, ended, drawn}
use Rattle.moves.specs.Moves.{meaning, SeatSound}
use Rattle.moves.specs.declared.Seat.{Seat}
use Rattle.records.specs.Records.{booking}
use Rattle.room.specs.Contents.{with_head, appended_booking, removed_booking}
use Rattle.room.specs.Room.{place_number, head_in, contents_in}
use Rattle.room.specs.Seats.{with_seat}
use Rattle.room.proofs.Numbers.{number-replaced}
use Rattle.room.proofs.Steps.{booking-added, booking-ended, id-drawn}
use Rattle.room.proofs.Seating.{seat-kept, seated-put}

module _ (L : Ledger) (sound : Sound L) (a : Name) (s : Seat) (known : SeatSound s) (taken : is_vacant (meaning s) ≡ false) (held : holds_place a L.places ≡ true) where
  -- the ledger with the seat written
  reseated_ledger : Ledger
  reseated_ledger = with_places L (seated a (meaning s) L.places)

  -- document 01, Account rules, reserve: the booking has next id as it stood
  pub booked-contents : (cost : ℕ) → length L.bookings < L.R
      → with_head (head_in (drawn L)) (appended_booking (booking L.next_id cost (place_number a L.places)) (with_seat (place_number a L.places) s (contents_in L)))
      ≡ contents_in (with_bookings (with_places (drawn L) (seated a (meaning s) L.places)) (L.bookings ++ record { id = L.next_id; name = a; amount = cost } ∷ []))
  unfolding reseated_ledger
  booked-contents cost room =
      let number : place_number a L.places ≡ place_number a (seated a (meaning s) L.places) = sym (ap (place_number a) (seated-put L sound a s taken) ∙ number-replaced a (meaning s) a L.places sound.names_ascend held) in
      let added = (λ i. appended_booking (booking L.next_id cost (number i)) (seat-kept L sound a s known taken held i)) ∙ booking-added reseated_ledger (record { id = L.next_id; name = a; amount = cost }) room in
      ap (with_head (head_in (drawn L))) added ∙ id-drawn (with_bookings reseated_ledger (L.bookings ++ record { id = L.next_id; name = a; amount = cost } ∷ []))

  -- "the reservation ends"
  pub ended-contents : (id i : ℕ) → i < length L.bookings → ended id L.bookings ≡ take i L.bookings ++ drop (suc i) L.bookings
      → removed_booking i (with_seat (place_number a L.places) s (contents_in L)) ≡ contents_in (with_bookings (with_places L (seated a (meaning s) L.places)) (ended id L.bookings))
  unfolding reseated_ledger
  ended-contents id i below closes = ap (removed_booking i) (seat-kept L sound a s known taken held) ∙ booking-ended reseated_ledger id i sound.reservations_fit below closes
