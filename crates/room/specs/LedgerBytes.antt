-- The bytes in which a ledger is kept, a layout of ours: the head, the places in name order, the live reservations in id order, each of one width, and
-- zeros where nothing is kept.
use mathlib.Core.List.{List, [], ◌∷◌, ◌++◌, flat_map}
use Rattle.std.proofs.Math.Option.{Option, none, some}
use Rattle.std.specs.Prelude.{ℕ, ◌-◌, ◌*◌, length, replicate}
use Rattle.rules.specs.RoomAndSoundLedger.{longest_name, Account, seat, Place, place, Booking, Ledger}
use Rattle.numbers.specs.LittleEndian.{little_bytes}
use Rattle.room.specs.Room.{place_number}

-- numbers of eight bytes, each with its lowest byte first
abbrev pub words : List ℕ → List ℕ
words ns = flat_map (little_bytes 8) ns

abbrev pub padded : (size : ℕ) → List ℕ → List ℕ
padded size bs = bs ++ replicate (size - length bs) 0

-- the amounts, the limit, and whether there is an account
abbrev pub bytes_of_seat : Option Account → (limit : ℕ) → List ℕ
bytes_of_seat none l = words (0 ∷ 0 ∷ 0 ∷ 0 ∷ l ∷ []) ++ little_bytes 1 0
bytes_of_seat (some c) l = words (c.initial ∷ c.remaining ∷ c.reserved ∷ c.committed ∷ l ∷ []) ++ little_bytes 1 1

abbrev pub bytes_of_place : Place → List ℕ
bytes_of_place p = bytes_of_seat p.seat.account p.seat.limit ++ little_bytes 1 (length p.name) ++ padded longest_name p.name

-- a reservation has the number of its airline's place
abbrev pub bytes_of_booking : List Place → Booking → List ℕ
bytes_of_booking ps b = words (b.id ∷ b.amount ∷ []) ++ little_bytes 2 (place_number b.name ps)

-- each has a fixed width, which is that of one with nothing in it
abbrev pub place_width : ℕ
place_width = length (bytes_of_place (place [] (seat none 0)))

abbrev pub booking_width : ℕ
booking_width = length (bytes_of_booking [] (record { id = 0; name = []; amount = 0 }))

unfoldable pub ledger_bytes : Ledger → List ℕ
ledger_bytes L =
    words (L.T ∷ L.R ∷ L.next_id ∷ L.last_version ∷ L.baseline ∷ length L.places ∷ length L.bookings ∷ [])
    ++ padded (place_width * L.T) (flat_map bytes_of_place L.places)
    ++ padded (booking_width * L.R) (flat_map (bytes_of_booking L.places) L.bookings)
