-- What a room means: the contents in which a ledger is kept, and when bytes are the room of a sound ledger.
use Rattle.std.specs.Prelude.{◌≡◌, cond, List, [], ◌∷◌, ◌++◌, map, ℕ, suc, ◌-◌, length, replicate}
use Rattle.rules.specs.RoomAndSoundLedger.{Name, Place as RulesPlace, Booking as RulesBooking, Ledger, is_at, Sound}
use Rattle.rules.specs.AnswerNumbers.{Reply, UnsoundLedger, reply_of, Outcome}
use Rattle.names.specs.Names.{stored}
use Rattle.moves.specs.Moves.{kept_seat}
use Rattle.moves.specs.declared.Seat.{Seat}
use Rattle.records.specs.declared.Place.{Place}
use Rattle.records.specs.declared.Booking.{Booking}
use Rattle.records.specs.declared.Head.{Head}
use Rattle.records.specs.declared.Sizes.{Sizes}
use Rattle.records.specs.Records.{booking}
use Rattle.room.specs.Contents.{Contents, contents, room_size, contents_of, empty_place, empty_booking}

-- a seat and a name as the record of a place
abbrev pub place_with : Seat → Name → Place
place_with s a = record { initial = s.initial; remaining = s.remaining; reserved = s.reserved; committed = s.committed; limit = s.limit; account = s.account; name = stored a }

unfoldable pub place_record : RulesPlace → Place
place_record p = place_with (kept_seat p.seat) p.name

-- the number of a name's place
unfoldable pub place_number : Name → List RulesPlace → ℕ
place_number a [] = 0
place_number a (p ∷ ps) = cond (is_at a p) 0 (suc (place_number a ps))

-- a booking holds the number of its airline's place
abbrev pub booking_record : List RulesPlace → RulesBooking → Booking
booking_record ps b = booking b.id b.amount (place_number b.name ps)

-- n entries, those after the given ones empty: "room not in use is zero"
unfoldable pub filled : {A : Type 0} → (n : ℕ) → A → List A → List A
filled n empty xs = xs ++ replicate (n - length xs) empty

abbrev pub sizes_in : Ledger → Sizes
sizes_in L = record { names = L.T; reservations = L.R; used = length L.places; live = length L.bookings }

abbrev pub head_in : Ledger → Head
head_in L = record { next_id = L.next_id; last_version = L.last_version; baseline = L.baseline }

unfoldable pub contents_in : Ledger → Contents
contents_in L = contents (sizes_in L) (head_in L) (filled L.T empty_place (map place_record L.places)) (filled L.R empty_booking (map (booking_record L.places) L.bookings))

-- bytes that are the room of this sound ledger
pub record IsRoom (xs : List ℕ) (L : Ledger) : Type 0 where
  pub size : length xs ≡ room_size L.T L.R
  pub holds : contents_of xs ≡ contents_in L
  pub sound : Sound L

-- bytes that are the room of some sound ledger
pub record SoundRoom (xs : List ℕ) : Type 0 where
  pub ledger : Ledger
  pub is_room : IsRoom xs ledger

-- what holds of whichever ledger the memory is the room of
abbrev pub OfRoom : List ℕ → (Ledger → Type 0) → Type 0
OfRoom memory P = (L : Ledger) → IsRoom memory L → P L

-- an operation's answer, and the ledger that the memory is the room of after it
pub record Performed (f : Ledger → Outcome) (L : Ledger) (r : Reply) (after : List ℕ) : Type 0 where
  pub answer : r ≡ (f L).reply
  pub room : IsRoom after (f L).ledger

-- What an operation promises of memory that is known to be the room of a sound ledger
abbrev pub Performs : (Ledger → Outcome) → (before : List ℕ) → Reply → (after : List ℕ) → Type 0
Performs f before r after = OfRoom before (λ L. Performed f L r after)

-- What an operation promises of any memory: 24 exactly where it is no such room, and then it stays as it is (document 01, Answer numbers)
pub record Answers (f : Ledger → Outcome) (before : List ℕ) (r : Reply) (after : List ℕ) : Type 0 where
  pub sound_room : Performs f before r after
  pub other : OfRoom before (λ L. ⊥) → (r ≡ reply_of UnsoundLedger) × (after ≡ before)
