-- The bytes of a sound ledger are its room: each record's bytes read as the record, zeros as empty records, one after the other behind the head.
use mathlib.Core.Path.{◌≡◌, refl, sym, ap, ap₂, ◌∙◌, subst}
use mathlib.Core.Bool.{true}
use mathlib.Core.Logic.{◌⊎◌, inl, inr, ◌≢◌}
use mathlib.Core.List.{List, [], ◌∷◌, ◌++◌, map, flat_map, append_assoc, append-nil, map-append}
use mathlib.Core.Option.{Option, none, some}
use Prim.Native.Nat.{ℕ, ◌+◌, ◌-◌, ◌*◌, ◌/◌, ◌^◌, ◌≤◌, ◌<◌}
use native.Mathlib.Omega.{arith}
use lib.ListN.{length, get_or, replicate, length-append, length-map}
use borrow.Author.Tests.{eqb-true}
use Rattle.rules.specs.Lists.{All}
use Rattle.rules.specs.RoomAndSoundLedger.{M, longest_name, IsByte, has_tag, fence_of, IsName, Account, Place as RulesPlace, Booking as RulesBooking, Ledger, seat_in, has_account, reserved_for, AddsUp, Sound}
use Rattle.rules.proofs.Tests.{by-option, true-false}
use Rattle.rules.proofs.Lists.{all_map, all_both}
use Rattle.rules.proofs.Keys.{all-images}
use Rattle.rules.proofs.Lists.{all_join, all-flat}
use Rattle.numbers.proofs.Bytes.{all-repeat}
use Rattle.numbers.proofs.LittleEndian.{little-fit}
use Rattle.rules.proofs.Places.{account-holds}
use Rattle.rules.proofs.SoundByName.{AccountSound, part-of-sum, by_name}
use Rattle.names.proofs.Storing.{stored-is-stored}
use Rattle.numbers.specs.LittleEndian.{little_bytes}
use Rattle.moves.specs.Moves.{kept, kept_seat}
use Rattle.records.specs.Layout.{place_size, booking_size, head_size}
use Rattle.records.specs.declared.Place.{Place}
use Rattle.records.specs.declared.Booking.{Booking}
use Rattle.records.specs.declared.Head.{Head}
use Rattle.records.specs.declared.Sizes.{Sizes}
use Rattle.records.specs.Rows.{field_bytes}
use Rattle.records.specs.Records.{place_of, place_bytes, PlaceFits, booking_of, booking_bytes, BookingFits, head_of, sizes_of, places as places_of, bookings as bookings_of}
use Rattle.records.proofs.Rows.{joined, joined-append, Readable, table-joined, joined_length, zeros-joined}
use Rattle.records.proofs.Fields.{fields, fields-length, fields_read}
use Rattle.records.proofs.Records.{place-length, place-of-bytes, booking-length, booking-of-bytes}
use Rattle.room.specs.Contents.{contents, contents_of, base_of, room_size, empty_place, empty_booking}
use Rattle.room.specs.Room.{place_record, place_number, booking_record, filled, place_with, sizes_in, head_in, contents_in, IsRoom}
use Rattle.room.proofs.Filled.{filled-length}
use Rattle.room.proofs.Decoding.{canonical}
use Rattle.room.proofs.Numbers.{number-below}
use Rattle.room.proofs.Seating.{kept-limit, kept-sound, Small, seat-small}
use Rattle.room.specs.LedgerBytes.{words, padded, bytes_of_seat, bytes_of_place, bytes_of_booking, place_width, booking_width, ledger_bytes}

-- ── entries in use, and zeros for those that are not ──────────────────────────────────────────

filled-joined : {A : Type 0} (write : A → List ℕ) (k : ℕ) (empty : A) → write empty ≡ replicate k 0 → (n : ℕ) (qs : List A)
    → joined (map write (filled n empty qs)) ≡ joined (map write qs) ++ replicate (k * (n - length qs)) 0
unfolding filled
filled-joined write k empty zero_row n qs =
    ap joined (map-append write qs (replicate (n - length qs) empty))
    ∙ joined-append (map write qs) (map write (replicate (n - length qs) empty))
    ∙ ap (λ r. joined (map write qs) ++ r) (zeros-joined write k empty zero_row (n - length qs))

-- ── a place and a booking ──────────────────────────────────────────────────────────────────────

place-bytes : (p : RulesPlace) → bytes_of_place p ≡ place_bytes (place_record p)
unfolding place_record kept_seat flat_map
place-bytes p = go p.seat.account
  where
    go : (c : Option Account) → bytes_of_seat c p.seat.limit ++ little_bytes 1 (length p.name) ++ padded longest_name p.name ≡ place_bytes (place_with (kept c p.seat.limit) p.name)
    go none = simp (append_assoc, append-nil)
    go (some c) = simp (append_assoc, append-nil)

booking-bytes : (ps : List RulesPlace) (b : RulesBooking) → bytes_of_booking ps b ≡ booking_bytes (booking_record ps b)
unfolding flat_map
booking-bytes ps b = simp (append_assoc, append-nil)

empty-place-bytes : place_bytes empty_place ≡ replicate place_size 0
unfolding little_bytes
empty-place-bytes = refl

empty-booking-bytes : booking_bytes empty_booking ≡ replicate booking_size 0
unfolding little_bytes
empty-booking-bytes = refl

-- ── the tables ─────────────────────────────────────────────────────────────────────────────────

flat-joined : {A : Type 0} (write : A → List ℕ) (xs : List A) → flat_map write xs ≡ joined (map write xs)
unfolding flat_map
flat-joined write [] = refl
flat-joined write (x ∷ xs) = ap (λ r. write x ++ r) (flat-joined write xs)

map_both : {A B C : Type 0} (f : A → C) (g : B → C) (h : A → B) → ((x : A) → f x ≡ g (h x)) → (xs : List A) → map f xs ≡ map g (map h xs)
map_both f g h e [] = refl
map_both f g h e (x ∷ xs) = ap₂ ◌∷◌ (e x) (map_both f g h e xs)

-- the bytes of the entries in use and zeros behind them are the table's bytes
module _ {A B : Type 0} (k : ℕ) (write : A → List ℕ) (record_of : B → A) (bytes_of : B → List ℕ) (same : (x : B) → bytes_of x ≡ write (record_of x))
    (empty : A) (zero_row : write empty ≡ replicate k 0) where
  table-bytes-are : (read : List ℕ → A) (n : ℕ) (xs : List B) → All (Readable read write k) (map record_of xs) → k * n - k * length xs ≡ k * (n - length xs)
      → padded (k * n) (flat_map bytes_of xs) ≡ joined (map write (filled n empty (map record_of xs)))
  table-bytes-are read n xs h e =
      let flat : flat_map bytes_of xs ≡ joined (map write (map record_of xs)) = flat-joined bytes_of xs ∙ ap joined (map_both bytes_of write record_of same xs) in
      let l : length (joined (map write (map record_of xs))) ≡ k * length xs = joined_length read write k (map record_of xs) h ∙ ap (λ m. k * m) (length-map xs record_of) in
      ap (padded (k * n)) flat
      ∙ ap (λ m. joined (map write (map record_of xs)) ++ replicate (k * n - m) 0) l
      ∙ ap (λ m. joined (map write (map record_of xs)) ++ replicate m 0) e
      ∙ ap (λ m. joined (map write (map record_of xs)) ++ replicate (k * (n - m)) 0) (sym (length-map xs record_of))
      ∙ sym (filled-joined write k empty zero_row n (map record_of xs))

-- ── what a sound ledger keeps fits its records ─────────────────────────────────────────────────

flag-fits : (c : Option Account) (l : ℕ) → (kept c l).account < 2 ^ 8
flag-fits none l = omega arith
flag-fits (some c) l = omega arith

place-fits : (p : RulesPlace) → IsName p.name → AddsUp p.seat.account → p.seat.limit ≤ M → PlaceFits (place_record p)
unfolding place_record kept_seat M
place-fits p named adds low =
    let small : Small (kept_seat p.seat) = seat-small (kept_seat p.seat) (kept-sound p.seat adds low) in
    let limit : (kept_seat p.seat).limit ≡ p.seat.limit = kept-limit p.seat in
    record {
      initial = omega (arith, small.initial);
      remaining = omega (arith, small.remaining);
      reserved = omega (arith, small.reserved);
      committed = omega (arith, small.committed);
      limit = omega (arith, limit, low);
      account = flag-fits p.seat.account p.seat.limit;
      name_length = omega (arith, named.fits);
      name_bytes = (stored-is-stored p.name named.fits).width;
    }

amounts-small : (L : Ledger) → Sound L → All (λ b. b.amount ≤ M) L.bookings
amounts-small L s =
    let named = by_name L s in
    all_both (λ b. has_account (seat_in b.name L.places).account ≡ true) (λ b. b.amount ≤ reserved_for b.name L.bookings) (λ b. b.amount ≤ M)
    (λ b h m. by-option (λ c. has_account c ≡ true → AccountSound (reserved_for b.name L.bookings) c → b.amount ≤ M) (seat_in b.name L.places).account
    (λ _ h z. true-false h refl) (λ c _ h z. omega (arith, z.0, z.1, z.2)) h (named.accounts b.name))
    L.bookings s.accounts_exist (part-of-sum L.bookings)

booking-fits : (L : Ledger) → Sound L → (b : RulesBooking) → b.id < L.next_id → has_account (seat_in b.name L.places).account ≡ true → b.amount ≤ M → BookingFits (booking_record L.places b)
unfolding M
booking-fits L s b below exists small = record {
  id = omega (arith, s.next_id.1);
  amount = omega arith;
  owner = omega (arith, number-below b.name L.places (account-holds b.name L.places exists), s.names_fit, s.names_in_range.1);
}

empty-place-fits : PlaceFits empty_place
empty-place-fits = record { initial = omega arith; remaining = omega arith; reserved = omega arith; committed = omega arith; limit = omega arith; account = omega arith; name_length = omega arith; name_bytes = refl }

empty-booking-fits : BookingFits empty_booking
empty-booking-fits = record { id = omega arith; amount = omega arith; owner = omega arith }

readable-place : (p : Place) → PlaceFits p → Readable place_of place_bytes place_size p
readable-place p f = (place-length p f.name_bytes, place-of-bytes p f)

readable-booking : (b : Booking) → BookingFits b → Readable booking_of booking_bytes booking_size b
readable-booking b f = (booking-length b, booking-of-bytes b f)

all-filled : {A : Type 0} (P : A → Type 0) (n : ℕ) (empty : A) (xs : List A) → All P xs → P empty → All P (filled n empty xs)
unfolding filled
all-filled P n empty xs h e = all_join P xs (replicate (n - length xs) empty) h (all-repeat P empty e (n - length xs))

-- ── the room of a sound ledger ─────────────────────────────────────────────────────────────────

abbrev head_numbers_of : Ledger → List ℕ
head_numbers_of L = L.T ∷ L.R ∷ L.next_id ∷ L.last_version ∷ L.baseline ∷ length L.places ∷ length L.bookings ∷ []

abbrev head_field_widths : List ℕ
head_field_widths = 8 ∷ 8 ∷ 8 ∷ 8 ∷ 8 ∷ 8 ∷ 8 ∷ []

sizes_by : List ℕ → Sizes
sizes_by ns = record { names = get_or ns 0 0; reservations = get_or ns 1 0; used = get_or ns 5 0; live = get_or ns 6 0 }

head_by : List ℕ → Head
head_by ns = record { next_id = get_or ns 2 0; last_version = get_or ns 3 0; baseline = get_or ns 4 0 }

sizes-by : (xs : List ℕ) (L : Ledger) → fields 0 head_field_widths xs ≡ head_numbers_of L → sizes_of xs ≡ sizes_in L
unfolding sizes_by
sizes-by xs L e = ap sizes_by e

head-by : (xs : List ℕ) (L : Ledger) → fields 0 head_field_widths xs ≡ head_numbers_of L → head_of xs ≡ head_in L
unfolding head_by
head-by xs L e = ap head_by e

version-fits : (v : ℕ) → (v ≡ 0) ⊎ ((has_tag v ≡ true) × (fence_of v ≢ 0)) → v < 2 ^ 64
version-fits v (inl e) = omega arith
version-fits v (inr (t, f)) = let q : v / 2 ^ 63 ≡ 1 = eqb-true (v / 2 ^ 63) 1 t in omega arith

module _ (L : Ledger) (s : Sound L) where
  abbrev qs : List Place
  qs = filled L.T empty_place (map place_record L.places)

  abbrev ks : List Booking
  ks = filled L.R empty_booking (map (booking_record L.places) L.bookings)

  places-fit : All PlaceFits (map place_record L.places)
  places-fit = all-images place_record PlaceFits L.places
      (all_both (λ p. IsName p.name) (λ p. AddsUp p.seat.account × (p.seat.limit ≤ M)) (λ p. PlaceFits (place_record p)) (λ p n (a, l). place-fits p n a l) L.places s.are_names
      (all_both (λ p. AddsUp p.seat.account) (λ p. p.seat.limit ≤ M) _ (λ p a l. (a, l)) L.places s.accounts_add_up s.limits))

  bookings-fit : All BookingFits (map (booking_record L.places) L.bookings)
  bookings-fit = all-images (booking_record L.places) BookingFits L.bookings
      (all_both (λ b. (1 ≤ b.id) × (b.id < L.next_id)) (λ b. (has_account (seat_in b.name L.places).account ≡ true) × (b.amount ≤ M)) (λ b. BookingFits (booking_record L.places b))
      (λ b i (e, m). booking-fits L s b i.1 e m) L.bookings s.ids_in_range
      (all_both (λ b. has_account (seat_in b.name L.places).account ≡ true) (λ b. b.amount ≤ M) _ (λ b e m. (e, m)) L.bookings s.accounts_exist (amounts-small L s)))

  readable-places : All (Readable place_of place_bytes place_size) qs
  readable-places = all-filled _ L.T empty_place (map place_record L.places) (all_map PlaceFits _ readable-place (map place_record L.places) places-fit) (readable-place empty_place empty-place-fits)

  readable-bookings : All (Readable booking_of booking_bytes booking_size) ks
  readable-bookings = all-filled _ L.R empty_booking (map (booking_record L.places) L.bookings)
      (all_map BookingFits _ readable-booking (map (booking_record L.places) L.bookings) bookings-fit) (readable-booking empty_booking empty-booking-fits)

  abbrev front : List ℕ
  front = field_bytes head_field_widths (head_numbers_of L)

  abbrev places_bytes : List ℕ
  places_bytes = joined (map place_bytes qs)

  abbrev bookings_bytes : List ℕ
  bookings_bytes = joined (map booking_bytes ks)

  bytes-are : ledger_bytes L ≡ front ++ places_bytes ++ bookings_bytes
  unfolding ledger_bytes flat_map little_bytes
  bytes-are =
      ap₂ (λ p b. front ++ p ++ b)
      (table-bytes-are place_size place_bytes place_record bytes_of_place place-bytes empty_place empty-place-bytes place_of L.T L.places (all_map PlaceFits _ readable-place (map place_record L.places) places-fit) (omega (arith, s.names_fit)))
      (table-bytes-are booking_size booking_bytes (booking_record L.places) (bytes_of_booking L.places) (booking-bytes L.places) empty_booking empty-booking-bytes booking_of L.R L.bookings (all_map BookingFits _ readable-booking (map (booking_record L.places) L.bookings) bookings-fit) (omega (arith, s.reservations_fit)))

  front_length : length front ≡ head_size
  front_length = fields-length head_field_widths (head_numbers_of L) refl

  used-places : length qs ≡ L.T
  used-places = filled-length L.T empty_place (map place_record L.places) (omega (arith, length-map L.places place_record, s.names_fit))

  used-bookings : length ks ≡ L.R
  used-bookings = filled-length L.R empty_booking (map (booking_record L.places) L.bookings) (omega (arith, length-map L.bookings (booking_record L.places), s.reservations_fit))

  places-length : length places_bytes ≡ place_size * L.T
  places-length = joined_length place_of place_bytes place_size qs readable-places ∙ ap (λ n. place_size * n) used-places

  bookings-length : length bookings_bytes ≡ booking_size * L.R
  bookings-length = joined_length booking_of booking_bytes booking_size ks readable-bookings ∙ ap (λ n. booking_size * n) used-bookings

  size_is : length (front ++ places_bytes ++ bookings_bytes) ≡ room_size L.T L.R
  size_is = length-append (front ++ places_bytes) bookings_bytes ∙ ap₂ ◌+◌ (length-append front places_bytes ∙ ap₂ ◌+◌ front_length places-length) bookings-length

  numbers-are : fields 0 head_field_widths (front ++ places_bytes ++ bookings_bytes) ≡ head_numbers_of L
  unfolding M
  numbers-are =
      fields_read 0 head_field_widths (head_numbers_of L) (front ++ places_bytes ++ bookings_bytes) (places_bytes ++ bookings_bytes)
      (omega (arith, s.names_in_range), (omega (arith, s.reservations_in_range), (omega (arith, s.next_id), (version-fits L.last_version s.last_version, (omega (arith, s.baseline_in_range.0), (omega (arith, s.names_fit, s.names_in_range), (omega (arith, s.reservations_fit, s.reservations_in_range), tt)))))))
      (append_assoc front places_bytes bookings_bytes)

  contents-are : contents_of (front ++ places_bytes ++ bookings_bytes) ≡ contents_in L
  unfolding contents_of contents_in
  contents-are =
      let xs = front ++ places_bytes ++ bookings_bytes in
      let known : places_of L.T xs ≡ qs = ap (places_of L.T) (append_assoc front places_bytes bookings_bytes) ∙ table-joined place_of place_bytes place_size front bookings_bytes qs head_size L.T front_length used-places readable-places in
      let base : length (front ++ places_bytes) ≡ base_of L.T = length-append front places_bytes ∙ ap₂ ◌+◌ front_length places-length in
      let live : bookings_of (base_of L.T) L.R xs ≡ ks =
      ap (λ b. bookings_of (base_of L.T) L.R (front ++ places_bytes ++ b)) (sym (append-nil bookings_bytes))
      ∙ table-joined booking_of booking_bytes booking_size (front ++ places_bytes) [] ks (base_of L.T) L.R base used-bookings readable-bookings in
      ap₂ (λ (z : Sizes) (h : Head). contents z h (places_of z.names xs) (bookings_of (base_of z.names) z.reservations xs)) (sizes-by xs L numbers-are) (head-by xs L numbers-are)
      ∙ ap₂ (contents (sizes_in L) (head_in L)) known live

  -- the bytes of a sound ledger are its room
  pub is-its-room : IsRoom (ledger_bytes L) L
  is-its-room = record { size = ap length bytes-are ∙ size_is; holds = ap contents_of bytes-are ∙ contents-are; sound = s }

-- ── its bytes are bytes ────────────────────────────────────────────────────────────────────────

all_true : {A : Type 0} (xs : List A) → All (λ _. Unit {0}) xs
all_true [] = tt
all_true (x ∷ xs) = (tt, all_true xs)

words-bytes : (ns : List ℕ) → All IsByte (words ns)
words-bytes ns = all-flat IsByte (λ _. Unit {0}) (little_bytes 8) (λ n _. little-fit 8 n) ns (all_true ns)

padded-bytes : (n : ℕ) (bs : List ℕ) → All IsByte bs → All IsByte (padded n bs)
padded-bytes n bs h = all_join IsByte bs (replicate (n - length bs) 0) h (all-repeat IsByte 0 (omega arith) (n - length bs))

seat-bytes : (c : Option Account) (l : ℕ) → All IsByte (bytes_of_seat c l)
seat-bytes none l = all_join IsByte (words (0 ∷ 0 ∷ 0 ∷ 0 ∷ l ∷ [])) (little_bytes 1 0) (words-bytes _) (little-fit 1 0)
seat-bytes (some c) l = all_join IsByte (words (c.initial ∷ c.remaining ∷ c.reserved ∷ c.committed ∷ l ∷ [])) (little_bytes 1 1) (words-bytes _) (little-fit 1 1)

place-is-bytes : (p : RulesPlace) → IsName p.name → All IsByte (bytes_of_place p)
place-is-bytes p named =
    let seat = bytes_of_seat p.seat.account p.seat.limit in
    let size = little_bytes 1 (length p.name) in
    all_join IsByte (seat ++ size) (padded longest_name p.name) (all_join IsByte seat size (seat-bytes p.seat.account p.seat.limit) (little-fit 1 (length p.name))) (padded-bytes longest_name p.name named.bytes)

booking-is-bytes : (ps : List RulesPlace) (b : RulesBooking) → All IsByte (bytes_of_booking ps b)
booking-is-bytes ps b = all_join IsByte (words (b.id ∷ b.amount ∷ [])) (little_bytes 2 (place_number b.name ps)) (words-bytes (b.id ∷ b.amount ∷ [])) (little-fit 2 (place_number b.name ps))

ledger-is-bytes : (L : Ledger) → Sound L → All IsByte (ledger_bytes L)
unfolding ledger_bytes
ledger-is-bytes L s =
    let head : List ℕ = words (head_numbers_of L) in
    let places : List ℕ = flat_map bytes_of_place L.places in
    let bookings : List ℕ = flat_map (bytes_of_booking L.places) L.bookings in
    all_join IsByte (head ++ padded (place_width * L.T) places) (padded (booking_width * L.R) bookings)
    (all_join IsByte head (padded (place_width * L.T) places) (words-bytes (head_numbers_of L))
    (padded-bytes (place_width * L.T) places (all-flat IsByte (λ p. IsName p.name) bytes_of_place place-is-bytes L.places s.are_names)))
    (padded-bytes (booking_width * L.R) bookings (all-flat IsByte (λ b. Unit {0}) (bytes_of_booking L.places) (λ b h. booking-is-bytes L.places b) L.bookings (all_true L.bookings)))

-- ── what a room is ─────────────────────────────────────────────────────────────────────────────

-- bytes are the room of a ledger exactly where the ledger is sound and they are its bytes
pub room-is-bytes : (xs : List ℕ) (L : Ledger) → All IsByte xs → (IsRoom xs L → Sound L × (xs ≡ ledger_bytes L)) × (Sound L × (xs ≡ ledger_bytes L) → IsRoom xs L)
room-is-bytes xs L bytes = (
  λ room. (room.sound, canonical xs (ledger_bytes L) L bytes (ledger-is-bytes L room.sound) room (is-its-room L room.sound)),
  λ (s, e). subst (λ ys. IsRoom ys L) (sym e) (is-its-room L s),
)
