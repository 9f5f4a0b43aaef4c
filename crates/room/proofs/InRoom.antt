-- What a load from a sized room gives: the entry of its table; and where a place's name stands in the room.
use mathlib.Core.Path.{◌≡◌, sym, ap, ◌∙◌}
use mathlib.Core.List.{List, []}
use Prim.Native.Nat.{ℕ, ◌+◌, ◌*◌, ◌≤◌, ◌<◌}
use native.Mathlib.Omega.{arith}
use lib.ListN.{length, take, drop, get_or}
use lib.Seq.{drop-cons, take-take, get_or-take, length-take-le}
use Rattle.rules.specs.Lists.{All}
use Rattle.rules.specs.RoomAndSoundLedger.{longest_name}
use Rattle.numbers.specs.LittleEndian.{little_number}
use Rattle.names.specs.Names.{spelled, IsStored}
use Rattle.records.specs.declared.Place.{Place}
use Rattle.records.specs.declared.Booking.{Booking}
use Rattle.records.specs.Rows.{row, table}
use Rattle.records.specs.Records.{sizes_of, place_of, booking_of}
use Rattle.records.proofs.Rows.{row_within, table-length, table_at}
use Rattle.room.specs.Contents.{contents_of, base_of, Sized, used_places, live_bookings}
use Rattle.rules.proofs.ByIndex.{any-default, all_read}
use Rattle.records.specs.Layout.{place_start, name_start, place_size, booking_size, head_size, name_bytes_offset, name_offset}

-- ── entries in use ─────────────────────────────────────────────────────────────────────────────

module _ {A : Type 0} (read : List ℕ → A) (k b n m : ℕ) (xs : List ℕ) (within : m ≤ n) where
  -- the first m records of a table
  used-length : length (take m (table read k b n xs)) ≡ m
  used-length = length-take-le m (table read k b n xs) (omega (arith, table-length read k b n xs))

  used-at : (i : ℕ) (d : A) → i < m → read (row k (b + k * i) xs) ≡ get_or (take m (table read k b n xs)) i d
  used-at i d h =
      let l : i < length (table read k b n xs) = omega (arith, table-length read k b n xs) in
      sym (get_or-take m (table read k b n xs) i d h ∙ any-default d (read []) (table read k b n xs) i l ∙ table_at read k b n i xs (omega arith))

module _ (xs : List ℕ) (s : Sized xs) where
  pub used-places : length (used_places (contents_of xs)) ≡ (sizes_of xs).used
  unfolding contents_of
  used-places = used-length place_of place_size head_size (sizes_of xs).names (sizes_of xs).used xs s.used

  pub live-bookings : length (live_bookings (contents_of xs)) ≡ (sizes_of xs).live
  unfolding contents_of
  live-bookings = used-length booking_of booking_size (base_of (sizes_of xs).names) (sizes_of xs).reservations (sizes_of xs).live xs s.live

  -- what `load_place` gives of a place in use
  pub loaded-place : (i : ℕ) (d : Place) → i < (sizes_of xs).used → place_of (row place_size (place_start i) xs) ≡ get_or (used_places (contents_of xs)) i d
  unfolding contents_of
  loaded-place = used-at place_of place_size head_size (sizes_of xs).names (sizes_of xs).used xs s.used

  -- what `load_booking` gives of a live booking
  pub loaded-booking : (i : ℕ) (d : Booking) → i < (sizes_of xs).live → booking_of (row booking_size (base_of (sizes_of xs).names + booking_size * i) xs) ≡ get_or (live_bookings (contents_of xs)) i d
  unfolding contents_of
  loaded-booking = used-at booking_of booking_size (base_of (sizes_of xs).names) (sizes_of xs).reservations (sizes_of xs).live xs s.live

  -- what `name_at` gives of a place in use
  pub loaded-name : (i : ℕ) (d : Place) → i < (sizes_of xs).used → spelled (place_of (row place_size (place_start i) xs)).name ≡ spelled (get_or (used_places (contents_of xs)) i d).name
  loaded-name i d h = ap (λ p. spelled p.name) (loaded-place i d h)

  -- what `name_at` asks of a place in use
  pub name-in-room : (i : ℕ) → All (λ p. IsStored p.name) (used_places (contents_of xs)) → i < (sizes_of xs).used
      → (place_start i + place_size ≤ length xs) × ((place_of (row place_size (place_start i) xs)).name.length ≤ longest_name)
  name-in-room i stored h =
      let at = all_read (λ p. IsStored p.name) (place_of []) (used_places (contents_of xs)) i stored (omega (arith, used-places)) in
      (omega (arith, s), omega (arith, at.fits, ap (λ p. p.name.length) (loaded-place i (place_of []) h)))

-- ── a name where it stands ─────────────────────────────────────────────────────────────────────

one_byte : (at : ℕ) (xs : List ℕ) → at < length xs → little_number (row 1 at xs) ≡ get_or xs at 0
unfolding little_number
one_byte at xs h = ap (λ w. little_number (take 1 w)) (drop-cons xs at 0 h) ∙ (omega arith)

module _ (i : ℕ) (xs : List ℕ) (within : place_start i + place_size ≤ length xs) where
  pub name-length : (place_of (row place_size (place_start i) xs)).name.length ≡ get_or xs (name_start i) 0
  name-length =
      let e : place_start i + name_offset ≡ name_start i = omega arith in
      ap little_number (row_within 1 name_offset place_size (place_start i) xs (omega arith) ∙ ap (λ at. row 1 at xs) e) ∙ one_byte (name_start i) xs (omega arith)

  pub name-spelled : (place_of (row place_size (place_start i) xs)).name.length ≤ longest_name
      → spelled (place_of (row place_size (place_start i) xs)).name ≡ row (get_or xs (name_start i) 0) (name_start i + 1) xs
  name-spelled h =
      let n : ℕ = get_or xs (name_start i) 0 in
      let e : place_start i + name_bytes_offset ≡ name_start i + 1 = omega arith in
      ap (λ m. take m (row longest_name name_bytes_offset (row place_size (place_start i) xs))) name-length
      ∙ ap (take n) (row_within longest_name name_bytes_offset place_size (place_start i) xs (omega arith) ∙ ap (λ at. row longest_name at xs) e)
      ∙ take-take n longest_name (drop (name_start i + 1) xs) (omega (arith, name-length))
