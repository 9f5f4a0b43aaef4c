-- The room as its sizes, its head, its places and its bookings: what each store means to each of them, and that they are all of it.
use mathlib.Core.Path.{◌≡◌, refl, sym, ap, ap₂, ◌∙◌}
use mathlib.Core.Logic.{◌⊎◌, inl, inr}
use mathlib.Core.List.{List, [], ◌∷◌, ◌++◌, map}
use Prim.Native.Nat.{ℕ, zero, suc, ◌+◌, ◌*◌, ◌≤◌, ◌<◌, ◌^◌}
use native.Mathlib.Nat.{mul-suc}
use native.Mathlib.Omega.{arith}
use lib.ListN.{length, get_or, take, drop, set, length-drop}
use lib.Seq.{take_all, length-take-le}
use Rattle.rules.specs.Lists.{All}
use Rattle.rules.specs.RoomAndSoundLedger.{IsByte}
use Rattle.numbers.proofs.Bytes.{all_take, all_drop}
use Rattle.records.specs.Layout.{place_start, ledger_head_offset, ledger_head_size, counts_offset, capacity_offset, pair_size, place_size, booking_size, head_size, pair_widths, head_widths}
use Rattle.records.specs.declared.Place.{Place}
use Rattle.records.specs.declared.Booking.{Booking}
use Rattle.records.specs.declared.Head.{Head}
use Rattle.records.specs.declared.Sizes.{Sizes}
use Rattle.records.specs.Rows.{row, put, rows, table}
use Rattle.records.specs.Records.{place_of, place_bytes, PlaceFits, booking_of, booking_bytes, BookingFits, head_of, head_numbers, head_bytes, HeadFits, sizes_of, pair_bytes, SizesFit, places, bookings}
use Rattle.records.proofs.Rows.{row-join, put-length, put-here, joined, joined-rows, table_at, table-put, table-apart}
use Rattle.records.proofs.Fields.{fields, fields_read, fields-apart}
use Rattle.records.proofs.Records.{place-length, place-of-bytes, bytes-of-place, booking-length, booking-of-bytes, bytes-of-booking, head-length, pair-length, head-fields, sizes-fields, bytes-of-head, bytes-of-capacity, bytes-of-counts}

-- ── what is put apart leaves the head and the sizes ────────────────────────────────────────────

module _ (m j : ℕ) (xs w : List ℕ) (fits : m + j ≤ length xs) (is_row : length w ≡ j) where
  pub head_apart : (counts_offset ≤ m) ⊎ (m + j ≤ ledger_head_offset) → head_of (put m j xs w) ≡ head_of xs
  head_apart h = head-fields (put m j xs w) (head_of xs) (fields-apart ledger_head_offset head_widths m j xs w fits is_row h)

  pub sizes-apart : (capacity_offset + pair_size ≤ m) ⊎ (m + j ≤ capacity_offset) → (counts_offset + pair_size ≤ m) ⊎ (m + j ≤ counts_offset) → sizes_of (put m j xs w) ≡ sizes_of xs
  sizes-apart h k = sizes-fields (put m j xs w) (sizes_of xs) (fields-apart capacity_offset pair_widths m j xs w fits is_row h) (fields-apart counts_offset pair_widths m j xs w fits is_row k)

-- ── what each load reads ───────────────────────────────────────────────────────────────────────

pub place_at : (t i : ℕ) (xs : List ℕ) → i < t → get_or (places t xs) i (place_of []) ≡ place_of (row place_size (place_start i) xs)
place_at t = table_at place_of place_size head_size t

pub booking-at : (base r i : ℕ) (xs : List ℕ) → i < r → get_or (bookings base r xs) i (booking_of []) ≡ booking_of (row booking_size (base + booking_size * i) xs)
booking-at base r = table_at booking_of booking_size base r

-- ── what each store means ──────────────────────────────────────────────────────────────────────

-- bytes that hold these sizes, this head, these places and these bookings
pub record Holds (t base r : ℕ) (xs : List ℕ) (s : Sizes) (h : Head) (ps : List Place) (bs : List Booking) : Type 0 where
  pub sizes : sizes_of xs ≡ s
  pub head : head_of xs ≡ h
  pub places : places t xs ≡ ps
  pub bookings : bookings base r xs ≡ bs

module _ (t base r : ℕ) (xs : List ℕ) (after : place_start t ≤ base) (all : base + booking_size * r ≤ length xs) where
  pub place-stored : (i : ℕ) (p : Place) → i < t → PlaceFits p
      → Holds t base r (put (place_start i) place_size xs (place_bytes p)) (sizes_of xs) (head_of xs) (set (places t xs) i p) (bookings base r xs)
  place-stored i p h f =
      let from = place_start i in
      let w = place_bytes p in
      let fits : from + place_size ≤ length xs = omega arith in
      let l = place-length p f.name_bytes in
      record {
        sizes = sizes-apart from place_size xs w fits l (inl (omega arith)) (inl (omega arith));
        head = head_apart from place_size xs w fits l (inl (omega arith));
        places = table-put place_of place_size head_size t i xs w p h l (place-of-bytes p f) (omega arith);
        bookings = table-apart booking_of booking_size base r from place_size xs w fits l (inr (omega arith));
      }

  pub booking-stored : (i : ℕ) (b : Booking) → i < r → BookingFits b
      → Holds t base r (put (base + booking_size * i) booking_size xs (booking_bytes b)) (sizes_of xs) (head_of xs) (places t xs) (set (bookings base r xs) i b)
  booking-stored i b h f =
      let from = base + booking_size * i in
      let w = booking_bytes b in
      let fits : from + booking_size ≤ length xs = omega arith in
      let l = booking-length b in
      record {
        sizes = sizes-apart from booking_size xs w fits l (inl (omega arith)) (inl (omega arith));
        head = head_apart from booking_size xs w fits l (inl (omega arith));
        places = table-apart place_of place_size head_size t from booking_size xs w fits l (inl (omega arith));
        bookings = table-put booking_of booking_size base r i xs w b h l (booking-of-bytes b f) all;
      }

  pub head-stored : (h : Head) → HeadFits h → Holds t base r (put ledger_head_offset ledger_head_size xs (head_bytes h)) (sizes_of xs) h (places t xs) (bookings base r xs)
  head-stored h f =
      let w = head_bytes h in
      let fits : ledger_head_offset + ledger_head_size ≤ length xs = omega arith in
      let l = head-length h in
      record {
        sizes = sizes-apart ledger_head_offset ledger_head_size xs w fits l (inl (omega arith)) (inr (omega arith));
        head = head-fields (put ledger_head_offset ledger_head_size xs w) h (fields_read ledger_head_offset head_widths (head_numbers h) (put ledger_head_offset ledger_head_size xs w) (drop ledger_head_size (drop ledger_head_offset xs)) (f.next_id, (f.last_version, (f.baseline, tt))) (put-here ledger_head_offset ledger_head_size xs w fits l));
        places = table-apart place_of place_size head_size t ledger_head_offset ledger_head_size xs w fits l (inr (omega arith));
        bookings = table-apart booking_of booking_size base r ledger_head_offset ledger_head_size xs w fits l (inr (omega arith));
      }

  -- one of the two pairs of sizes, which stand before the tables
  pair-stored : (from : ℕ) (a b : ℕ) (s : Sizes) → from + pair_size ≤ head_size → (counts_offset ≤ from) ⊎ (from + pair_size ≤ ledger_head_offset) → sizes_of (put from pair_size xs (pair_bytes a b)) ≡ s
      → Holds t base r (put from pair_size xs (pair_bytes a b)) s (head_of xs) (places t xs) (bookings base r xs)
  pair-stored from a b s h k e =
      let w = pair_bytes a b in
      let fits : from + pair_size ≤ length xs = omega arith in
      let l = pair-length a b in
      record {
        sizes = e;
        head = head_apart from pair_size xs w fits l k;
        places = table-apart place_of place_size head_size t from pair_size xs w fits l (inr h);
        bookings = table-apart booking_of booking_size base r from pair_size xs w fits l (inr (omega arith));
      }

  -- the pair that is read back
  pair_read : (from a b : ℕ) → from + pair_size ≤ head_size → a < 2 ^ 64 → b < 2 ^ 64 → fields from pair_widths (put from pair_size xs (pair_bytes a b)) ≡ a ∷ b ∷ []
  pair_read from a b h f g = fields_read from pair_widths (a ∷ b ∷ []) (put from pair_size xs (pair_bytes a b)) (drop pair_size (drop from xs)) (f, (g, tt)) (put-here from pair_size xs (pair_bytes a b) (omega arith) (pair-length a b))

  pub counts-stored : (used live : ℕ) → used < 2 ^ 64 → live < 2 ^ 64
      → Holds t base r (put counts_offset pair_size xs (pair_bytes used live)) (record { names = (sizes_of xs).names; reservations = (sizes_of xs).reservations; used = used; live = live }) (head_of xs) (places t xs) (bookings base r xs)
  counts-stored used live f g =
      pair-stored counts_offset used live _ (omega arith) (inl (omega arith))
      (sizes-fields (put counts_offset pair_size xs (pair_bytes used live)) _
      (fields-apart capacity_offset pair_widths counts_offset pair_size xs (pair_bytes used live) (omega arith) (pair-length used live) (inl (omega arith)))
      (pair_read counts_offset used live (omega arith) f g))

  pub capacity-stored : (names reservations : ℕ) → names < 2 ^ 64 → reservations < 2 ^ 64
      → Holds t base r (put capacity_offset pair_size xs (pair_bytes names reservations)) (record { names = names; reservations = reservations; used = (sizes_of xs).used; live = (sizes_of xs).live }) (head_of xs) (places t xs) (bookings base r xs)
  capacity-stored names reservations f g =
      pair-stored capacity_offset names reservations _ (omega arith) (inr (omega arith))
      (sizes-fields (put capacity_offset pair_size xs (pair_bytes names reservations)) _
      (pair_read capacity_offset names reservations (omega arith) f g)
      (fields-apart counts_offset pair_widths capacity_offset pair_size xs (pair_bytes names reservations) (omega arith) (pair-length names reservations) (inr (omega arith))))

pub sizes-stored : (t base r : ℕ) (xs : List ℕ) → place_start t ≤ base → base + booking_size * r ≤ length xs → (s : Sizes) → SizesFit s
    → Holds t base r (put counts_offset pair_size (put capacity_offset pair_size xs (pair_bytes s.names s.reservations)) (pair_bytes s.used s.live)) s (head_of xs) (places t xs) (bookings base r xs)
sizes-stored t base r xs after all s f =
    let w = pair_bytes s.names s.reservations in
    let ys = put capacity_offset pair_size xs w in
    let l : length ys ≡ length xs = put-length capacity_offset pair_size xs w (omega arith) (pair-length s.names s.reservations) in
    let a = capacity-stored t base r xs after all s.names s.reservations f.names f.reservations in
    let b = counts-stored t base r ys after (omega arith) s.used s.live f.used f.live in
    record {
      sizes = b.sizes ∙ ap (λ (z : Sizes). record { names = z.names; reservations = z.reservations; used = s.used; live = s.live }) a.sizes;
      head = b.head ∙ a.head;
      places = b.places ∙ a.places;
      bookings = b.bookings ∙ a.bookings;
    }

-- ── the records are all of the room ────────────────────────────────────────────────────────────

module _ {A : Type 0} (read : List ℕ → A) (write : A → List ℕ) (k : ℕ) (back : (w : List ℕ) → All IsByte w → length w ≡ k → write (read w) ≡ w) where
  rows_back : (n : ℕ) (xs : List ℕ) → All IsByte xs → k * n ≤ length xs → map write (map read (rows k n xs)) ≡ rows k n xs
  rows_back zero xs h l = refl
  rows_back (suc n) xs h l =
      let m : k * n + k ≤ length xs = rw mul-suc at l in
      ap₂ (λ w ws. w ∷ ws) (back (take k xs) (all_take IsByte k xs h) (length-take-le k xs (omega arith)))
      (rows_back n (drop k xs) (all_drop IsByte k xs h) (rw length-drop (omega arith)))

  -- the bytes of a table's records are the table's
  pub table-bytes : (b n : ℕ) (xs : List ℕ) → All IsByte xs → b + k * n ≤ length xs → joined (map write (table read k b n xs)) ≡ row (k * n) b xs
  table-bytes b n xs h l = ap joined (rows_back n (drop b xs) (all_drop IsByte b xs h) (rw length-drop (omega arith))) ∙ joined-rows k n (drop b xs)

abbrev pub room_bytes : Sizes → Head → List Place → List Booking → List ℕ
room_bytes s h ps bs = pair_bytes s.names s.reservations ++ (head_bytes h ++ (pair_bytes s.used s.live ++ (joined (map place_bytes ps) ++ joined (map booking_bytes bs))))

pub bytes-of-room : (t r : ℕ) (xs : List ℕ) → All IsByte xs → length xs ≡ place_start t + booking_size * r
    → room_bytes (sizes_of xs) (head_of xs) (places t xs) (bookings (place_start t) r xs) ≡ xs
bytes-of-room t r xs h l =
    let p = table-bytes place_of place_bytes place_size bytes-of-place head_size t xs h (omega arith) in
    let b = table-bytes booking_of booking_bytes booking_size bytes-of-booking (place_start t) r xs h (omega arith) in
    let tables = ap₂ ◌++◌ p b ∙ sym (row-join (place_size * t) (booking_size * r) head_size xs) in
    let counts = ap₂ ◌++◌ (bytes-of-counts xs h (omega arith)) tables ∙ sym (row-join pair_size (place_size * t + booking_size * r) counts_offset xs) in
    let head = ap₂ ◌++◌ (bytes-of-head xs h (omega arith)) counts ∙ sym (row-join ledger_head_size (pair_size + (place_size * t + booking_size * r)) ledger_head_offset xs) in
    ap₂ ◌++◌ (bytes-of-capacity xs h (omega arith)) head ∙ sym (row-join pair_size (ledger_head_size + (pair_size + (place_size * t + booking_size * r))) capacity_offset xs)
    ∙ take_all (pair_size + (ledger_head_size + (pair_size + (place_size * t + booking_size * r)))) xs (omega arith)

-- so two rooms that hold the same records are the same bytes
pub same-room : (t r : ℕ) (xs ys : List ℕ) → All IsByte xs → All IsByte ys → length xs ≡ place_start t + booking_size * r → length ys ≡ place_start t + booking_size * r
    → Holds t (place_start t) r xs (sizes_of ys) (head_of ys) (places t ys) (bookings (place_start t) r ys) → xs ≡ ys
same-room t r xs ys f g k l h =
    sym (bytes-of-room t r xs f k)
    ∙ (λ j. room_bytes (h.sizes j) (h.head j) (h.places j) (h.bookings j))
    ∙ bytes-of-room t r ys g l
