-- The tables of a room by the parts in which the code asks for them: a table's front is its first rows, and its rest is empty just where its bytes are zero.
use mathlib.Core.Path.{◌≡◌, refl, sym, ap, ap₂, ◌∙◌, subst}
use mathlib.Core.List.{List}
use Prim.Native.Nat.{ℕ, ◌+◌, ◌-◌, ◌*◌, ◌<◌}
use native.Mathlib.Omega.{arith}
use lib.ListN.{length, get_or, take, replicate, get_or-map}
use lib.Seq.{get_or-take}
use Rattle.rules.specs.Lists.{sum, All}
use Rattle.rules.specs.RoomAndSoundLedger.{IsByte}
use Rattle.rules.proofs.Lists.{all_map}
use Rattle.numbers.specs.LittleEndian.{little_number}
use Rattle.records.specs.Layout.{place_start, place_size, booking_size, head_size}
use Rattle.records.specs.Rows.{row}
use Rattle.records.specs.Records.{place_of, place_bytes, booking_of, booking_bytes, sizes_of, head_of, places, bookings}
use Rattle.records.specs.declared.Head.{Head}
use Rattle.records.specs.declared.Sizes.{Sizes}
use Rattle.records.proofs.Records.{bytes-of-place, bytes-of-booking}
use Rattle.records.proofs.Rows.{table-take}
use Rattle.room.specs.Contents.{Contents, contents, contents_of, base_of, empty_place, empty_booking}
use Rattle.soundness.specs.Facts.{SizesSound, PlacesSound, BookingsSound, BookingSound, TablesSound, share_of}
use Rattle.soundness.specs.Steps.{ZeroBelow, Noted, Booked}
use Rattle.soundness.proofs.Zeros.{cleared, clear}

-- what is read of the room with sizes and a head at hand
abbrev pub contents_with : Sizes → Head → List ℕ → Contents
contents_with s h xs = contents s h (places s.names xs) (bookings (base_of s.names) s.reservations xs)

pub contents-with : (s : Sizes) (h : Head) (xs : List ℕ) → s ≡ sizes_of xs → h ≡ head_of xs → contents_with s h xs ≡ contents_of xs
unfolding contents_of
contents-with s h xs e f = ap₂ (λ s h. contents_with s h xs) e f

pub empty-place : place_of (replicate place_size 0) ≡ empty_place
unfolding little_number
empty-place = refl

pub empty-booking : booking_of (replicate booking_size 0) ≡ empty_booking
unfolding little_number
empty-booking = refl

-- what was noted of each place
noted-at : (used : ℕ) (xs reserved : List ℕ) → Noted used xs reserved → (i : ℕ) → i < used → get_or reserved i 0 ≡ (get_or (places used xs) i empty_place).reserved
noted-at used xs reserved noted i h = sym (get_or-take used reserved i 0 h) ∙ ap (λ l. get_or l i 0) noted ∙ get_or-map (λ p. p.reserved) (places used xs) i empty_place

-- the sizes and the head that were read of these bytes
module _ (s : Sizes) (h : Head) (xs : List ℕ) (read : (s ≡ sizes_of xs) × (h ≡ head_of xs)) (bytes : All IsByte xs) (sized : SizesSound s (length xs)) where
  known : contents_with s h xs ≡ contents_of xs
  known = contents-with s h xs read.0 read.1

  abbrev base : ℕ
  base = base_of s.names

  used-places : take s.used (places s.names xs) ≡ places s.used xs
  used-places = table-take place_of place_size head_size xs s.used s.names sized.used

  live-bookings : take s.live (bookings base s.reservations xs) ≡ bookings base s.live xs
  live-bookings = table-take booking_of booking_size base xs s.live s.reservations sized.live

  abbrev unused_places : List ℕ
  unused_places = row (base - place_start s.used) (place_start s.used) xs

  abbrev unused_bookings : List ℕ
  unused_bookings = row (length xs - (base + booking_size * s.live)) (base + booking_size * s.live) xs

  width-of-places : base - place_start s.used ≡ place_size * (s.names - s.used)
  width-of-places = omega (arith, sized.used)

  width-of-bookings : length xs - (base + booking_size * s.live) ≡ booking_size * (s.reservations - s.live)
  width-of-bookings = omega (arith, sized.size, sized.live)

  module _ (asked : TablesSound (contents_of xs)) where
    tables : TablesSound (contents_with s h xs)
    tables = subst TablesSound (sym known) asked

    pub places-part : PlacesSound h.baseline (places s.used xs)
    places-part = subst (PlacesSound h.baseline) used-places tables.places

    pub unused-places-part : ZeroBelow (length unused_places) unused_places
    unused-places-part =
        subst (λ n. ZeroBelow (length (row n (place_start s.used) xs)) (row n (place_start s.used) xs)) (sym width-of-places)
        (clear place_of place_bytes place_size bytes-of-place head_size s.used s.names xs bytes sized.used (omega (arith, sized.size)) (tables.unused_places ∙ ap (replicate (s.names - s.used)) (sym empty-place)) _)

    pub unused-bookings-part : ZeroBelow (length unused_bookings) unused_bookings
    unused-bookings-part =
        subst (λ n. ZeroBelow (length (row n (base + booking_size * s.live) xs)) (row n (base + booking_size * s.live) xs)) (sym width-of-bookings)
        (clear booking_of booking_bytes booking_size bytes-of-booking base s.live s.reservations xs bytes sized.live (omega (arith, sized.size)) (tables.unused_bookings ∙ ap (replicate (s.reservations - s.live)) (sym empty-booking)) _)

    pub booked-part : (reserved : List ℕ) → Noted s.used xs reserved → Booked 0 h.next_id s.used reserved (bookings base s.live xs)
    booked-part reserved noted =
        let sound : BookingsSound h.next_id s.used (bookings base s.live xs) = subst (BookingsSound h.next_id s.used) live-bookings tables.bookings in
        record {
          sound = sound;
          after = all_map (BookingSound h.next_id s.used) (λ b. 0 < b.id.0) (λ b p. p.id.0) (bookings base s.live xs) sound.each;
          sums = λ i l. noted-at s.used xs reserved noted i l ∙ ap (λ ps. (get_or ps i empty_place).reserved) (sym used-places) ∙ tables.reserved i l ∙ ap (sum (share_of i)) live-bookings;
        }

  pub of_parts : (reserved : List ℕ) → Noted s.used xs reserved
      → PlacesSound h.baseline (places s.used xs) → ZeroBelow (length unused_places) unused_places → Booked 0 h.next_id s.used reserved (bookings base s.live xs) → ZeroBelow (length unused_bookings) unused_bookings
      → TablesSound (contents_of xs)
  of_parts reserved noted sound zero booked zero' =
      subst TablesSound known (record {
        places = subst (PlacesSound h.baseline) (sym used-places) sound;
        unused_places =
            cleared place_of place_bytes place_size bytes-of-place head_size s.used s.names xs bytes sized.used (omega (arith, sized.size)) (subst (λ n. ZeroBelow (length (row n (place_start s.used) xs)) (row n (place_start s.used) xs)) width-of-places zero)
            ∙ ap (replicate (s.names - s.used)) empty-place;
        bookings = subst (BookingsSound h.next_id s.used) (sym live-bookings) booked.sound;
        reserved = λ i l. ap (λ ps. (get_or ps i empty_place).reserved) used-places ∙ sym (noted-at s.used xs reserved noted i l) ∙ booked.sums i l ∙ ap (sum (share_of i)) (sym live-bookings);
        unused_bookings =
            cleared booking_of booking_bytes booking_size bytes-of-booking base s.live s.reservations xs bytes sized.live (omega (arith, sized.size)) (subst (λ n. ZeroBelow (length (row n (base + booking_size * s.live) xs)) (row n (base + booking_size * s.live) xs)) width-of-bookings zero')
            ∙ ap (replicate (s.reservations - s.live)) empty-booking;
      })
