-- Of the room of a sound ledger all the facts hold: its contents are the ledger's, and each fact is the clause of soundness that says the same of
-- the places and the bookings, seen through their records.
use mathlib.Core.Path.{◌≡◌, sym, ◌∙◌, ap, subst}
use mathlib.Core.Bool.{true, false}
use mathlib.Core.List.{List, map}
use mathlib.Core.Option.{Option, none, some}
use Prim.Native.Nat.{ℕ, ◌-◌, ◌≤◌, ◌<◌}
use native.Mathlib.Omega.{arith}
use lib.ListN.{length, get_or, drop, replicate, length-map}
use lib.Seq.{drop_at}
use Rattle.rules.specs.Lists.{sum, All}
use Rattle.rules.specs.RoomAndSoundLedger.{M, IsName, Account, Seat as RulesSeat, Place as RulesPlace, Ledger, is_vacant, seat_in, has_account, holds_place, reserved_for, committed_at, committed_total, Before, AddsUp, Sound}
use Rattle.rules.proofs.Lists.{all_map, all_both}
use Rattle.rules.proofs.Keys.{all-images, pairwise_map, pairwise-images}
use Rattle.rules.proofs.Places.{all_found, account-holds}
use Rattle.rules.proofs.Bookings.{IdBelow}
use Rattle.rules.proofs.SoundByName.{AccountSound, by_name}
use Rattle.records.specs.declared.Place.{Place}
use Rattle.records.specs.declared.Booking.{Booking}
use Rattle.room.specs.Contents.{Contents, contents_of, room_size, empty_place, empty_booking, NameBefore}
use Rattle.room.specs.Room.{place_record, booking_record, filled, sizes_in, head_in, contents_in, IsRoom, SoundRoom}
use Rattle.room.proofs.Filled.{used-part}
use Rattle.room.proofs.Decoding.{nowhere, booking_in, number-name}
use Rattle.room.proofs.Numbers.{number-below}
use Rattle.room.proofs.SoundRoom.{record-before}
use Rattle.soundness.specs.Facts.{SizesSound, HeadSound, PlaceSound, PlacesSound, BookingSound, BookingsSound, ReservedIsSum, TablesSound, RoomFacts}
use Rattle.soundness.proofs.Indices.{at-index, at-indices, sum-images, at-mapped, map_back}
use Rattle.soundness.proofs.Owners.{reserved-at}
use Rattle.soundness.proofs.Kept.{reserved_of, place-sound, place-reserved, place-committed}

-- the entries not in use
unused-part : {A B : Type 0} (f : A → B) (xs : List A) (n : ℕ) (empty : B) → drop (length xs) (filled n empty (map f xs)) ≡ replicate (n - length xs) empty
unfolding filled
unused-part f xs n empty = drop_at (map f xs) (replicate (n - length (map f xs)) empty) (length xs) (length-map xs f) ∙ ap (λ k. replicate (n - k) empty) (length-map xs f)

account-reserves : (total : ℕ) (o : Option Account) → AccountSound total o → reserved_of o ≡ total
account-reserves total none e = sym e
account-reserves total (some a) e = e.2

module _ (L : Ledger) (sound : Sound L) where
  abbrev records : List Place
  records = map place_record L.places

  abbrev booked : List Booking
  booked = map (booking_record L.places) L.bookings

  -- the airline of each booking holds a place
  holders : All (λ b. holds_place b.name L.places ≡ true) L.bookings
  holders = all_map (λ b. has_account (seat_in b.name L.places).account ≡ true) _ (λ b h. account-holds b.name L.places h) L.bookings sound.accounts_exist

  owners : All (λ b. b.owner < length L.places) booked
  owners = all-images (booking_record L.places) _ L.bookings (all_map (λ b. holds_place b.name L.places ≡ true) _ (λ b h. number-below b.name L.places h) L.bookings holders)

  -- ── the places ───────────────────────────────────────────────────────────────────────────────

  committed-total : sum (λ p. p.committed) records ≡ committed_total L.places
  unfolding committed_total
  committed-total = sum-images place_record (λ p. p.committed) committed_at L.places (at-indices _ L.places nowhere (λ i l. place-committed (get_or L.places i nowhere)))

  place-facts : (i : ℕ) → i < length L.places → PlaceSound (place_record (get_or L.places i nowhere))
  place-facts i l =
      let here : (P : RulesPlace → Type 0) → All P L.places → P (get_or L.places i nowhere) = λ P h. at-index P L.places i nowhere h l in
      place-sound (get_or L.places i nowhere) (here (λ p. IsName p.name) sound.are_names).fits
      (here (λ p. AddsUp p.seat.account) sound.accounts_add_up) (here (λ p. p.seat.limit ≤ M) sound.limits) (here (λ p. is_vacant p.seat ≡ false) sound.places_held)

  places-facts : PlacesSound L.baseline records
  places-facts = record {
    each = all-images place_record PlaceSound L.places (at-indices _ L.places nowhere place-facts);
    ascend = pairwise-images place_record NameBefore L.places (pairwise_map Before _ record-before L.places sound.names_ascend);
    baseline = omega (arith, committed-total, sound.baseline_in_range.1);
  }

  -- ── the bookings ─────────────────────────────────────────────────────────────────────────────

  bookings-facts : BookingsSound L.next_id (length L.places) booked
  bookings-facts = record {
    each = all_both (λ b. b.owner < length L.places) (λ b. b.owner < length L.places → BookingSound L.next_id (length L.places) b) (BookingSound L.next_id (length L.places)) (λ b l f. f l) booked owners
        (all-images (booking_record L.places) _ L.bookings (all_both (IdBelow L.next_id) (λ b. 0 < b.amount) _ (λ b h k l. record { id = h; amount = k; owner = l }) L.bookings sound.ids_in_range sound.amounts_positive));
    ascend = pairwise-images (booking_record L.places) (λ b d. b.id.0 < d.id.0) L.bookings sound.ids_ascend;
  }

  bookings-back : map (booking_in L.places) booked ≡ L.bookings
  bookings-back = map_back (booking_record L.places) (booking_in L.places) L.bookings
      (all_map (λ b. holds_place b.name L.places ≡ true) _ (λ b h i. record { id = b.id; name = number-name b.name L.places h i; amount = b.amount }) L.bookings holders)

  reserved-facts : ReservedIsSum (length L.places) records booked
  reserved-facts i l =
      let p : RulesPlace = get_or L.places i nowhere in
      let found : seat_in p.name L.places ≡ p.seat = at-index (λ p. seat_in p.name L.places ≡ p.seat) L.places i nowhere (all_found L.places sound.names_ascend) l in
      ap (λ (r : Place). r.reserved) (at-mapped place_record L.places i empty_place nowhere l)
      ∙ place-reserved p
      ∙ ap (λ (s : RulesSeat). reserved_of s.account) (sym found)
      ∙ account-reserves (reserved_for p.name L.bookings) (seat_in p.name L.places).account ((by_name L sound).accounts p.name)
      ∙ ap (reserved_for p.name) (sym bookings-back)
      ∙ reserved-at L.places sound.names_ascend i l booked owners

  -- ── the tables, the sizes and the head ───────────────────────────────────────────────────────

  tables-facts : TablesSound (contents_in L)
  unfolding contents_in
  tables-facts = record {
    places = rw (used-part place_record L.places L.T empty_place) places-facts;
    unused_places = unused-part place_record L.places L.T empty_place;
    bookings = rw (used-part (booking_record L.places) L.bookings L.R empty_booking) bookings-facts;
    reserved = rw (used-part place_record L.places L.T empty_place, used-part (booking_record L.places) L.bookings L.R empty_booking) reserved-facts;
    unused_bookings = unused-part (booking_record L.places) L.bookings L.R empty_booking;
  }

  sizes-facts : (n : ℕ) → n ≡ room_size L.T L.R → SizesSound (sizes_in L) n
  sizes-facts n size = record { names = sound.names_in_range; reservations = sound.reservations_in_range; used = sound.names_fit; live = sound.reservations_fit; size = size }

  head-facts : HeadSound (head_in L)
  head-facts = record { next_id = sound.next_id; last_version = sound.last_version; baseline = sound.baseline_in_range.0 }

pub sound-facts : (xs : List ℕ) → SoundRoom xs → RoomFacts xs
unfolding contents_of contents_in
sound-facts xs room =
    let L : Ledger = room.ledger in
    let is : IsRoom xs L = room.is_room in
    record {
      long = omega (arith, is.size);
      sizes = subst (λ s. SizesSound s (length xs)) (sym (ap (λ (c : Contents). c.sizes) is.holds)) (sizes-facts L is.sound (length xs) is.size);
      head = subst HeadSound (sym (ap (λ (c : Contents). c.head) is.holds)) (head-facts L is.sound);
      tables = subst TablesSound (sym is.holds) (tables-facts L is.sound);
    }
