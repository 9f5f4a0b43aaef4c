-- A room of which the facts hold is the room of a sound ledger: the one that its contents decode to. Its contents are that ledger's again, since every
-- record is in its one form, every booking's owner is the number of its name's place, and the rest of the tables is empty; and the ledger is sound,
-- clause by clause.
use mathlib.Core.Path.{◌≡◌, refl, sym, ◌∙◌, ap}
use mathlib.Core.Bool.{true, false}
use mathlib.Core.List.{List, map}
use mathlib.Core.Option.{Option, none, some}
use Prim.Native.Nat.{ℕ, ◌-◌, ◌≤◌, ◌<◌}
use native.Mathlib.Omega.{arith}
use borrow.Author.Tests.{eq-eqb}
use lib.ListN.{length, get_or, take, drop, replicate, length-map, length-take, take-append-drop}
use lib.Seq.{length-take-le}
use Rattle.rules.specs.Lists.{sum, All, Pairwise}
use Rattle.rules.specs.RoomAndSoundLedger.{M, IsByte, IsName, Account, Place as RulesPlace, Booking as RulesBooking, is_vacant, seat_in, has_account, committed_at, committed_total, InRange, Before, AddsUp, Reserves, Sound, most_names, most_reservations}
use Rattle.rules.proofs.Lists.{all_map, all_both}
use Rattle.rules.proofs.Keys.{all-images, pairwise-images}
use Rattle.rules.proofs.Places.{all_found}
use Rattle.numbers.proofs.Bytes.{all_take}
use Rattle.names.specs.Names.{spelled}
use Rattle.records.specs.Layout.{place_size, booking_size, head_size}
use Rattle.records.specs.Records.{sizes_of, place_of, booking_of}
use Rattle.records.proofs.Rows.{table-length}
use Rattle.records.specs.declared.Place.{Place}
use Rattle.records.specs.declared.Booking.{Booking}
use Rattle.room.specs.Contents.{Contents, contents_of, base_of, used_places, live_bookings, empty_place, empty_booking}
use Rattle.room.specs.Room.{place_record, booking_record, filled, contents_in, SoundRoom}
use Rattle.room.proofs.Decoding.{place_in, nowhere, booking_in, ledger_in}
use Rattle.soundness.specs.Facts.{HeadSound, PlaceSound, BookingSound, share_of, TablesSound, RoomFacts}
use Rattle.soundness.proofs.Indices.{at-index, at-indices, own-part, sum-images, at-mapped, map_back}
use Rattle.soundness.proofs.Owners.{name_at, number_at, reserved-at}
use Rattle.soundness.proofs.Kept.{reserved_of, record-kept, record-reserved, record-committed}
use Rattle.soundness.proofs.NameBytes.{NameOfBytes, names-of-bytes}

-- the tables are as long as the sizes say, and of each as many entries are in use as they say
record Shaped (c : Contents) : Type 0 where
  places : length c.places ≡ c.sizes.names
  bookings : length c.bookings ≡ c.sizes.reservations
  used : c.sizes.used ≤ c.sizes.names
  live : c.sizes.live ≤ c.sizes.reservations

-- what the facts ask of each booking of these contents
abbrev BookingHolds : Contents → Booking → Type 0
BookingHolds c = BookingSound c.head.next_id c.sizes.used

-- the entries in use with empty ones after them are the table
filled-back : {A : Type 0} (n k : ℕ) (empty : A) (xs : List A) → length (take k xs) ≡ k → drop k xs ≡ replicate (n - k) empty → filled n empty (take k xs) ≡ xs
unfolding filled
filled-back n k empty xs l e = rw (l, ← e) (take-append-drop k xs)

has-account : (o : Option Account) → 0 < reserved_of o → has_account o ≡ true
has-account none h = absurd (omega arith)
has-account (some a) h = refl

reserves : (total : ℕ) (o : Option Account) → reserved_of o ≡ total → Reserves total o
reserves total none e = tt
reserves total (some a) e = e

module _ (c : Contents) (shaped : Shaped c) (facts : TablesSound c) where
  -- the records in use, and the places and bookings that they decode to
  abbrev records : List Place
  records = used_places c

  abbrev held : List RulesPlace
  held = map place_in records

  abbrev live : List Booking
  live = live_bookings c

  used-length : length records ≡ c.sizes.used
  used-length = length-take-le c.sizes.used c.places (omega arith)

  held-length : length held ≡ c.sizes.used
  held-length = length-map records place_in ∙ used-length

  live-length : length live ≡ c.sizes.live
  live-length = length-take-le c.sizes.live c.bookings (omega arith)

  ascend : Pairwise Before held
  ascend = pairwise-images place_in Before records facts.places.ascend

  owners : All (λ b. b.owner < length held) live
  owners = all_map (BookingHolds c) (λ b. b.owner < length held) (λ b s. omega (arith, s.owner, held-length)) live facts.bookings.each

  -- ── the contents are the ledger's again ──────────────────────────────────────────────────────

  records-back : map place_record held ≡ records
  records-back = map_back place_in place_record records (all_map PlaceSound (λ p. place_record (place_in p) ≡ p) record-kept records facts.places.each)

  bookings-back : map (booking_record held) (map (booking_in held) live) ≡ live
  bookings-back = map_back (booking_in held) (booking_record held) live (all_map (λ b. b.owner < length held) (λ b. booking_record held (booking_in held b) ≡ b)
      (λ b l i. record { id = b.id; amount = b.amount; owner = number_at held b.owner ascend l i }) live owners)

  encoded : contents_in (ledger_in c) ≡ c
  unfolding contents_in ledger_in
  encoded =
      let ps = ap (filled c.sizes.names empty_place) records-back ∙ filled-back c.sizes.names c.sizes.used empty_place c.places used-length facts.unused_places in
      let bs = ap (filled c.sizes.reservations empty_booking) bookings-back ∙ filled-back c.sizes.reservations c.sizes.live empty_booking c.bookings live-length facts.unused_bookings in
      let l = length-map live (booking_in held) ∙ live-length in
      λ i. record { sizes = record { names = c.sizes.names; reservations = c.sizes.reservations; used = held-length i; live = l i }; head = c.head; places = ps i; bookings = bs i }

  -- ── what is reserved ─────────────────────────────────────────────────────────────────────────

  reserved-of-number : (i : ℕ) → i < c.sizes.used → reserved_of (get_or held i nowhere).seat.account ≡ sum (share_of i) live
  reserved-of-number i l =
      let m : i < length records = omega (arith, used-length) in
      ap (λ p. reserved_of p.seat.account) (at-mapped place_in records i nowhere empty_place m)
      ∙ sym (record-reserved (get_or records i empty_place) (at-index PlaceSound records i empty_place facts.places.each m))
      ∙ facts.reserved i l

  -- a booking reserves something for its owner, so that has an account
  owner-has-account : (b : Booking) → BookingHolds c b → share_of b.owner b ≤ sum (share_of b.owner) live → has_account (seat_in (name_at held b.owner) held).account ≡ true
  owner-has-account b s part =
      let l : b.owner < length held = omega (arith, held-length, s.owner) in
      let a : share_of b.owner b ≡ b.amount.0 = rw (eq-eqb b.owner b.owner refl) in
      let found = at-index (λ p. seat_in p.name held ≡ p.seat) held b.owner nowhere (all_found held ascend) l in
      ap (λ t. has_account t.account) found
      ∙ has-account (get_or held b.owner nowhere).seat.account (omega (arith, reserved-of-number b.owner s.owner, a, part, s.amount))

  -- ── the ledger is sound ──────────────────────────────────────────────────────────────────────

  -- a clause on every place, or booking, from what the facts say of its record
  of_places : (P : RulesPlace → Type 0) → ((p : Place) → PlaceSound p → P (place_in p)) → All P held
  of_places P f = all-images place_in P records (all_map PlaceSound (λ p. P (place_in p)) f records facts.places.each)

  of-bookings : (P : RulesBooking → Type 0) → ((b : Booking) → BookingHolds c b → P (booking_in held b)) → All P (map (booking_in held) live)
  of-bookings P f = all-images (booking_in held) P live (all_map (BookingHolds c) (λ b. P (booking_in held b)) f live facts.bookings.each)

  are_names : All NameOfBytes c.places → All (λ p. IsName p.name) held
  are_names bytes = all-images place_in (λ p. IsName p.name) records (all_both PlaceSound NameOfBytes (λ p. IsName (spelled p.name))
      (λ p s h. record { fits = omega (arith, length-take p.name.length p.name.bytes, s.name.fits); bytes = all_take IsByte p.name.length p.name.bytes h })
      records facts.places.each (all_take NameOfBytes c.sizes.used c.places bytes))

  accounts_exist : All (λ b. has_account (seat_in b.name held).account ≡ true) (map (booking_in held) live)
  accounts_exist = all-images (booking_in held) (λ b. has_account (seat_in b.name held).account ≡ true) live
      (all_both (BookingHolds c) (λ b. share_of b.owner b ≤ sum (share_of b.owner) live) _
      owner-has-account live facts.bookings.each (own-part (λ b. share_of b.owner) live))

  committed-total : committed_total held ≡ sum (λ p. p.committed) records
  unfolding committed_total
  committed-total = sum-images place_in committed_at (λ p. p.committed) records
      (all_map PlaceSound (λ p. committed_at (place_in p) ≡ p.committed) (λ p s. sym (record-committed p s)) records facts.places.each)

  decoded-sound : InRange 1 most_names c.sizes.names → InRange 1 most_reservations c.sizes.reservations → HeadSound c.head → All NameOfBytes c.places → Sound (ledger_in c)
  unfolding ledger_in
  decoded-sound names reservations head bytes = record {
    names_in_range = names;
    reservations_in_range = reservations;
    names_fit = omega (arith, held-length, shaped.used);
    reservations_fit = omega (arith, length-map live (booking_in held), live-length, shaped.live);
    are_names = are_names bytes;
    names_ascend = ascend;
    accounts_add_up = of_places (λ p. AddsUp p.seat.account) (λ p s. s.seat.adds_up);
    limits = of_places (λ p. p.seat.limit ≤ M) (λ p s. s.seat.limit);
    places_held = of_places (λ p. is_vacant p.seat ≡ false) (λ p s. s.held);
    ids_ascend = pairwise-images (booking_in held) (λ b d. b.id < d.id) live facts.bookings.ascend;
    ids_in_range = of-bookings (λ b. (1 ≤ b.id) × (b.id < c.head.next_id)) (λ b s. s.id);
    amounts_positive = of-bookings (λ b. 0 < b.amount) (λ b s. s.amount);
    accounts_exist = accounts_exist;
    reserved_is_sum = at-indices _ held nowhere (λ i l. reserves _ (get_or held i nowhere).seat.account
        (reserved-of-number i (omega (arith, held-length)) ∙ sym (reserved-at held ascend i l live owners)));
    next_id = head.next_id;
    last_version = head.last_version;
    baseline_in_range = (head.baseline, omega (arith, committed-total, facts.places.baseline));
  }

-- The premise on the bytes is no fact of the room's: it is known of whatever code is lent, and lists of numbers may have others.
pub facts-sound : (xs : List ℕ) → All IsByte xs → RoomFacts xs → SoundRoom xs
unfolding contents_of ledger_in
facts-sound xs bytes facts =
    let c : Contents = contents_of xs in
    let t : ℕ = (sizes_of xs).names in
    let r : ℕ = (sizes_of xs).reservations in
    let shaped : Shaped c = record { places = table-length place_of place_size head_size t xs; bookings = table-length booking_of booking_size (base_of t) r xs; used = facts.sizes.used; live = facts.sizes.live } in
    record {
      ledger = ledger_in c;
      is_room = record {
        size = facts.sizes.size;
        holds = sym (encoded c shaped facts.tables);
        sound = decoded-sound c shaped facts.tables facts.sizes.names facts.sizes.reservations facts.head (names-of-bytes t xs bytes);
      };
    }
