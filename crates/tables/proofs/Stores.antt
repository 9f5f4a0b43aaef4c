-- What a store in a room means to its contents, and a load from it.
use mathlib.Core.Path.{◌≡◌, refl, sym, ap, subst, ◌∙◌}
use mathlib.Core.Logic.{inl}
use mathlib.Core.List.{List, []}
use Prim.Native.Nat.{ℕ, suc, ◌+◌, ◌*◌, ◌≤◌, ◌<◌, ◌^◌}
use native.Mathlib.Omega.{arith}
use lib.ListN.{length, get_or, set}
use Rattle.rules.specs.Lists.{All}
use Rattle.rules.specs.RoomAndSoundLedger.{IsByte, most_names, most_reservations}
use Rattle.rules.proofs.ByIndex.{any-default}
use Rattle.records.specs.Layout.{place_start, ledger_head_offset, ledger_head_size, counts_offset, pair_size, place_size, booking_size, head_size}
use Rattle.records.specs.declared.Place.{Place}
use Rattle.records.specs.declared.Booking.{Booking}
use Rattle.records.specs.declared.Head.{Head}
use Rattle.records.specs.declared.Sizes.{Sizes}
use Rattle.records.specs.Rows.{row, put}
use Rattle.records.specs.Records.{place_of, place_bytes, PlaceFits, booking_of, booking_bytes, BookingFits, head_of, head_bytes, HeadFits, sizes_of, pair_bytes, places, bookings}
use Rattle.records.proofs.Rows.{row-length, put-length, table-length, table_at, table-apart}
use Rattle.records.proofs.Records.{place-length, booking-length, booking-fits, head-length, pair-length}
use Rattle.records.proofs.Room.{Holds, head_apart, sizes-apart, place-stored, booking-stored, head-stored, counts-stored}
use Rattle.records.proofs.Fields.{row-bytes}
use Rattle.room.specs.Contents.{Contents, contents, contents_of, Sized, base_of, room_size, with_counts, with_head, with_place, renumbered}
use Rattle.tables.specs.Steps.{Becomes, on_places, on_bookings, on_counts, with_booking, moved_down}
use Rattle.tables.proofs.Gap.{gap-closed}
use Rattle.tables.proofs.Moving.{renumbered-read, renumbered-turn, renumbered-kept}

-- ── the sizes ──────────────────────────────────────────────────────────────────────────────────

-- what Sized says, of the contents
pub record SizedBy (n : ℕ) (s : Sizes) : Type 0 where
  pub names : s.names ≤ most_names
  pub reservations : s.reservations ≤ most_reservations
  pub size : n ≡ room_size s.names s.reservations
  pub used : s.used ≤ s.names
  pub live : s.live ≤ s.reservations

pub sized-by : (xs : List ℕ) → Sized xs → SizedBy (length xs) (contents_of xs).sizes
unfolding contents_of
sized-by xs s = record { names = s.names; reservations = s.reservations; size = s.size; used = s.used; live = s.live }

pub sized-from : (xs : List ℕ) → SizedBy (length xs) (contents_of xs).sizes → Sized xs
unfolding contents_of
sized-from xs s = record { names = s.names; reservations = s.reservations; size = s.size; used = s.used; live = s.live }

-- the sizes that were loaded, as numbers that omega reads
pub record Loaded (xs : List ℕ) (t : Sizes) : Type 0 where
  pub sizes : t ≡ (contents_of xs).sizes
  pub names : t.names ≡ (contents_of xs).sizes.names
  pub reservations : t.reservations ≡ (contents_of xs).sizes.reservations
  pub used : t.used ≡ (contents_of xs).sizes.used
  pub live : t.live ≡ (contents_of xs).sizes.live
  pub room : SizedBy (length xs) (contents_of xs).sizes

pub loaded : (xs : List ℕ) (t : Sizes) → Sized xs → t ≡ sizes_of xs → Loaded xs t
unfolding contents_of
loaded xs t s e =
    record {
      sizes = e;
      names = ap (λ (z : Sizes). z.names) e;
      reservations = ap (λ (z : Sizes). z.reservations) e;
      used = ap (λ (z : Sizes). z.used) e;
      live = ap (λ (z : Sizes). z.live) e;
      room = sized-by xs s;
    }

-- a step that leaves the sizes leaves the room sized
pub still-sized : (xs ys : List ℕ) → Sized xs → length ys ≡ length xs → (contents_of ys).sizes ≡ (contents_of xs).sizes → Sized ys
still-sized xs ys s l e = sized-from ys (rw (l, e) (sized-by xs s))

-- one that changes the counts leaves it so within the room that there is
pub recounted : (xs ys : List ℕ) (used live : ℕ) → Sized xs → length ys ≡ length xs → (contents_of ys).sizes ≡ with_counts used live (contents_of xs).sizes
    → used ≤ (contents_of xs).sizes.names → live ≤ (contents_of xs).sizes.reservations → Sized ys
recounted xs ys used live s l e u v =
    let r = sized-by xs s in
    sized-from ys (rw (l, e) (record { names = r.names; reservations = r.reservations; size = r.size; used = u; live = v }))

-- ── steps one after the other ──────────────────────────────────────────────────────────────────

pub follow : (f g h : Contents → Contents) (xs ys zs : List ℕ) → Becomes f xs ys → Becomes g ys zs → g (f (contents_of xs)) ≡ h (contents_of xs) → Becomes h xs zs
follow f g h xs ys zs a b e = (b.0 ∙ a.0, b.1 ∙ ap g a.1 ∙ e)

pub stays : (f : Contents → Contents) (xs ys : List ℕ) → ((c : Contents) → (f c).sizes ≡ c.sizes) → Sized xs → Becomes f xs ys → Sized ys
stays f xs ys k s b = still-sized xs ys s b.0 (ap (λ c. c.sizes) b.1 ∙ k (contents_of xs))

-- ── loads ──────────────────────────────────────────────────────────────────────────────────────

module _ (xs : List ℕ) where
  pub places-length : length (contents_of xs).places ≡ (contents_of xs).sizes.names
  unfolding contents_of
  places-length = table-length place_of place_size head_size (sizes_of xs).names xs

  pub bookings-length : length (contents_of xs).bookings ≡ (contents_of xs).sizes.reservations
  unfolding contents_of
  bookings-length = table-length booking_of booking_size (base_of (sizes_of xs).names) (sizes_of xs).reservations xs

  pub place-loaded : (i : ℕ) (z : Place) → i < (contents_of xs).sizes.names → place_of (row place_size (place_start i) xs) ≡ get_or (contents_of xs).places i z
  unfolding contents_of
  place-loaded i z h = sym (table_at place_of place_size head_size (sizes_of xs).names i xs h) ∙ any-default (place_of []) z (contents_of xs).places i (rw places-length h)

  pub booking-loaded : (i : ℕ) (z : Booking) → i < (contents_of xs).sizes.reservations
      → booking_of (row booking_size (base_of (contents_of xs).sizes.names + booking_size * i) xs) ≡ get_or (contents_of xs).bookings i z
  unfolding contents_of
  booking-loaded i z h =
      sym (table_at booking_of booking_size (base_of (sizes_of xs).names) (sizes_of xs).reservations i xs h)
      ∙ any-default (booking_of []) z (contents_of xs).bookings i (rw bookings-length h)

  -- two bytes hold an owner
  pub owner-fits : Sized xs → All IsByte xs → (i : ℕ) (z : Booking) → i < (contents_of xs).sizes.reservations → (get_or (contents_of xs).bookings i z).owner < 2 ^ 16
  owner-fits s a i z h =
      let r = sized-by xs s in
      let from = base_of (contents_of xs).sizes.names + booking_size * i in
      let fits = booking-fits (row booking_size from xs) (row-bytes booking_size from xs a) (row-length booking_size from xs (omega arith)) in
      subst (λ b. b.owner < 2 ^ 16) (booking-loaded i z h) fits.owner

-- ── stores ─────────────────────────────────────────────────────────────────────────────────────

held : (xs : List ℕ) (s : Sizes) (h : Head) (ps : List Place) (bs : List Booking) → Holds s.names (base_of s.names) s.reservations xs s h ps bs → contents_of xs ≡ contents s h ps bs
unfolding contents_of
held xs s h ps bs k =
    ap (λ (t : Sizes). contents t (head_of xs) (places t.names xs) (bookings (base_of t.names) t.reservations xs)) k.sizes
    ∙ (λ j. contents s (k.head j) (k.places j) (k.bookings j))

module _ (xs ys : List ℕ) (s : Sized xs) where
  abbrev names : ℕ
  names = (sizes_of xs).names

  abbrev reservations : ℕ
  reservations = (sizes_of xs).reservations

  leaves : (b k : ℕ) (w : List ℕ) (t : Sizes) (h : Head) (ps : List Place) (bs : List Booking) → b + k ≤ length xs → length w ≡ k
      → Holds t.names (base_of t.names) t.reservations (put b k xs w) t h ps bs → ys ≡ put b k xs w → (length ys ≡ length xs) × (contents_of ys ≡ contents t h ps bs)
  leaves b k w t h ps bs fits l holds e = rw e (put-length b k xs w fits l, held (put b k xs w) t h ps bs holds)

  pub head-put : (h : Head) → HeadFits h → ys ≡ put ledger_head_offset ledger_head_size xs (head_bytes h) → Becomes (with_head h) xs ys
  unfolding contents_of
  head-put h f =
      leaves ledger_head_offset ledger_head_size (head_bytes h) _ _ _ _ (omega (arith, s.size)) (head-length h)
      (head-stored names (base_of names) reservations xs (omega arith) (omega (arith, s.size)) h f)

  pub counts-put : (used live : ℕ) → used < 2 ^ 64 → live < 2 ^ 64 → ys ≡ put counts_offset pair_size xs (pair_bytes used live) → Becomes (on_counts used live) xs ys
  unfolding contents_of
  counts-put used live f g =
      leaves counts_offset pair_size (pair_bytes used live) _ _ _ _ (omega (arith, s.size)) (pair-length used live)
      (counts-stored names (base_of names) reservations xs (omega arith) (omega (arith, s.size)) used live f g)

  pub place-put : (i : ℕ) (p : Place) → i < (contents_of xs).sizes.names → PlaceFits p → ys ≡ put (place_start i) place_size xs (place_bytes p) → Becomes (with_place i p) xs ys
  unfolding contents_of
  place-put i p h f =
      leaves (place_start i) place_size (place_bytes p) _ _ _ _ (omega (arith, s.size)) (place-length p f.name_bytes)
      (place-stored names (base_of names) reservations xs (omega arith) (omega (arith, s.size)) i p h f)

  pub booking-put : (i : ℕ) (b : Booking) → i < (contents_of xs).sizes.reservations → BookingFits b
      → ys ≡ put (base_of (contents_of xs).sizes.names + booking_size * i) booking_size xs (booking_bytes b) → Becomes (with_booking i b) xs ys
  unfolding contents_of
  booking-put i b h f =
      leaves (base_of names + booking_size * i) booking_size (booking_bytes b) _ _ _ _ (omega (arith, s.size)) (booking-length b)
      (booking-stored names (base_of names) reservations xs (omega arith) (omega (arith, s.size)) i b h f)

  -- the bytes of later bookings moved one booking nearer
  pub bookings-moved : (i c n : ℕ) (z : Booking) → suc (i + c) ≡ n → n ≤ (contents_of xs).sizes.reservations
      → ys ≡ put (base_of (contents_of xs).sizes.names + booking_size * i) (booking_size * c) xs (row (booking_size * c) (base_of (contents_of xs).sizes.names + booking_size * suc i) xs)
      → Becomes (on_bookings (moved_down i n z)) xs ys
  unfolding contents_of
  bookings-moved i c n z e h =
      let from = base_of names + booking_size * i in
      let w = row (booking_size * c) (base_of names + booking_size * suc i) xs in
      let fits : from + booking_size * c ≤ length xs = omega (arith, s.size) in
      let l : length w ≡ booking_size * c = row-length (booking_size * c) (base_of names + booking_size * suc i) xs (omega (arith, s.size)) in
      leaves from (booking_size * c) w _ _ _ _ fits l
      (record {
        sizes = sizes-apart from (booking_size * c) xs w fits l (inl (omega arith)) (inl (omega arith));
        head = head_apart from (booking_size * c) xs w fits l (inl (omega arith));
        places = table-apart place_of place_size head_size names from (booking_size * c) xs w fits l (inl (omega arith));
        bookings = gap-closed booking_of booking_size (base_of names) reservations xs i c (omega arith) (omega (arith, s.size)) z
            ∙ ap (λ m. moved_down i m z (bookings (base_of names) reservations xs)) e;
      })

-- the counts last
pub counted : (f h : Contents → Contents) (xs ys zs : List ℕ) (used live : ℕ) → Sized ys → Becomes f xs ys → (zs ≡ put counts_offset pair_size ys (pair_bytes used live)) × ((used < 2 ^ 64) × (live < 2 ^ 64))
    → on_counts used live (f (contents_of xs)) ≡ h (contents_of xs) → Becomes h xs zs
counted f h xs ys zs used live s b (stored, fits) e = follow f (on_counts used live) h xs ys zs b (counts-put ys zs s used live fits.0 fits.1 stored) e

-- places first, then bookings, then the counts
module _ (f : List Place → List Place) (xs ys : List ℕ) (s : Sized xs) (b : Becomes (on_places f) xs ys) where
  pub for-bookings : (t : Sizes) → Loaded xs t → Sized ys × (base_of t.names ≡ base_of (contents_of ys).sizes.names) × (t.live ≤ (contents_of ys).sizes.reservations)
  for-bookings t l =
      let e : (contents_of ys).sizes ≡ (contents_of xs).sizes = ap (λ c. c.sizes) b.1 in
      (stays (on_places f) xs ys (λ c. refl) s b, rw (e, l.names), rw e (omega arith))

  pub finished : (g : List Booking → List Booking) (h : Contents → Contents) (zs ws : List ℕ) (used live : ℕ) → Becomes (on_bookings g) ys zs
      → (ws ≡ put counts_offset pair_size zs (pair_bytes used live)) × ((used < 2 ^ 64) × (live < 2 ^ 64)) → on_counts used live (on_bookings g (on_places f (contents_of xs))) ≡ h (contents_of xs) → Becomes h xs ws
  finished g h zs ws used live a stored e =
      let both : Contents → Contents = λ c. on_bookings g (on_places f c) in
      let d = follow (on_places f) (on_bookings g) both xs ys zs b a refl in
      counted both h xs zs ws used live (stays both xs zs (λ c. refl) s d) d stored e

-- ── an entry of a table of which f was made so far is loaded, or replaced ───────────────────────

module _ (xs ys : List ℕ) (f : List Place → List Place) (b : Becomes (on_places f) xs ys) where
  pub place-replaced : (g : List Place → List Place) (zs : List ℕ) (to : ℕ) (p : Place) → Sized xs → to < (contents_of xs).sizes.names
      → (zs ≡ put (place_start to) place_size ys (place_bytes p)) × PlaceFits p → set (f (contents_of xs).places) to p ≡ g (contents_of xs).places → Becomes (on_places g) xs zs
  place-replaced g zs to p s h (stored, fits) turn =
      let again = stays (on_places f) xs ys (λ c. refl) s b in
      follow (on_places f) (with_place to p) (on_places g) xs ys zs b (place-put ys zs again to p (rw b.1 h) fits stored) (ap (λ ps. on_places (λ _. ps) (contents_of xs)) turn)

  pub place-moved : (g : List Place → List Place) (zs : List ℕ) (from to : ℕ) (z p : Place) → Sized xs → from < (contents_of xs).sizes.names → to < (contents_of xs).sizes.names
      → p ≡ place_of (row place_size (place_start from) ys) → (zs ≡ put (place_start to) place_size ys (place_bytes p)) × PlaceFits p
      → set (f (contents_of xs).places) to (get_or (f (contents_of xs).places) from z) ≡ g (contents_of xs).places → Becomes (on_places g) xs zs
  place-moved g zs from to z p s h k e stored turn =
      let read : p ≡ get_or (f (contents_of xs).places) from z = e ∙ place-loaded ys from z (rw b.1 h) ∙ ap (λ c. get_or c.places from z) b.1 in
      place-replaced g zs to p s k stored (ap (set (f (contents_of xs).places) to) read ∙ turn)

module _ (xs ys : List ℕ) (f : List Booking → List Booking) (b : Becomes (on_bookings f) xs ys) (base : ℕ) (at : base ≡ base_of (contents_of xs).sizes.names) where
  still-at : base ≡ base_of (contents_of ys).sizes.names
  still-at = at ∙ sym (ap (λ c. base_of c.sizes.names) b.1)

  booking-read : (from : ℕ) (z k : Booking) → from < (contents_of xs).sizes.reservations → k ≡ booking_of (row booking_size (base + booking_size * from) ys) → k ≡ get_or (f (contents_of xs).bookings) from z
  booking-read from z k h e =
      e ∙ ap (λ n. booking_of (row booking_size (n + booking_size * from) ys)) still-at ∙ booking-loaded ys from z (rw b.1 h) ∙ ap (λ c. get_or c.bookings from z) b.1

  pub booking-replaced : (g : List Booking → List Booking) (zs : List ℕ) (to : ℕ) (k : Booking) → Sized xs → to < (contents_of xs).sizes.reservations
      → (zs ≡ put (base + booking_size * to) booking_size ys (booking_bytes k)) × BookingFits k → set (f (contents_of xs).bookings) to k ≡ g (contents_of xs).bookings → Becomes (on_bookings g) xs zs
  booking-replaced g zs to k s h (stored, fits) turn =
      let again = stays (on_bookings f) xs ys (λ c. refl) s b in
      let e = stored ∙ ap (λ n. put (n + booking_size * to) booking_size ys (booking_bytes k)) still-at in
      follow (on_bookings f) (with_booking to k) (on_bookings g) xs ys zs b (booking-put ys zs again to k (rw b.1 h) fits e) (ap (λ bs. on_bookings (λ _. bs) (contents_of xs)) turn)

-- a booking is stored again only where it changes
module _ (xs ys : List ℕ) (f : Booking → Booking) (j : ℕ) (b : Becomes (on_bookings (renumbered f j)) xs ys) (z : Booking) (h : j < (contents_of xs).sizes.reservations) where
  within : j < length (contents_of xs).bookings
  within = rw bookings-length h

  module _ (base : ℕ) (at : base ≡ base_of (contents_of xs).sizes.names) where
    pub owner-read : (k : Booking) → k ≡ booking_of (row booking_size (base + booking_size * j) ys) → k ≡ get_or (contents_of xs).bookings j z
    owner-read k e = booking-read xs ys (renumbered f j) b base at j z k h e ∙ renumbered-read f j z (contents_of xs).bookings within

    pub owner-stored : (zs : List ℕ) (k : Booking) → Sized xs → (zs ≡ put (base + booking_size * j) booking_size ys (booking_bytes k)) × BookingFits k
        → k ≡ f (get_or (contents_of xs).bookings j z) → Becomes (on_bookings (renumbered f (j + 1))) xs zs
    owner-stored zs k s stored e =
        let bs = (contents_of xs).bookings in
        booking-replaced xs ys (renumbered f j) b base at (renumbered f (j + 1)) zs j k s h stored (ap (set (renumbered f j bs) j) e ∙ renumbered-turn f j z bs within)

  pub owner-kept : f (get_or (contents_of xs).bookings j z) ≡ get_or (contents_of xs).bookings j z → Becomes (on_bookings (renumbered f (j + 1))) xs ys
  owner-kept e = (b.0, b.1 ∙ ap (λ bs. on_bookings (λ _. bs) (contents_of xs)) (renumbered-kept f j z (contents_of xs).bookings within e))
