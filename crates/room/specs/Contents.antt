-- The room as its sizes, its head, its T places and its R bookings, and what each step on the tables makes of them.
use Rattle.std.specs.Prelude.{◌≡◌, cond, List, [], ◌∷◌, ◌++◌, map, leb, ltb, eqb, length, take, drop, set, Option, Some, None, option_map}
use Prim.Native.Nat.{ℕ, suc, pred, ◌+◌, ◌*◌, ◌≤◌, Ordering, ◌<◌}
use Rattle.rules.specs.RoomAndSoundLedger.{Name, order, same, most_names, most_reservations}
use Rattle.rules.specs.Lists.{All, Pairwise}
use Rattle.names.specs.Names.{spelled, stored, IsStored}
use Rattle.records.specs.Layout.{place_start, booking_size}
use Rattle.records.specs.Records.{booking, sizes_of, head_of, places, bookings}
use Rattle.records.specs.declared.Place.{Place}
use Rattle.records.specs.declared.Booking.{Booking}
use Rattle.records.specs.declared.Head.{Head}
use Rattle.records.specs.declared.Sizes.{Sizes}

pub record Contents : Type 0 where
  pub sizes : Sizes
  pub head : Head
  pub places : List Place
  pub bookings : List Booking

abbrev pub contents : Sizes → Head → List Place → List Booking → Contents
contents s h ps bs = record { sizes = s; head = h; places = ps; bookings = bs }

-- where the bookings start
abbrev pub base_of : (t : ℕ) → ℕ
base_of t = place_start t

abbrev pub room_size : (t r : ℕ) → ℕ
room_size t r = base_of t + booking_size * r

unfoldable pub contents_of : List ℕ → Contents
contents_of xs = let s : Sizes = sizes_of xs in contents s (head_of xs) (places s.names xs) (bookings (base_of s.names) s.reservations xs)

-- a room of the size that its sizes ask for, in which no more is in use than there is room for
pub record Sized (xs : List ℕ) : Type 0 where
  pub names : (sizes_of xs).names ≤ most_names
  pub reservations : (sizes_of xs).reservations ≤ most_reservations
  pub size : length xs ≡ room_size (sizes_of xs).names (sizes_of xs).reservations
  pub used : (sizes_of xs).used ≤ (sizes_of xs).names
  pub live : (sizes_of xs).live ≤ (sizes_of xs).reservations

-- ── what is found in the tables ────────────────────────────────────────────────────────────────

abbrev pub used_places : Contents → List Place
used_places c = take c.sizes.used c.places

abbrev pub live_bookings : Contents → List Booking
live_bookings c = take c.sizes.live c.bookings

-- the names that two places spell stand in this order
abbrev pub NameBefore : Place → Place → Type 0
NameBefore p q = order (spelled p.name) (spelled q.name) ≡ Ordering.lt

-- what a look-up asks of a room, and all that it may lean on: the tables lie within it, names are in their stored form and ascend, ids ascend
pub record Searchable (xs : List ℕ) : Type 0 where
  pub sized : Sized xs
  pub names_stored : All (λ p. IsStored p.name) (used_places (contents_of xs))
  pub names_ascend : Pairwise NameBefore (used_places (contents_of xs))
  pub ids_ascend : Pairwise (λ b c. b.id.0 < c.id.0) (live_bookings (contents_of xs))

-- the place of a name, or that it is absent
unfoldable pub place_of_name : Name → List Place → Option ℕ
place_of_name a [] = None
place_of_name a (p ∷ ps) = cond (same a (spelled p.name)) (Some 0) (option_map suc (place_of_name a ps))

abbrev pub goes_behind : Ordering → ℕ → ℕ
goes_behind Ordering.lt n = suc n
goes_behind Ordering.eq n = 0
goes_behind Ordering.gt n = 0

-- where a new name goes: behind the names that come before it
unfoldable pub place_for_name : Name → List Place → ℕ
place_for_name a [] = 0
place_for_name a (p ∷ ps) = goes_behind (order (spelled p.name) a) (place_for_name a ps)

unfoldable pub booking_of_id : ℕ → List Booking → Option ℕ
booking_of_id i [] = None
booking_of_id i (b ∷ bs) = cond (eqb i b.id.0) (Some 0) (option_map suc (booking_of_id i bs))

-- ── what the steps make of the tables ──────────────────────────────────────────────────────────

abbrev pub empty_place : Place
empty_place = record { initial = 0; remaining = 0; reserved = 0; committed = 0; limit = 0; account = 0; name = stored [] }

abbrev pub empty_booking : Booking
empty_booking = booking 0 0 0

abbrev pub with_counts : (used live : ℕ) → Sizes → Sizes
with_counts used live s = record { names = s.names; reservations = s.reservations; used = used; live = live }

abbrev pub with_head : Head → Contents → Contents
with_head h c = contents c.sizes h c.places c.bookings

abbrev pub with_place : ℕ → Place → Contents → Contents
with_place i p c = contents c.sizes c.head (set c.places i p) c.bookings

-- an entry put in at i among the first n, the later ones one further
unfoldable pub opened : {A : Type 0} → (i n : ℕ) → A → List A → List A
opened i n x xs = take i xs ++ (x ∷ (drop i (take n xs) ++ drop (suc n) xs))

-- the entry at i of the first n taken out, the later ones one nearer, the last one empty
unfoldable pub closed : {A : Type 0} → (i n : ℕ) → A → List A → List A
closed i n empty xs = take i xs ++ (drop (suc i) (take n xs) ++ (empty ∷ drop n xs))

abbrev pub with_owner : ℕ → Booking → Booking
with_owner n b = record { id = b.id; amount = b.amount; owner = n }

-- owners from i on get the next number
abbrev pub raised : ℕ → Booking → Booking
raised i b = with_owner (cond (leb i b.owner) (suc b.owner) b.owner) b

-- owners behind i get the number before
abbrev pub lowered : ℕ → Booking → Booking
lowered i b = with_owner (cond (ltb i b.owner) (pred b.owner) b.owner) b

-- the live bookings with their owners renumbered
unfoldable pub renumbered : (Booking → Booking) → (live : ℕ) → List Booking → List Booking
renumbered f live bs = map f (take live bs) ++ drop live bs

unfoldable pub inserted_place : ℕ → Place → Contents → Contents
inserted_place i p c =
    let s : Sizes = c.sizes in
    contents (with_counts (suc s.used) s.live s) c.head (opened i s.used p c.places) (renumbered (raised i) s.live c.bookings)

unfoldable pub freed_place : ℕ → Contents → Contents
freed_place i c =
    let s : Sizes = c.sizes in
    contents (with_counts (pred s.used) s.live s) c.head (closed i s.used empty_place c.places) (renumbered (lowered i) s.live c.bookings)

unfoldable pub appended_booking : Booking → Contents → Contents
appended_booking b c =
    let s : Sizes = c.sizes in
    contents (with_counts s.used (suc s.live) s) c.head c.places (set c.bookings s.live b)

unfoldable pub removed_booking : ℕ → Contents → Contents
removed_booking i c =
    let s : Sizes = c.sizes in
    contents (with_counts s.used (pred s.live) s) c.head c.places (closed i s.live empty_booking c.bookings)
