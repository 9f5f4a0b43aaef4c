-- The contents between the first store of a step on the tables and its last.
use Rattle.std.specs.Prelude.{◌≡◌, List, ℕ, pred, ◌<◌, length, get_or, set}
use Rattle.records.specs.declared.Place.{Place}
use Rattle.records.specs.declared.Booking.{Booking}
use Rattle.room.specs.Contents.{Contents, contents, contents_of, with_counts, opened, closed}

-- a room of the same length whose contents are changed so
abbrev pub Becomes : (Contents → Contents) → (before after : List ℕ) → Type 0
Becomes f before after = (length after ≡ length before) × (contents_of after ≡ f (contents_of before))

abbrev pub on_places : (List Place → List Place) → Contents → Contents
on_places f c = contents c.sizes c.head (f c.places) c.bookings

abbrev pub on_bookings : (List Booking → List Booking) → Contents → Contents
on_bookings f c = contents c.sizes c.head c.places (f c.bookings)

abbrev pub with_booking : ℕ → Booking → Contents → Contents
with_booking i b = on_bookings (λ bs. set bs i b)

-- a booking whose owner, raised by one, still fits its two bytes
abbrev pub CanRise : Booking → Type 0
CanRise b = b.owner < 65535

abbrev pub on_counts : (used live : ℕ) → Contents → Contents
on_counts used live c = contents (with_counts used live c.sizes) c.head c.places c.bookings

-- the entries from i to n one further; what stood at i stands there still
abbrev pub moved_up : {A : Type 0} → (i n : ℕ) → A → List A → List A
moved_up i n other xs = opened i n (get_or xs i other) xs

-- the entries behind i, up to n, one nearer; what stood last stands there still
abbrev pub moved_down : {A : Type 0} → (i n : ℕ) → A → List A → List A
moved_down i n other xs = closed i n (get_or xs (pred n) other) xs
