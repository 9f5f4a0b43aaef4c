-- What the parts of the check leave to each other.
use Rattle.std.specs.Prelude.{◌≡◌, Bool, true, false, List, map, ℕ, ◌-◌, ◌<◌, get_or, take}
use Rattle.rules.specs.Lists.{sum, All}
use Rattle.records.specs.Layout.{place_start, place_size}
use Rattle.records.specs.Rows.{row}
use Rattle.records.specs.Records.{place_of, places}
use Rattle.records.specs.declared.Place.{Place}
use Rattle.records.specs.declared.Booking.{Booking}
use Rattle.room.specs.Contents.{NameBefore}
use Rattle.soundness.specs.Facts.{BookingSound, BookingsSound, share_of}

-- an answer that leaves a question: where it is true, something holds exactly if what is left holds
pub record Leaves (P Q : Type 0) (r : Bool) : Type 0 where
  pub suffices : r ≡ true → Q → P
  pub needed : r ≡ true → P → Q
  pub fails : r ≡ false → P → ⊥

abbrev pub ZeroBelow : (n : ℕ) → List ℕ → Type 0
ZeroBelow n xs = (i : ℕ) → i < n → get_or xs i 0 ≡ 0

abbrev pub place_at : (i : ℕ) → List ℕ → Place
place_at i xs = place_of (row place_size (place_start i) xs)

-- the name at i comes after the one before it, where there is one
abbrev pub NameFollows : (i : ℕ) → List ℕ → Type 0
NameFollows i xs = 0 < i → NameBefore (place_at (i - 1) xs) (place_at i xs)

-- an array that holds what each of the first places has reserved
abbrev pub Noted : (used : ℕ) → (room reserved : List ℕ) → Type 0
Noted used room reserved = take used reserved ≡ map (λ p. p.reserved) (places used room)

-- a booking that may follow one of this id
abbrev pub Follows : (last next used : ℕ) → Booking → Type 0
Follows last next used b = (last < b.id.0) × BookingSound next used b

-- bookings that may follow one of this id, and that add up to what each place has reserved
pub record Booked (last next used : ℕ) (reserved : List ℕ) (bs : List Booking) : Type 0 where
  pub sound : BookingsSound next used bs
  pub after : All (λ b. last < b.id.0) bs
  pub sums : (i : ℕ) → i < used → get_or reserved i 0 ≡ sum (share_of i) bs
