-- What the check asks of a room, record by record. That these are just the rooms of sound ledgers is a theorem (proofs/Sound.antt).
use Rattle.std.specs.Prelude.{◌≡◌, ◌⊎◌, ◌≢◌, Bool, true, false, cond, List, ℕ, ◌-◌, ◌≤◌, ◌<◌, eqb, length, get_or, drop, replicate, Result, MatchResult}
use Rattle.rules.specs.Lists.{sum, All, Pairwise}
use Rattle.rules.specs.RoomAndSoundLedger.{M, is_vacant, InRange, has_tag, fence_of, most_names, most_reservations}
use Rattle.names.specs.Names.{IsStored}
use Rattle.moves.specs.Moves.{meaning, SeatSound}
use Rattle.records.specs.Layout.{head_size}
use Rattle.records.specs.Records.{sizes_of, head_of}
use Rattle.records.specs.declared.Place.{Place}
use Rattle.records.specs.declared.Booking.{Booking}
use Rattle.records.specs.declared.Head.{Head}
use Rattle.records.specs.declared.Sizes.{Sizes}
use Rattle.room.specs.Contents.{Contents, contents_of, room_size, used_places, live_bookings, empty_place, empty_booking, NameBefore}
use Rattle.room.specs.Seats.{seat_of_place}
use Rattle.room.specs.Room.{SoundRoom}
use Rattle.refusals.specs.declared.Refusal.{Refusal}
use Rattle.refusals.specs.declared.Refusal.TheVariants.{UnsoundLedger}

-- an answer of a check that says exactly whether something holds
pub record Decides (P : Type 0) (r : Bool) : Type 0 where
  pub holds : r ≡ true → P
  pub fails : r ≡ false → P → ⊥

pub record SizesSound (s : Sizes) (bytes : ℕ) : Type 0 where
  pub names : InRange 1 most_names s.names
  pub reservations : InRange 1 most_reservations s.reservations
  pub used : s.used ≤ s.names
  pub live : s.live ≤ s.reservations
  pub size : bytes ≡ room_size s.names s.reservations

abbrev pub VersionSound : ℕ → Type 0
VersionSound v = (v ≡ 0) ⊎ ((has_tag v ≡ true) × (fence_of v ≢ 0))

pub record HeadSound (h : Head) : Type 0 where
  pub next_id : InRange 1 M h.next_id
  pub last_version : VersionSound h.last_version
  pub baseline : h.baseline ≤ M

pub record PlaceSound (p : Place) : Type 0 where
  pub name : IsStored p.name
  pub seat : SeatSound (seat_of_place p)
  pub held : is_vacant (meaning (seat_of_place p)) ≡ false

pub record PlacesSound (base : ℕ) (ps : List Place) : Type 0 where
  pub each : All PlaceSound ps
  pub ascend : Pairwise NameBefore ps
  pub baseline : base ≤ sum (λ p. p.committed) ps

pub record BookingSound (next used : ℕ) (b : Booking) : Type 0 where
  pub id : (1 ≤ b.id.0) × (b.id.0 < next)
  pub amount : 0 < b.amount.0
  pub owner : b.owner < used

-- what a booking reserves for the place of a number
abbrev pub share_of : ℕ → Booking → ℕ
share_of i b = cond (eqb i b.owner) b.amount.0 0

pub record BookingsSound (next used : ℕ) (bs : List Booking) : Type 0 where
  pub each : All (BookingSound next used) bs
  pub ascend : Pairwise (λ b c. b.id.0 < c.id.0) bs

-- document 01, Room and the sound ledger: what a place has reserved is what its bookings add up to
abbrev pub ReservedIsSum : (used : ℕ) → List Place → List Booking → Type 0
ReservedIsSum used ps bs = (i : ℕ) → i < used → (get_or ps i empty_place).reserved ≡ sum (share_of i) bs

pub record TablesSound (c : Contents) : Type 0 where
  pub places : PlacesSound c.head.baseline (used_places c)
  pub unused_places : drop c.sizes.used c.places ≡ replicate (c.sizes.names - c.sizes.used) empty_place
  pub bookings : BookingsSound c.head.next_id c.sizes.used (live_bookings c)
  pub reserved : ReservedIsSum c.sizes.used (used_places c) (live_bookings c)
  pub unused_bookings : drop c.sizes.live c.bookings ≡ replicate (c.sizes.reservations - c.sizes.live) empty_booking

pub record RoomFacts (xs : List ℕ) : Type 0 where
  pub long : head_size ≤ length xs
  pub sizes : SizesSound (sizes_of xs) (length xs)
  pub head : HeadSound (head_of xs)
  pub tables : TablesSound (contents_of xs)

-- memory that is no sound ledger's room is refused with 24, and no other
abbrev pub ExpectsSound : List ℕ → Result (Unit {0}) Refusal → Type 0
ExpectsSound xs r = MatchResult r (λ _. SoundRoom xs) (λ e. (e ≡ UnsoundLedger) × (SoundRoom xs → ⊥))
