-- The records of a room: each as it is read from its bytes, as its bytes, and what fits them. specs/Layout.antt says where each field stands.
use Rattle.std.specs.Prelude.{◌≡◌, List, [], ◌∷◌, ◌++◌, ℕ, ◌^◌, ◌<◌, length}
use Rattle.rules.specs.RoomAndSoundLedger.{longest_name}
use Rattle.numbers.specs.LittleEndian.{little_number}
use Rattle.records.specs.declared.Place.{Place}
use Rattle.records.specs.declared.Booking.{Booking}
use Rattle.records.specs.declared.Head.{Head}
use Rattle.records.specs.declared.Sizes.{Sizes}
use Rattle.records.specs.Rows.{row, table, field_bytes}
use Rattle.records.specs.Layout.{pair_widths, head_widths, capacity_offset, reservations_offset, ledger_head_offset, last_version_offset, baseline_offset, counts_offset, live_offset, head_size, place_widths, remaining_offset, reserved_offset, committed_offset, limit_offset, account_offset, name_offset, name_bytes_offset, place_size, booking_widths, amount_offset, owner_offset, booking_size}

-- ── a place ────────────────────────────────────────────────────────────────────────────────────

abbrev pub place_of : List ℕ → Place
place_of w =
    record {
      initial = little_number (row 8 0 w);
      remaining = little_number (row 8 remaining_offset w);
      reserved = little_number (row 8 reserved_offset w);
      committed = little_number (row 8 committed_offset w);
      limit = little_number (row 8 limit_offset w);
      account = little_number (row 1 account_offset w);
      name = record { length = little_number (row 1 name_offset w); bytes = row longest_name name_bytes_offset w };
    }

abbrev pub place_numbers : Place → List ℕ
place_numbers p = p.initial ∷ p.remaining ∷ p.reserved ∷ p.committed ∷ p.limit ∷ p.account ∷ p.name.length ∷ []

abbrev pub place_bytes : Place → List ℕ
place_bytes p = field_bytes place_widths (place_numbers p) ++ p.name.bytes

pub record PlaceFits (p : Place) : Type 0 where
  pub initial : p.initial < 2 ^ 64
  pub remaining : p.remaining < 2 ^ 64
  pub reserved : p.reserved < 2 ^ 64
  pub committed : p.committed < 2 ^ 64
  pub limit : p.limit < 2 ^ 64
  pub account : p.account < 2 ^ 8
  pub name_length : p.name.length < 2 ^ 8
  pub name_bytes : length p.name.bytes ≡ longest_name

-- ── a booking ──────────────────────────────────────────────────────────────────────────────────

abbrev pub booking : (id amount owner : ℕ) → Booking
booking id amount owner = record { id = record { 0 = id }; amount = record { 0 = amount }; owner = owner }

abbrev pub booking_of : List ℕ → Booking
booking_of w = booking (little_number (row 8 0 w)) (little_number (row 8 amount_offset w)) (little_number (row 2 owner_offset w))

abbrev pub booking_numbers : Booking → List ℕ
booking_numbers b = b.id.0 ∷ b.amount.0 ∷ b.owner ∷ []

abbrev pub booking_bytes : Booking → List ℕ
booking_bytes b = field_bytes booking_widths (booking_numbers b)

pub record BookingFits (b : Booking) : Type 0 where
  pub id : b.id.0 < 2 ^ 64
  pub amount : b.amount.0 < 2 ^ 64
  pub owner : b.owner < 2 ^ 16

-- ── the head ───────────────────────────────────────────────────────────────────────────────────

abbrev pub head_of : List ℕ → Head
head_of xs =
    record {
      next_id = little_number (row 8 ledger_head_offset xs);
      last_version = little_number (row 8 last_version_offset xs);
      baseline = little_number (row 8 baseline_offset xs);
    }

abbrev pub head_numbers : Head → List ℕ
head_numbers h = h.next_id ∷ h.last_version ∷ h.baseline ∷ []

abbrev pub head_bytes : Head → List ℕ
head_bytes h = field_bytes head_widths (head_numbers h)

pub record HeadFits (h : Head) : Type 0 where
  pub next_id : h.next_id < 2 ^ 64
  pub last_version : h.last_version < 2 ^ 64
  pub baseline : h.baseline < 2 ^ 64

-- ── the sizes, two pairs around the head ───────────────────────────────────────────────────────

abbrev pub sizes_of : List ℕ → Sizes
sizes_of xs =
    record {
      names = little_number (row 8 capacity_offset xs);
      reservations = little_number (row 8 reservations_offset xs);
      used = little_number (row 8 counts_offset xs);
      live = little_number (row 8 live_offset xs);
    }

abbrev pub pair_bytes : ℕ → ℕ → List ℕ
pair_bytes a b = field_bytes pair_widths (a ∷ b ∷ [])

pub record SizesFit (s : Sizes) : Type 0 where
  pub names : s.names < 2 ^ 64
  pub reservations : s.reservations < 2 ^ 64
  pub used : s.used < 2 ^ 64
  pub live : s.live < 2 ^ 64

-- ── the tables ─────────────────────────────────────────────────────────────────────────────────

abbrev pub places : ℕ → List ℕ → List Place
places t = table place_of place_size head_size t

abbrev pub bookings : (base r : ℕ) → List ℕ → List Booking
bookings base r = table booking_of booking_size base r
