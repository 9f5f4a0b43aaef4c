-- Each record and its bytes, there and back: its numbers by the laws of fields, a place's name bytes after them.
use mathlib.Core.Path.{◌≡◌, refl, sym, ap, ap₂, ◌∙◌}
use mathlib.Core.List.{List, [], ◌∷◌, ◌++◌, append-nil}
use Prim.Native.Nat.{ℕ, ◌+◌, ◌≤◌}
use native.Mathlib.Omega.{arith}
use lib.ListN.{length, get_or, take, length-append}
use lib.Seq.{take_all, drop_at}
use Rattle.rules.specs.Lists.{All}
use Rattle.rules.specs.RoomAndSoundLedger.{IsByte, longest_name}
use Rattle.records.specs.Layout.{ledger_head_offset, ledger_head_size, counts_offset, capacity_offset, pair_size, place_size, booking_size, head_size, name_bytes_offset, pair_widths, head_widths, place_widths, booking_widths}
use Rattle.records.specs.declared.Place.{Place}
use Rattle.records.specs.declared.Booking.{Booking}
use Rattle.records.specs.declared.Head.{Head}
use Rattle.records.specs.declared.Sizes.{Sizes}
use Rattle.records.specs.Rows.{row, field_bytes}
use Rattle.records.specs.Records.{place_of, place_numbers, place_bytes, PlaceFits, booking, booking_of, booking_numbers, booking_bytes, BookingFits, head_of, head_numbers, head_bytes, HeadFits, sizes_of, pair_bytes, SizesFit}
use Rattle.records.proofs.Rows.{row-length, row-join}
use Rattle.records.proofs.Fields.{Fit, fields, fields-length, fields_read, bytes-of-fields, fields_fit}

-- ── a place ────────────────────────────────────────────────────────────────────────────────────

pub place-fit : (p : Place) → PlaceFits p → Fit place_widths (place_numbers p)
place-fit p f = (f.initial, (f.remaining, (f.reserved, (f.committed, (f.limit, (f.account, (f.name_length, tt)))))))

pub place-length : (p : Place) → length p.name.bytes ≡ longest_name → length (place_bytes p) ≡ place_size
place-length p h = length-append (field_bytes place_widths (place_numbers p)) p.name.bytes ∙ ap₂ ◌+◌ (fields-length place_widths (place_numbers p) refl) h

place_from : (numbers bytes : List ℕ) → Place
place_from ns bytes =
    record {
      initial = get_or ns 0 0;
      remaining = get_or ns 1 0;
      reserved = get_or ns 2 0;
      committed = get_or ns 3 0;
      limit = get_or ns 4 0;
      account = get_or ns 5 0;
      name = record { length = get_or ns 6 0; bytes = bytes };
    }

pub place-of-bytes : (p : Place) → PlaceFits p → place_of (place_bytes p) ≡ p
unfolding place_from
place-of-bytes p f =
    let front = field_bytes place_widths (place_numbers p) in
    let bytes = p.name.bytes in
    let numbers = fields_read 0 place_widths (place_numbers p) (place_bytes p) bytes (place-fit p f) refl in
    let tail : row longest_name name_bytes_offset (place_bytes p) ≡ bytes = ap (take longest_name) (drop_at front bytes name_bytes_offset (fields-length place_widths (place_numbers p) refl)) ∙ take_all longest_name bytes (omega (arith, f.name_bytes)) in
    ap₂ place_from numbers tail

pub bytes-of-place : (w : List ℕ) → All IsByte w → length w ≡ place_size → place_bytes (place_of w) ≡ w
bytes-of-place w h l =
    ap (λ front. front ++ row longest_name name_bytes_offset w) (bytes-of-fields 0 place_widths w h (omega arith)) ∙ sym (row-join name_bytes_offset longest_name 0 w) ∙ take_all place_size w (omega arith)

pub place-fits : (w : List ℕ) → All IsByte w → length w ≡ place_size → PlaceFits (place_of w)
place-fits w h l =
    let f = fields_fit 0 place_widths w h (omega arith) in
    record {
      initial = f.0;
      remaining = f.1.0;
      reserved = f.1.1.0;
      committed = f.1.1.1.0;
      limit = f.1.1.1.1.0;
      account = f.1.1.1.1.1.0;
      name_length = f.1.1.1.1.1.1.0;
      name_bytes = row-length longest_name name_bytes_offset w (omega arith);
    }

-- ── a booking ──────────────────────────────────────────────────────────────────────────────────

pub booking-length : (b : Booking) → length (booking_bytes b) ≡ booking_size
booking-length b = fields-length booking_widths (booking_numbers b) refl

booking_from : List ℕ → Booking
booking_from ns = booking (get_or ns 0 0) (get_or ns 1 0) (get_or ns 2 0)

pub booking-of-bytes : (b : Booking) → BookingFits b → booking_of (booking_bytes b) ≡ b
unfolding booking_from
booking-of-bytes b f = ap booking_from (fields_read 0 booking_widths (booking_numbers b) (booking_bytes b) [] (f.id, (f.amount, (f.owner, tt))) (sym (append-nil (booking_bytes b))))

pub bytes-of-booking : (w : List ℕ) → All IsByte w → length w ≡ booking_size → booking_bytes (booking_of w) ≡ w
bytes-of-booking w h l = bytes-of-fields 0 booking_widths w h (omega arith) ∙ take_all booking_size w (omega arith)

pub booking-fits : (w : List ℕ) → All IsByte w → length w ≡ booking_size → BookingFits (booking_of w)
booking-fits w h l =
    let f = fields_fit 0 booking_widths w h (omega arith) in
    record { id = f.0; amount = f.1.0; owner = f.1.1.0 }

-- ── the head, and the sizes around it ──────────────────────────────────────────────────────────

pub head-length : (h : Head) → length (head_bytes h) ≡ ledger_head_size
head-length h = fields-length head_widths (head_numbers h) refl

pub pair-length : (a b : ℕ) → length (pair_bytes a b) ≡ pair_size
pair-length a b = fields-length pair_widths (a ∷ b ∷ []) refl

head_from : List ℕ → Head
head_from ns = record { next_id = get_or ns 0 0; last_version = get_or ns 1 0; baseline = get_or ns 2 0 }

sizes_from : (room counts : List ℕ) → Sizes
sizes_from ns ms = record { names = get_or ns 0 0; reservations = get_or ns 1 0; used = get_or ms 0 0; live = get_or ms 1 0 }

-- the head is its three numbers, the sizes are their two pairs
pub head-fields : (xs : List ℕ) (h : Head) → fields ledger_head_offset head_widths xs ≡ head_numbers h → head_of xs ≡ h
unfolding head_from
head-fields xs h e = ap head_from e

pub sizes-fields : (xs : List ℕ) (s : Sizes) → fields capacity_offset pair_widths xs ≡ s.names ∷ s.reservations ∷ [] → fields counts_offset pair_widths xs ≡ s.used ∷ s.live ∷ [] → sizes_of xs ≡ s
unfolding sizes_from
sizes-fields xs s e f = ap₂ sizes_from e f

pub bytes-of-head : (xs : List ℕ) → All IsByte xs → head_size ≤ length xs → head_bytes (head_of xs) ≡ row ledger_head_size ledger_head_offset xs
bytes-of-head xs h l = bytes-of-fields ledger_head_offset head_widths xs h (omega arith)

pub bytes-of-capacity : (xs : List ℕ) → All IsByte xs → head_size ≤ length xs → pair_bytes (sizes_of xs).names (sizes_of xs).reservations ≡ row pair_size capacity_offset xs
bytes-of-capacity xs h l = bytes-of-fields capacity_offset pair_widths xs h (omega arith)

pub bytes-of-counts : (xs : List ℕ) → All IsByte xs → head_size ≤ length xs → pair_bytes (sizes_of xs).used (sizes_of xs).live ≡ row pair_size counts_offset xs
bytes-of-counts xs h l = bytes-of-fields counts_offset pair_widths xs h (omega arith)

pub head-fits : (xs : List ℕ) → All IsByte xs → head_size ≤ length xs → HeadFits (head_of xs)
head-fits xs h l =
    let f = fields_fit ledger_head_offset head_widths xs h (omega arith) in
    record { next_id = f.0; last_version = f.1.0; baseline = f.1.1.0 }

pub sizes-fit : (xs : List ℕ) → All IsByte xs → head_size ≤ length xs → SizesFit (sizes_of xs)
sizes-fit xs h l =
    let f = fields_fit capacity_offset pair_widths xs h (omega arith) in
    let g = fields_fit counts_offset pair_widths xs h (omega arith) in
    record { names = f.0; reservations = f.1.0; used = g.0; live = g.1.0 }
