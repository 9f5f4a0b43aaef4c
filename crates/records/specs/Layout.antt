-- The room's layout, each number of it once: the widths of the fields, where each field starts, and the size of each record. records/src has the
-- same as constants; where the two differ, no proof of that crate closes. Every byte belongs to a field, so that a room that decodes to the same
-- records is the same bytes.
--   the head     T, R; next id, last version, baseline; names in use, live bookings
--   T places     initial, remaining, reserved, committed, limit; account flag, name length; name bytes
--   R bookings   id, amount; the number of its airline's place
use Rattle.std.specs.Prelude.{List, [], ◌∷◌, ℕ, zero, suc, ◌+◌, ◌*◌}
use Rattle.rules.specs.RoomAndSoundLedger.{longest_name}

abbrev pub total : List ℕ → ℕ
total [] = 0
total (k ∷ ks) = k + total ks

-- where the field of this number starts, the first one being 0
abbrev pub start_of : ℕ → (widths : List ℕ) → ℕ
start_of zero ks = 0
start_of (suc i) [] = 0
start_of (suc i) (k ∷ ks) = k + start_of i ks

-- ── the head: the ledger's head between two pairs of sizes ─────────────────────────────────────

abbrev pub pair_widths : List ℕ
pair_widths = 8 ∷ 8 ∷ []

abbrev pub pair_size : ℕ
pair_size = total pair_widths

abbrev pub head_widths : List ℕ
head_widths = 8 ∷ 8 ∷ 8 ∷ []

abbrev pub ledger_head_size : ℕ
ledger_head_size = total head_widths

-- T and R
abbrev pub capacity_offset : ℕ
capacity_offset = 0

abbrev pub reservations_offset : ℕ
reservations_offset = capacity_offset + start_of 1 pair_widths

abbrev pub ledger_head_offset : ℕ
ledger_head_offset = capacity_offset + pair_size

abbrev pub last_version_offset : ℕ
last_version_offset = ledger_head_offset + start_of 1 head_widths

abbrev pub baseline_offset : ℕ
baseline_offset = ledger_head_offset + start_of 2 head_widths

-- names in use and live bookings
abbrev pub counts_offset : ℕ
counts_offset = ledger_head_offset + ledger_head_size

abbrev pub live_offset : ℕ
live_offset = counts_offset + start_of 1 pair_widths

abbrev pub head_size : ℕ
head_size = counts_offset + pair_size

-- ── a place ────────────────────────────────────────────────────────────────────────────────────

abbrev pub place_widths : List ℕ
place_widths = 8 ∷ 8 ∷ 8 ∷ 8 ∷ 8 ∷ 1 ∷ 1 ∷ []

abbrev pub remaining_offset : ℕ
remaining_offset = start_of 1 place_widths

abbrev pub reserved_offset : ℕ
reserved_offset = start_of 2 place_widths

abbrev pub committed_offset : ℕ
committed_offset = start_of 3 place_widths

abbrev pub limit_offset : ℕ
limit_offset = start_of 4 place_widths

abbrev pub account_offset : ℕ
account_offset = start_of 5 place_widths

-- a name is its length, then its bytes
abbrev pub name_offset : ℕ
name_offset = start_of 6 place_widths

abbrev pub name_bytes_offset : ℕ
name_bytes_offset = total place_widths

abbrev pub place_size : ℕ
place_size = name_bytes_offset + longest_name

-- place i, its name and its name's bytes, from the start of the room
abbrev pub place_start : (i : ℕ) → ℕ
place_start i = head_size + place_size * i

abbrev pub first_name : ℕ
first_name = head_size + name_offset

abbrev pub name_start : (i : ℕ) → ℕ
name_start i = first_name + place_size * i

abbrev pub first_name_bytes : ℕ
first_name_bytes = head_size + name_bytes_offset

abbrev pub name_bytes_start : (i : ℕ) → ℕ
name_bytes_start i = first_name_bytes + place_size * i

-- ── a booking ──────────────────────────────────────────────────────────────────────────────────

abbrev pub booking_widths : List ℕ
booking_widths = 8 ∷ 8 ∷ 2 ∷ []

abbrev pub amount_offset : ℕ
amount_offset = start_of 1 booking_widths

abbrev pub owner_offset : ℕ
owner_offset = start_of 2 booking_widths

abbrev pub booking_size : ℕ
booking_size = total booking_widths
