-- Document 01, section "Snapshots, migration, certificates".
use Rattle.std.specs.Prelude.{Bool, true, false, not, cond, ◌&&◌, ◌||◌, ℕ, zero, suc, ◌+◌, ◌-◌, ◌*◌, ◌/◌, ◌%◌, ◌^◌, min, leb, ltb, eqb, ℤ, pos, negsuc, ◌+ℤ◌, ◌-ℤ◌, length, take, drop}
use mathlib.Core.List.{List, [], ◌∷◌, ◌++◌, flat_map}
use Rattle.std.proofs.Math.Option.{Option, none, some}
use Rattle.std.specs.Int.Signed.{lt_z}
use Rattle.rules.specs.Lists.{any}
use Rattle.rules.specs.RoomAndSoundLedger.{M, Name, same, Account, Seat, seat, Place, Ledger, with_next_id, with_last_version, with_baseline, with_places, with_bookings, committed_total, has_tag, fence_of}
use Rattle.rules.specs.AnswerNumbers.{Value, Amount, Identifier, Version, Fence, Count, Field, YesOrNo, TheName, SnapshotBytes, Reply, done, remaining_field, initial_field, committed_field, version_field, Refusal, AllocatorExhausted, ActiveReservations, DuplicateTenant, GhostReservation, NegativeLedgerField, ConservationViolation, AggregateOverflow, AlreadyRecoveryAware, InvalidAllocatorFence, LegacySnapshotRequiresMigration, NameTooLong, NamesFull, OutputTooShort, reply_of, Outcome, outcome, refused}
use Rattle.rules.specs.AccountRules.{account, natural, put, drawn, is_too_long}

-- ── snapshot bytes ─────────────────────────────────────────────────────────────────────────────

pub record Row : Type 0 where
  pub name : Name
  pub initial : ℤ
  pub remaining : ℤ
  pub reserved : ℤ
  pub committed : ℤ

pub record Snapshot : Type 0 where
  pub version : ℕ
  pub active : ℕ
  pub rows : List Row

-- how many rows a snapshot has at most
abbrev pub most_rows : ℕ
most_rows = 256

-- a number in so many bytes, the high ones first, and back
unfoldable pub bytes_of : (size : ℕ) → ℕ → List ℕ
bytes_of zero n = []
bytes_of (suc size) n = bytes_of size (n / 256) ++ (n % 256 ∷ [])

unfoldable pub number_from : (so_far : ℕ) → List ℕ → ℕ
number_from so_far [] = so_far
number_from so_far (b ∷ bs) = number_from (so_far * 256 + b) bs

abbrev pub number_of : List ℕ → ℕ
number_of bs = number_from 0 bs

-- an amount as a word, and back
abbrev pub twos_complement : ℤ → ℕ
twos_complement (pos n) = n
twos_complement (negsuc n) = 2 ^ 64 - suc n

abbrev pub signed : ℕ → ℤ
signed w = cond (ltb w (2 ^ 63)) (pos w) (negsuc (2 ^ 64 - suc w))

abbrev pub amount_bytes : ℤ → List ℕ
amount_bytes z = bytes_of 8 (twos_complement z)

abbrev pub name_bytes : Name → List ℕ
name_bytes a = length a ∷ a

-- a row: the name, and the four amounts in the order of the record
unfoldable pub row_bytes : Row → List ℕ
row_bytes r = name_bytes r.name ++ amount_bytes r.initial ++ amount_bytes r.remaining ++ amount_bytes r.reserved ++ amount_bytes r.committed

-- version and active count in eight bytes each, how many rows in two, and the rows
unfoldable pub snapshot_bytes : Snapshot → List ℕ
snapshot_bytes s = bytes_of 8 s.version ++ bytes_of 8 s.active ++ bytes_of 2 (length s.rows) ++ flat_map row_bytes s.rows

-- Reading: what the bytes begin with, and the bytes after it; none where they end too early
pub record Reading (A : Type 0) : Type 0 where
  pub value : A
  pub rest : List ℕ

abbrev pub Reader : Type 0 → Type 0
Reader A = List ℕ → Option (Reading A)

abbrev pub reads : {A : Type 0} → A → Reader A
reads x bs = some (record { value = x; rest = bs })

abbrev pub go_on : {A B : Type 0} → Option (Reading A) → (A → Reader B) → Option (Reading B)
go_on none f = none
go_on (some r) f = f r.value r.rest

infixl 10 ◌>>=◌
abbrev pub ◌>>=◌ : {A B : Type 0} → Reader A → (A → Reader B) → Reader B
◌>>=◌ m f bs = go_on (m bs) f

unfoldable pub read_part : (size : ℕ) → Reader (List ℕ)
read_part size bs = cond (ltb (length bs) size) none (some (record { value = take size bs; rest = drop size bs }))

unfoldable pub read_number : (size : ℕ) → Reader ℕ
read_number size = do part ← read_part size; reads (number_of part)

unfoldable pub read_amount : Reader ℤ
read_amount = do word ← read_number 8; reads (signed word)

unfoldable pub read_name : Reader Name
read_name = do size ← read_number 1; read_part size

unfoldable pub read_row : Reader Row
read_row = do
  a ← read_name
  initial ← read_amount
  remaining ← read_amount
  reserved ← read_amount
  committed ← read_amount
  reads (record { name = a; initial = initial; remaining = remaining; reserved = reserved; committed = committed })

unfoldable pub read_rows : (count : ℕ) → Reader (List Row)
read_rows zero = reads []
read_rows (suc count) = do r ← read_row; rs ← read_rows count; reads (r ∷ rs)

unfoldable pub read_count : Reader ℕ
read_count = do count ← read_number 2; λ bs. cond (ltb most_rows count) none (reads count bs)

unfoldable pub read_snapshot : Reader Snapshot
read_snapshot = do
  version ← read_number 8
  active ← read_number 8
  count ← read_count
  rows ← read_rows count
  reads (record { version = version; active = active; rows = rows })

-- all the bytes, with none left over; none stands for 23
abbrev pub whole : {A : Type 0} → Option (Reading A) → Option A
whole none = none
whole (some r) = cond (eqb (length r.rest) 0) (some r.value) none

unfoldable pub snapshot_of_bytes : List ℕ → Option Snapshot
snapshot_of_bytes bs = whole (read_snapshot bs)

-- 19 on any operation that is handed a snapshot
unfoldable pub has_long_name : List Row → Bool
has_long_name = any (λ r. is_too_long r.name)

-- ── snapshot ───────────────────────────────────────────────────────────────────────────────────

abbrev pub row_of : Name → Account → Row
row_of a c = record { name = a; initial = pos c.initial; remaining = pos c.remaining; reserved = pos c.reserved; committed = pos c.committed }

abbrev pub row_at : Name → Option Account → List Row → List Row
row_at a none rs = rs
row_at a (some c) rs = row_of a c ∷ rs

-- ascending by name, as the places are
unfoldable pub account_rows : List Place → List Row
account_rows [] = []
account_rows (p ∷ ps) = row_at p.name p.seat.account (account_rows ps)

-- the version that carries a fence
abbrev pub tagged : ℕ → ℕ
tagged fence = 2 ^ 63 + fence

-- a snapshot draws an id; its version, kept as the last one, carries the id after that
abbrev pub after_snapshot : Ledger → Ledger
after_snapshot L = with_last_version (drawn L) (tagged (drawn L).next_id)

abbrev pub snapshot_of : Ledger → Snapshot
snapshot_of L = record { version = (after_snapshot L).last_version; active = length L.bookings; rows = account_rows L.places }

-- 9 for whatever takes a snapshot
unfoldable pub taking_snapshot : Ledger → Outcome → Outcome
taking_snapshot L taken = cond (eqb L.next_id M) (refused AllocatorExhausted L) taken

-- 22 for whatever hands out a snapshot's bytes
abbrev pub too_short_for : (output : ℕ) → Snapshot → Bool
too_short_for output s = ltb output (length (snapshot_bytes s))

-- The output room after an answer: the bytes of a snapshot stand at its front, and all behind them is as before; so is all where none is handed out
abbrev pub bytes_of_value : Value → List ℕ
bytes_of_value (Amount z) = []
bytes_of_value (Identifier n) = []
bytes_of_value (Version n) = []
bytes_of_value (Fence n) = []
bytes_of_value (Count n) = []
bytes_of_value (Field n) = []
bytes_of_value (YesOrNo b) = []
bytes_of_value (TheName a) = []
bytes_of_value (SnapshotBytes bs) = bs

-- an answer with a snapshot carries nothing else
abbrev pub handed_out : List Value → List ℕ
handed_out [] = []
handed_out (v ∷ []) = bytes_of_value v
handed_out (v ∷ w ∷ vs) = []

abbrev pub output_after : Reply → List ℕ → List ℕ
output_after r output = handed_out r.carried ++ drop (length (handed_out r.carried)) output

-- Rule "Snapshot": 9, then 22, else its bytes
unfoldable pub snapshot : (output : ℕ) → Ledger → Outcome
snapshot output L =
    taking_snapshot L
    (cond (too_short_for output (snapshot_of L)) (refused OutputTooShort L)
    (outcome (done (SnapshotBytes (snapshot_bytes (snapshot_of L)) ∷ [])) (after_snapshot L)))

-- ── checks in their order ──────────────────────────────────────────────────────────────────────

-- all checks pass
abbrev pub passes : Option Refusal
passes = none

-- a check that fails decides, and else what stands after it
infixr 5 ◌gives◌else◌
unfoldable pub ◌gives◌else◌ : Bool → Refusal → Option Refusal → Option Refusal
fails gives e else later = cond fails (some e) later

-- what was checked earlier decides, and then what is checked later
unfoldable pub and_then : Option Refusal → Option Refusal → Option Refusal
and_then (some e) later = some e
and_then none later = later

abbrev pub is_negative : ℤ → Bool
is_negative z = lt_z z (pos 0)

abbrev pub equals : ℤ → ℤ → Bool
equals (pos m) (pos n) = eqb m n
equals (pos m) (negsuc n) = false
equals (negsuc m) (pos n) = false
equals (negsuc m) (negsuc n) = eqb m n

-- as a signed 64-bit number
abbrev pub fits64 : ℤ → Bool
fits64 (pos n) = leb n M
fits64 (negsuc n) = leb n M

-- ── conservation ───────────────────────────────────────────────────────────────────────────────

-- Ledger validation, which the paper has before this, ends with conservation, so conservation is defined first.

-- Rule "Conservation of one row": a sum too large, a delta too large, the delta, a negative remaining
unfoldable pub row_conservation : Row → Option Refusal
row_conservation r =
    let exact : ℤ = r.remaining +ℤ r.reserved +ℤ r.committed in
    let delta : ℤ = exact -ℤ r.initial in
    let differs : Bool = not (equals exact r.initial) in
    not (fits64 exact) gives AggregateOverflow else
    (differs && not (fits64 delta)) gives AggregateOverflow else
    differs gives ConservationViolation r.name delta else
    is_negative r.remaining gives ConservationViolation r.name r.remaining else
    passes

-- by the first row that is bad
unfoldable pub conservation : List Row → Option Refusal
conservation [] = none
conservation (r ∷ rs) = and_then (row_conservation r) (conservation rs)

-- ── ledger validation ──────────────────────────────────────────────────────────────────────────

-- Rule "Ledger validation", for one row; `seen` are the names of the rows before it
unfoldable pub row_validation : (seen : List Name) → Row → Option Refusal
row_validation seen r =
    any (same r.name) seen gives DuplicateTenant r.name else
    not (equals r.reserved (pos 0)) gives GhostReservation r.name r.reserved else
    is_negative r.remaining gives NegativeLedgerField r.name remaining_field r.remaining else
    is_negative r.initial gives NegativeLedgerField r.name initial_field r.initial else
    is_negative r.committed gives NegativeLedgerField r.name committed_field r.committed else
    passes

unfoldable pub rows_validation : (seen : List Name) → List Row → Option Refusal
rows_validation seen [] = none
rows_validation seen (r ∷ rs) = and_then (row_validation seen r) (rows_validation (r.name ∷ seen) rs)

-- .. and for all: first 10, last conservation
unfoldable pub validation : Snapshot → Option Refusal
validation s =
    ltb 0 s.active gives ActiveReservations s.active else
    and_then (rows_validation [] s.rows) (conservation s.rows)

-- ── restore ────────────────────────────────────────────────────────────────────────────────────

-- Rule "Restore", of the version: 13 without its tag or without a fence, carrying no more than M
unfoldable pub restore_version : ℕ → Option Refusal
restore_version v = (not (has_tag v) || eqb (fence_of v) 0) gives NegativeLedgerField [] version_field (pos (min v M)) else passes

-- what the recovery form asks of it instead
unfoldable pub recovery_version : ℕ → Option Refusal
recovery_version v = not (has_tag v) gives LegacySnapshotRequiresMigration else eqb (fence_of v) 0 gives InvalidAllocatorFence 0 else passes

-- the rows as places, ascending by name and without limits
abbrev pub restored_seat : Row → Seat
restored_seat r = seat (account (natural r.initial) (natural r.remaining) 0 (natural r.committed)) 0

unfoldable pub restored_places : List Row → List Place
restored_places [] = []
restored_places (r ∷ rs) = put r.name (restored_seat r) (restored_places rs)

-- no booking is left, the ids go on at the fence, and what is committed counts as before the baseline
abbrev pub restored : Ledger → Snapshot → Ledger
restored L s =
    let ps : List Place = restored_places s.rows in
    let cleared : Ledger = with_bookings (with_places L ps) [] in
    with_baseline (with_last_version (with_next_id cleared (fence_of s.version)) s.version) (min (committed_total ps) M)

unfoldable pub or_else : Option Refusal → Ledger → Ledger → Outcome
or_else none L after = outcome (done []) after
or_else (some e) L after = refused e L

-- 19 first and 20 last, as everywhere
unfoldable pub restore_refusal : (of_version : Option Refusal) → (t : ℕ) → Snapshot → Option Refusal
restore_refusal of_version t s =
    has_long_name s.rows gives NameTooLong else
    and_then of_version
    (and_then (validation s)
    (ltb t (length s.rows) gives NamesFull else passes))

unfoldable pub restore : Ledger → Snapshot → Outcome
restore L s = or_else (restore_refusal (restore_version s.version) L.T s) L (restored L s)

unfoldable pub recovery_restore : Ledger → Snapshot → Outcome
recovery_restore L s = or_else (restore_refusal (recovery_version s.version) L.T s) L (restored L s)

-- ── without a ledger: migration, status, certificate of a snapshot ─────────────────────────────

unfoldable pub reply_or : Option Refusal → Reply → Reply
reply_or none r = r
reply_or (some e) r = reply_of e

abbrev pub with_version : ℕ → Snapshot → Snapshot
with_version v s = record { version = v; active = s.active; rows = s.rows }

-- Rule "Migration": a snapshot without a tag gets one, with this fence; 19 first and 22 last
unfoldable pub migrate : (output : ℕ) → (fence : ℕ) → Snapshot → Reply
migrate output fence s =
    let migrated : Snapshot = with_version (tagged fence) s in
    reply_or
    (has_long_name s.rows gives NameTooLong else
    has_tag s.version gives AlreadyRecoveryAware else
    (eqb fence 0 || ltb M fence) gives InvalidAllocatorFence fence else
    and_then (validation s)
    (too_short_for output migrated gives OutputTooShort else passes))
    (done (SnapshotBytes (snapshot_bytes migrated) ∷ []))

-- conservation status of a supplied snapshot
unfoldable pub status : Snapshot → Reply
status s = reply_or (has_long_name s.rows gives NameTooLong else conservation s.rows) (done [])

unfoldable pub exact_total : (Row → ℤ) → List Row → ℤ
exact_total of [] = pos 0
exact_total of (r ∷ rs) = of r +ℤ exact_total of rs

abbrev pub initial_total : List Row → ℤ
initial_total rs = exact_total (λ r. r.initial) rs

abbrev pub committed_rows_total : List Row → ℤ
committed_rows_total rs = exact_total (λ r. r.committed) rs

abbrev pub totals_fit : List Row → Bool
totals_fit rs = fits64 (initial_total rs) && fits64 (committed_rows_total rs)

abbrev pub is_none : Option Refusal → Bool
is_none none = true
is_none (some e) = false

-- Rule "Certificate over a supplied snapshot": where one total is not representable, neither is told
unfoldable pub certificate : Snapshot → (since : ℤ) → Reply
certificate s since =
    let representable : Bool = totals_fit s.rows in
    done
    (Version s.version ∷ Count (length s.rows) ∷ Count s.active ∷ YesOrNo (representable && is_none (conservation s.rows))
    ∷ Amount (cond representable (initial_total s.rows) (pos 0)) ∷ Amount (cond representable (committed_rows_total s.rows) (pos 0)) ∷ YesOrNo representable
    ∷ Amount since ∷ [])

unfoldable pub certificate_of_snapshot : (since : ℤ) → Snapshot → Reply
certificate_of_snapshot since s = reply_or (has_long_name s.rows gives NameTooLong else passes) (certificate s since)

-- ── certificate of the ledger, conservation proof ──────────────────────────────────────────────

-- Rule "Certificate of the ledger": since is what the total has above the baseline, which then moves up to it; else 0, and it stays
unfoldable pub certificate_of_ledger : Ledger → Outcome
certificate_of_ledger L =
    let s : Snapshot = snapshot_of L in
    let total : ℕ = committed_total L.places in
    taking_snapshot L
    (cond (totals_fit s.rows && ltb L.baseline total)
    (outcome (certificate s (pos (total - L.baseline))) (with_baseline (after_snapshot L) total))
    (outcome (certificate s (pos 0)) (after_snapshot L)))

-- Rule "Proof": 15 leaves the ledger with its snapshot taken
unfoldable pub conservation_proof : Ledger → Outcome
conservation_proof L =
    let s : Snapshot = snapshot_of L in
    taking_snapshot L
    (cond (totals_fit s.rows)
    (outcome
    (done (Version s.version ∷ Count (length s.rows) ∷ Count s.active ∷ Amount (initial_total s.rows) ∷ Amount (committed_rows_total s.rows) ∷ YesOrNo true ∷ []))
    (after_snapshot L))
    (refused AggregateOverflow (after_snapshot L)))
