-- Cases beyond the marked ones: each answer number that those leave out, the easy slips, and damaged lines. Each table is computed by the definitions
-- and compared with itself.
use mathlib.Core.Path.{◌≡◌, refl}
use mathlib.Core.Bool.{Bool, true, false}
use mathlib.Core.Option.{Option, none, some}
use mathlib.Core.List.{List, [], ◌∷◌, ◌++◌, map, flat_map}
use Prim.Native.Nat.{Ordering}
use Prim.Native.Nat.{ℕ, ◌+◌, ◌^◌}
use Prim.Native.String.{String}
use lib.IntN.{ℤ, pos, negsuc}
use lib.ListN.{replicate}
use Rattle.rules.specs.Lists.{first, any, keep, sum}
use Rattle.rules.specs.RoomAndSoundLedger.{M, most_names, most_reservations, Name, order, same, Ledger, holds_place, seat_in, committed_total, fresh, made}
use Rattle.rules.specs.AnswerNumbers.{Amount, Version, Count, YesOrNo, SnapshotBytes, Reply, done, NegativeAmount, InvalidAmount, MissingTenant, MissingReservation, ActiveReservations, DuplicateTenant, GhostReservation, NegativeLedgerField, ConservationViolation, AggregateOverflow, AlreadyRecoveryAware, InvalidAllocatorFence, LegacySnapshotRequiresMigration, NameTooLong, NamesFull, ReservationsFull, UnsoundLedger, reply_of, Lent, sound, unsound, answered, on_lent}
use Rattle.rules.specs.AccountRules.{ensure_rule, top_up_rule, limit_rule, reserve_rule, commit_rule, release_rule, read_rule, read_reserved_rule, put, freed, seated, booked, ended, done_with, perform, settle, AccountOperation, ensure, top_up, limit, reserve, commit, release, read_remaining, read_reserved, on_name, on_booking, operate, LedgerRead, read_committed_total, read_accounts, read_live, read_last_version, read_committed_since, read_ledger}
use Rattle.rules.specs.SnapshotsMigrationCertificates.{Row, Snapshot, bytes_of, number_from, row_bytes, snapshot_bytes, read_part, read_number, read_amount, read_name, read_row, read_rows, read_count, read_snapshot, has_long_name, account_rows, tagged, taking_snapshot, snapshot, ◌gives◌else◌, and_then, row_conservation, conservation, row_validation, rows_validation, validation, restore_version, recovery_version, restored_places, or_else, restore_refusal, restore, recovery_restore, reply_or, migrate, status, exact_total, certificate, certificate_of_snapshot, certificate_of_ledger, conservation_proof}
use Rattle.rules.specs.Frames.{bytes_of_line, Operation, on_account, take_snapshot, certify_ledger, prove_conservation, restore_from, recover_from, judge, migrate_to, certify, codes, read_operation, operation_of, answer, reply_bytes, line_of_bytes, answer_line, operation_of_line, answer_to_line, pieces, counted, lines_of, answers_to_lines, house, line_feed}
use Rattle.rules.specs.MarkedCases.{characters_of, Q1, Case, case, with100, granted, last_answer, ran, text_of}

abbrev Q2 : Name
Q2 = characters_of "Q2"

-- a ledger with room for one name and one reservation
abbrev small_case : List (AccountOperation ℕ) → Reply → ℕ → Case
small_case xs r n = record { T = 1; R = 1; operations = map on_account (ensure Q1 (pos 100) ∷ xs); answer = r; next_id = n }

abbrev row : Name → ℤ → ℤ → ℤ → ℤ → Row
row a initial remaining reserved committed = record { name = a; initial = initial; remaining = remaining; reserved = reserved; committed = committed }

abbrev snapshot_with : ℕ → ℕ → List Row → Snapshot
snapshot_with version active rows = record { version = version; active = active; rows = rows }

-- fence 5, nothing live
abbrev restoring : List Row → Operation
restoring rows = restore_from (snapshot_with (tagged 5) 0 rows)

abbrev judging : Row → List Operation
judging r = judge (snapshot_with 0 0 (r ∷ [])) ∷ []

abbrev certificate_after : (version committed since : ℕ) → Reply
certificate_after version committed since =
    done (Version version ∷ Count 1 ∷ Count 0 ∷ YesOrNo true ∷ Amount (pos 100) ∷ Amount (pos committed) ∷ YesOrNo true ∷ Amount (pos since) ∷ [])

further_cases : List Case
further_cases =
    -- 1, 2, 7
    case (on_account (ensure Q1 (negsuc 6)) ∷ []) (reply_of (NegativeAmount (negsuc 6))) 1
    ∷ case (with100 (limit Q1 (negsuc 0) ∷ [])) (reply_of (NegativeAmount (negsuc 0))) 1
    ∷ case (with100 (top_up Q1 (pos 0) ∷ [])) (reply_of InvalidAmount) 1
    ∷ case (with100 (commit 9 (negsuc 0) ∷ [])) (reply_of InvalidAmount) 1
    ∷ case (with100 (top_up Q2 (pos 1) ∷ [])) (reply_of MissingTenant) 1
    ∷ case (with100 (read_remaining Q2 ∷ [])) (reply_of MissingTenant) 1
    ∷ case (with100 (reserve Q1 (pos 10) ∷ release 1 ∷ release 1 ∷ [])) (reply_of MissingReservation) 2
    -- a release gives the amount back; an existing account is left as it is
    ∷ case (with100 (reserve Q1 (pos 10) ∷ release 1 ∷ [])) (done_with (pos 100 ∷ pos 10 ∷ [])) 2
    ∷ case (with100 (ensure Q1 (pos 7) ∷ read_remaining Q1 ∷ [])) (done_with (pos 100 ∷ [])) 1
    ∷ case (with100 (read_reserved Q2 ∷ [])) (done_with (pos 0 ∷ [])) 1
    -- a commit above the reserved amount, a commit below it
    ∷ case (with100 (reserve Q1 (pos 10) ∷ commit 1 (pos 25) ∷ [])) (done_with (pos 75 ∷ pos 25 ∷ [])) 2
    ∷ case (with100 (reserve Q1 (pos 10) ∷ commit 1 (pos 4) ∷ [])) (done_with (pos 96 ∷ pos 4 ∷ [])) 2
    -- 19 for 25 bytes and not for 24
    ∷ case (on_account (ensure (replicate 25 65) (pos 1)) ∷ []) (reply_of NameTooLong) 1
    ∷ case (on_account (ensure (replicate 24 65) (pos 1)) ∷ []) (done []) 1
    -- 20 and 21 last: 20 not for 0, which is always done; 21 draws no id; a freed place is used again
    ∷ small_case (ensure Q2 (pos 5) ∷ []) (reply_of NamesFull) 1
    ∷ small_case (limit Q2 (pos 5) ∷ []) (reply_of NamesFull) 1
    ∷ small_case (limit Q2 (pos 0) ∷ []) (done []) 1
    ∷ small_case (reserve Q1 (pos 10) ∷ reserve Q1 (pos 10) ∷ []) (reply_of ReservationsFull) 2
    ∷ record { T = 1; R = 1; operations = map on_account (limit Q1 (pos 5) ∷ limit Q1 (pos 0) ∷ ensure Q2 (pos 5) ∷ []); answer = done []; next_id = 1 }
    -- a snapshot with a live booking counts it, and such a one is not restored: 10
    ∷ case (map on_account (ensure Q1 (pos 100) ∷ reserve Q1 (pos 10) ∷ []) ++ take_snapshot ∷ []) (done (SnapshotBytes (snapshot_bytes (snapshot_with (tagged 3) 1 (row Q1 (pos 100) (pos 90) (pos 10) (pos 0) ∷ []))) ∷ [])) 3
    ∷ case (restore_from (snapshot_with (tagged 3) 1 []) ∷ []) (reply_of (ActiveReservations 1)) 1
    -- a restore clears limits and live reservations
    ∷ case (with100 (limit Q1 (pos 50) ∷ reserve Q1 (pos 10) ∷ []) ++ restoring (row Q1 (pos 100) (pos 100) (pos 0) (pos 0) ∷ []) ∷ on_account (reserve Q1 (pos 60)) ∷ []) (granted 40 5) 6
    ∷ case (with100 (reserve Q1 (pos 10) ∷ []) ++ restoring (row Q1 (pos 100) (pos 100) (pos 0) (pos 0) ∷ []) ∷ on_account (release 1) ∷ []) (reply_of MissingReservation) 5
    -- 11 to 15
    ∷ case (restoring (row Q1 (pos 0) (pos 0) (pos 0) (pos 0) ∷ row Q1 (pos 0) (pos 0) (pos 0) (pos 0) ∷ []) ∷ []) (reply_of (DuplicateTenant Q1)) 1
    ∷ case (restoring (row Q1 (pos 10) (pos 0) (pos 10) (pos 0) ∷ []) ∷ []) (reply_of (GhostReservation Q1 (pos 10))) 1
    ∷ case (restoring (row Q1 (pos 0) (negsuc 0) (pos 0) (pos 1) ∷ []) ∷ []) (reply_of (NegativeLedgerField Q1 1 (negsuc 0))) 1
    ∷ case (restoring (row Q1 (negsuc 2) (pos 0) (pos 0) (negsuc 2) ∷ []) ∷ []) (reply_of (NegativeLedgerField Q1 2 (negsuc 2))) 1
    ∷ case (restoring (row Q1 (pos 0) (pos 1) (pos 0) (negsuc 0) ∷ []) ∷ []) (reply_of (NegativeLedgerField Q1 3 (negsuc 0))) 1
    ∷ case (restoring (row Q1 (pos 10) (pos 7) (pos 0) (pos 1) ∷ []) ∷ []) (reply_of (ConservationViolation Q1 (negsuc 1))) 1
    ∷ case (restoring (row Q1 (pos 10) (pos M) (pos 0) (pos 1) ∷ []) ∷ []) (reply_of AggregateOverflow) 1
    -- conservation adds exactly: this sum passes M on the way and not at the end; a delta that does not fit is 15, a negative remaining 14
    ∷ case (judging (row Q1 (pos M) (pos M) (pos 1) (negsuc 0))) (done []) 1
    ∷ case (judging (row Q1 (negsuc 0) (pos M) (pos 0) (pos 0))) (reply_of AggregateOverflow) 1
    ∷ case (judging (row Q1 (pos 0) (negsuc 0) (pos 0) (pos 1))) (reply_of (ConservationViolation Q1 (negsuc 0))) 1
    -- 16, 17, 18
    ∷ case (migrate_to 5 (snapshot_with (2 ^ 63) 0 []) ∷ []) (reply_of AlreadyRecoveryAware) 1
    ∷ case (migrate_to (M + 1) (snapshot_with 0 0 []) ∷ []) (reply_of (InvalidAllocatorFence (M + 1))) 1
    ∷ case (migrate_to 5 (snapshot_with 9 0 []) ∷ []) (done (SnapshotBytes (snapshot_bytes (snapshot_with (tagged 5) 0 [])) ∷ [])) 1
    ∷ case (recover_from (snapshot_with 7 0 []) ∷ []) (reply_of LegacySnapshotRequiresMigration) 1
    ∷ case (recover_from (snapshot_with (2 ^ 63) 0 []) ∷ []) (reply_of (InvalidAllocatorFence 0)) 1
    ∷ case (recover_from (snapshot_with (tagged 9) 0 []) ∷ []) (done []) 9
    ∷ case (migrate_to 5 (snapshot_with 9 0 (row Q1 (pos 10) (pos 7) (pos 0) (pos 3) ∷ [])) ∷ []) (done (SnapshotBytes (snapshot_bytes (snapshot_with (tagged 5) 0 (row Q1 (pos 10) (pos 7) (pos 0) (pos 3) ∷ []))) ∷ [])) 1
    -- migration in its order: 19, 16, 17, validation
    ∷ case (migrate_to 0 (snapshot_with (2 ^ 63) 0 (row (replicate 25 65) (pos 0) (pos 0) (pos 0) (pos 0) ∷ [])) ∷ []) (reply_of NameTooLong) 1
    ∷ case (migrate_to 0 (snapshot_with (2 ^ 63) 0 []) ∷ []) (reply_of AlreadyRecoveryAware) 1
    ∷ case (migrate_to 0 (snapshot_with 9 1 []) ∷ []) (reply_of (InvalidAllocatorFence 0)) 1
    ∷ case (migrate_to 5 (snapshot_with 9 1 []) ∷ []) (reply_of (ActiveReservations 1)) 1
    -- 15 from a conservation proof has moved next id
    ∷ case (map on_account (ensure Q1 (pos M) ∷ ensure Q2 (pos 1) ∷ []) ++ prove_conservation ∷ []) (reply_of AggregateOverflow) 2
    ∷ case (with100 [] ++ prove_conservation ∷ []) (done (Version (tagged 2) ∷ Count 1 ∷ Count 0 ∷ Amount (pos 100) ∷ Amount (pos 0) ∷ YesOrNo true ∷ [])) 2
    -- the baseline moves with a certificate, and not with the next one
    ∷ case (with100 (reserve Q1 (pos 10) ∷ commit 1 (pos 8) ∷ []) ++ certify_ledger ∷ []) (certificate_after (tagged 3) 8 8) 3
    ∷ case (with100 (reserve Q1 (pos 10) ∷ commit 1 (pos 8) ∷ []) ++ certify_ledger ∷ certify_ledger ∷ []) (certificate_after (tagged 4) 8 0) 4
    -- a certificate of a row that is not balanced; totals that do not fit, the one or the other
    ∷ case (certify (pos 6) (snapshot_with 1 2 (row Q1 (pos 10) (pos 7) (pos 0) (pos 1) ∷ [])) ∷ [])
    (done (Version 1 ∷ Count 1 ∷ Count 2 ∷ YesOrNo false ∷ Amount (pos 10) ∷ Amount (pos 1) ∷ YesOrNo true ∷ Amount (pos 6) ∷ [])) 1
    ∷ case (certify (pos 6) (snapshot_with 1 2 (row Q1 (pos M) (pos 0) (pos 0) (pos M) ∷ row Q2 (pos 1) (pos 1) (pos 0) (pos 0) ∷ [])) ∷ [])
    (done (Version 1 ∷ Count 2 ∷ Count 2 ∷ YesOrNo false ∷ Amount (pos 0) ∷ Amount (pos 0) ∷ YesOrNo false ∷ Amount (pos 6) ∷ [])) 1
    ∷ case (certify (pos 6) (snapshot_with 1 2 (row Q1 (pos M) (pos M) (pos 0) (pos 0) ∷ row Q2 (pos 1) (pos 1) (pos 0) (pos 0) ∷ [])) ∷ [])
    (done (Version 1 ∷ Count 2 ∷ Count 2 ∷ YesOrNo false ∷ Amount (pos 0) ∷ Amount (pos 0) ∷ YesOrNo false ∷ Amount (pos 6) ∷ [])) 1
    ∷ []

further-cases : map ran further_cases ≡ further_cases
unfolding further_cases first any keep sum M order same holds_place seat_in committed_total fresh on_lent ensure_rule top_up_rule limit_rule reserve_rule commit_rule release_rule read_rule read_reserved_rule put freed seated booked ended perform settle on_name on_booking operate bytes_of row_bytes flat_map snapshot_bytes has_long_name account_rows taking_snapshot snapshot ◌gives◌else◌ and_then row_conservation conservation row_validation rows_validation validation restore_version recovery_version restored_places restore_refusal or_else restore recovery_restore reply_or migrate status exact_total certificate certificate_of_snapshot certificate_of_ledger conservation_proof answer characters_of Q1 last_answer ran
further-cases = refl

-- ── reads over the whole ledger ────────────────────────────────────────────────────────────────

record ReadCase : Type 0 where
  operations : List Operation
  read : LedgerRead
  answer : Reply

-- two accounts, a limit alone, a live booking, 8 committed before a snapshot
abbrev desk : LedgerRead → Reply → ReadCase
desk read answer = record {
  operations = with100 (limit Q2 (pos 5) ∷ ensure (characters_of "Q3") (pos M) ∷ reserve Q1 (pos 10) ∷ commit 1 (pos 8) ∷ reserve Q1 (pos 1) ∷ []) ++ take_snapshot ∷ [];
  read = read;
  answer = answer;
}

read_cases : List ReadCase
read_cases =
    desk read_committed_total (done_with (pos 8 ∷ []))
    ∷ desk read_accounts (done (Count 2 ∷ []))
    ∷ desk read_live (done (Count 1 ∷ []))
    ∷ desk read_last_version (done (Version (tagged 4) ∷ []))
    ∷ desk read_committed_since (done_with (pos 8 ∷ []))
    -- a committed total above M: 15, and since is M less the baseline, which a restore set to M
    ∷ record { operations = restoring overfull ∷ []; read = read_committed_total; answer = reply_of AggregateOverflow }
    ∷ record { operations = restoring overfull ∷ []; read = read_committed_since; answer = done_with (pos 0 ∷ []) }
    ∷ []
  where
    overfull : List Row
    overfull = row Q1 (pos M) (pos 0) (pos 0) (pos M) ∷ row Q2 (pos 1) (pos 0) (pos 0) (pos 1) ∷ []

-- 24 where what is lent is not sound
read_lent : Lent → LedgerRead → Reply
read_lent unsound read = reply_of UnsoundLedger
read_lent (sound L) read = read_ledger L read

read_answered : ReadCase → ReadCase
read_answered c = record { operations = c.operations; read = c.read; answer = read_lent (last_answer (answered (done []) (sound (fresh most_names most_reservations))) c.operations).lent c.read }

read-cases : map read_answered read_cases ≡ read_cases
unfolding read_cases read_answered read_lent read_ledger first any keep sum M order same holds_place seat_in committed_total fresh on_lent ensure_rule limit_rule reserve_rule commit_rule put freed seated booked ended perform settle on_name on_booking operate bytes_of row_bytes flat_map snapshot_bytes has_long_name account_rows taking_snapshot snapshot ◌gives◌else◌ and_then row_conservation conservation row_validation rows_validation validation restore_version restored_places restore_refusal or_else restore answer characters_of Q1 last_answer
read-cases = refl

-- ── making a ledger, and output room ───────────────────────────────────────────────────────────

-- T, R, and whether a ledger is made
record MakingCase : Type 0 where
  T : ℕ
  R : ℕ
  makes : Bool

making : ℕ → ℕ → Bool → MakingCase
making t r b = record { T = t; R = r; makes = b }

is_made : Option Ledger → Bool
is_made none = false
is_made (some L) = true

making_cases : List MakingCase
making_cases =
    making 0 1 false
    ∷ making 1 0 false
    ∷ making 1 1 true
    ∷ making most_names most_reservations true
    ∷ making (most_names + 1) most_reservations false
    ∷ making most_names (most_reservations + 1) false
    ∷ []

made-cases : map (λ c. making c.T c.R (is_made (made c.T c.R))) making_cases ≡ making_cases
unfolding made making is_made making_cases
made-cases = refl

made-fresh : made 1 1 ≡ some (fresh 1 1)
unfolding made
made-fresh = refl

-- 22 last: after 9, and after validation
output-cases : ((snapshot 17 (fresh 1 1)).reply.number ≡ 22) × ((snapshot 18 (fresh 1 1)).reply.number ≡ 0) × ((migrate 17 5 (snapshot_with 9 0 [])).number ≡ 22) × ((migrate 18 5 (snapshot_with 9 0 [])).number ≡ 0) × ((migrate 17 5 (snapshot_with 9 1 [])).number ≡ 10)
unfolding fresh M bytes_of flat_map snapshot_bytes has_long_name any account_rows taking_snapshot snapshot ◌gives◌else◌ and_then rows_validation conservation validation reply_or migrate
output-cases = (refl, refl, refl, refl, refl)

-- ── names ──────────────────────────────────────────────────────────────────────────────────────

-- by bytes, a prefix first
name-cases : (order [] Q1 ≡ Ordering.lt) × (order Q1 Q2 ≡ Ordering.lt) × (order (characters_of "Q") Q1 ≡ Ordering.lt) × (order (characters_of "Q10") Q2 ≡ Ordering.lt) × (order (255 ∷ []) (characters_of "zz") ≡ Ordering.gt)
unfolding order characters_of Q1
name-cases = (refl, refl, refl, refl, refl)

-- ── lines ──────────────────────────────────────────────────────────────────────────────────────

record LineCase : Type 0 where
  lent : Lent
  line : List ℕ
  answer_line : List ℕ

abbrev freshly : String → String → LineCase
freshly line answer = record { lent = sound (fresh most_names most_reservations); line = characters_of line; answer_line = characters_of answer }

abbrev unsoundly : String → String → LineCase
unsoundly line answer = record { lent = unsound; line = characters_of line; answer_line = characters_of answer }

line_cases : List LineCase
line_cases =
    -- empty, odd, short, overlong, unknown, another character: 23
    freshly "" "17"
    ∷ freshly "0" "17"
    ∷ freshly "0102513100000000000003" "17"
    ∷ freshly "0700" "17"
    ∷ freshly "00" "17"
    ∷ freshly "0f" "17"
    ∷ freshly "0B" "17"
    ∷ freshly "0 7" "17"
    -- signed in two's complement: ensure -1
    ∷ freshly "01025131ffffffffffffffff" "01ffffffffffffffff"
    -- a name of 25 bytes: 19 where its bytes fit the frame, 23 where they do not
    ∷ freshly "0119414141414141414141414141414141414141414141414141410000000000000001" "13"
    ∷ freshly "01194141414141414141414141414141414141414141414141410000000000000001" "17"
    -- more rows than 256: 23; a long name in a snapshot: 19
    ∷ freshly "0e000000000000000000000000000000000101" "17"
    ∷ freshly "0e00000000000000000000000000000000000119414141414141414141414141414141414141414141414141410000000000000000000000000000000000000000000000000000000000000000" "13"
    -- 23 before 24, 24 before 19; the status of a supplied snapshot takes no ledger
    ∷ unsoundly "0700" "17"
    ∷ unsoundly "07" "18"
    ∷ unsoundly "0119414141414141414141414141414141414141414141414141410000000000000001" "18"
    ∷ unsoundly "0e000000000000000000000000000000000000" "00"
    ∷ unsoundly "0a0000000000000000000000000000000000000000000000000000" "110000000000000000"
    ∷ unsoundly "0c0000000000000006000000000000000000000000000000000000" "000000000000000000000000000000000000000000000000000100000000000000000000000000000000010000000000000006"
    ∷ []

answered_line : LineCase → LineCase
answered_line c = record { lent = c.lent; line = c.line; answer_line = answer_line (answer_to_line c.lent c.line).reply }

line-cases : map answered_line line_cases ≡ line_cases
unfolding line_cases answered_line first any keep M order same holds_place seat_in fresh on_lent ensure_rule perform on_name operate bytes_of number_from flat_map read_part read_number read_amount read_name read_row read_rows read_count read_snapshot has_long_name taking_snapshot snapshot ◌gives◌else◌ conservation reply_or status migrate certificate certificate_of_snapshot exact_total bytes_of_line codes read_operation operation_of answer reply_bytes line_of_bytes answer_line operation_of_line answer_to_line characters_of
line-cases = refl

-- ── a desk's lines ─────────────────────────────────────────────────────────────────────────────

-- each operation of the table, the answers that carry a name, a field, a count or a fence, and a last line without a line feed
record Exchange : Type 0 where
  line : String
  answer : String

abbrev exchange : String → String → Exchange
exchange line answer = record { line = line; answer = answer }

desk_lines : List Exchange
desk_lines =
    exchange "0102513100000000000003e8" "00"
    ∷ exchange "0202513100000000000000c8" "0000000000000000c800000000000004b000000000000004b0"
    ∷ exchange "030251310000000000000032" "00"
    ∷ exchange "040251310000000000000032" "00000000000000047e0000000000000001"
    ∷ exchange "060000000000000001" "0000000000000004b00000000000000032"
    ∷ exchange "0b" "008000000000000003000000000000000100000000000000000100000000000004b00000000000000000010000000000000000"
    ∷ exchange "0d" "0080000000000000040000000000000001000000000000000000000000000004b0000000000000000001"
    ∷ exchange "08800000000000000700000000000000010000" "0a0000000000000001"
    ∷ exchange "0880000000000000070000000000000000000202513100000000000000000000000000000000000000000000000000000000000000000251310000000000000000000000000000000000000000000000000000000000000000" "0b025131"
    ∷ exchange "088000000000000007000000000000000000010251310000000000000005000000000000000000000000000000050000000000000000" "0c0251310000000000000005"
    ∷ exchange "08800000000000000700000000000000000001025131000000000000000000000000000000000000000000000000fffffffffffffffc" "0d02513103fffffffffffffffc"
    ∷ exchange "08000000000000000500000000000000000000" "0d00040000000000000005"
    ∷ exchange "08800000000000000700000000000000000001025131000000000000000a000000000000000700000000000000000000000000000001" "0e025131fffffffffffffffe"
    ∷ exchange "08800000000000000700000000000000000001025131000000000000000a000000000000000700000000000000000000000000000003" "00"
    ∷ exchange "09000000000000000700000000000000000000" "12"
    ∷ exchange "09800000000000000000000000000000000000" "110000000000000000"
    ∷ exchange "09800000000000000900000000000000000001025131000000000000000a000000000000000700000000000000000000000000000003" "00"
    ∷ exchange "0a0000000000000005000000000000000900000000000000000001025131000000000000000a000000000000000700000000000000000000000000000003" "00800000000000000500000000000000000001025131000000000000000a000000000000000700000000000000000000000000000003"
    ∷ exchange "0a0000000000000000000000000000000900000000000000000000" "110000000000000000"
    ∷ exchange "0c0000000000000006000000000000000100000000000000020001025131000000000000000a000000000000000700000000000000000000000000000001" "0000000000000000010000000000000001000000000000000200000000000000000a0000000000000001010000000000000006"
    ∷ exchange "0e000000000000000000000000000000000001025131000000000000000a000000000000000700000000000000000000000000000001" "0e025131fffffffffffffffe"
    ∷ exchange "0500000000000000000000000000000000" "07"
    ∷ exchange "05ffffffffffffffffffffffffffffffff" "02"
    ∷ exchange "07" "00800000000000000a00000000000000000001025131000000000000000a000000000000000700000000000000000000000000000003"
    ∷ []

input_of : List Exchange → List ℕ
input_of [] = []
input_of (e ∷ []) = characters_of e.line
input_of (e ∷ next ∷ es) = characters_of e.line ++ (line_feed ∷ input_of (next ∷ es))

desk-lines : house (input_of desk_lines) ≡ text_of (map (λ e. e.answer) desk_lines)
unfolding desk_lines input_of text_of first any keep sum M order same holds_place seat_in committed_total fresh on_lent ensure_rule top_up_rule limit_rule reserve_rule commit_rule release_rule put freed seated booked ended perform settle on_name on_booking operate bytes_of number_from row_bytes flat_map snapshot_bytes read_part read_number read_amount read_name read_row read_rows read_count read_snapshot has_long_name account_rows taking_snapshot snapshot ◌gives◌else◌ and_then row_conservation conservation row_validation rows_validation validation restore_version recovery_version restored_places restore_refusal or_else restore recovery_restore reply_or migrate status exact_total certificate certificate_of_snapshot certificate_of_ledger conservation_proof bytes_of_line codes read_operation operation_of answer reply_bytes line_of_bytes answer_line operation_of_line answer_to_line pieces counted lines_of answers_to_lines house characters_of
desk-lines = refl
