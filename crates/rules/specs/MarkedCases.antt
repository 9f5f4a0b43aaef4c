-- Document 01, section "Marked cases": W1 to W12, and the whole case of section "Frames".
use mathlib.Core.List.{List, [], ◌∷◌, ◌++◌, map, flat_map}
use Rattle.std.specs.Prelude.{ℕ, ◌+◌, ◌-◌, ◌^◌, pos}
use Prim.Native.Char.{code}
use Prim.Native.String.{String, [] as []ᵗ, ◌∷◌ as ◌∷ᵗ◌}
use Rattle.rules.specs.RoomAndSoundLedger.{M, most_names, most_reservations, Name, fresh}
use Rattle.rules.specs.AnswerNumbers.{Amount, Identifier, Reply, done, version_field, MissingTenant, OverflowOfReserve, OverflowOfCommit, OverflowOfTopUp, ExposureLimitExceeded, Insufficient, Overrun, AllocatorExhausted, NegativeLedgerField, reply_of, Lent, sound, unsound, Answered, answered}
use Rattle.rules.specs.AccountRules.{done_with, AccountOperation, ensure, top_up, limit, reserve, commit}
use Rattle.rules.specs.SnapshotsMigrationCertificates.{Snapshot, tagged}
use Rattle.rules.specs.Frames.{Operation, on_account, take_snapshot, restore_from, answer, line_feed}

-- the characters of a text
unfoldable pub characters_of : String → List ℕ
characters_of []ᵗ = []
characters_of (c ∷ᵗ s) = code c ∷ characters_of s

unfoldable pub Q1 : Name
Q1 = characters_of "Q1"

-- A case: T and R, the operations from a fresh ledger, the answer to the last of them, and the next id after it
pub record Case : Type 0 where
  pub T : ℕ
  pub R : ℕ
  pub operations : List Operation
  pub answer : Reply
  pub next_id : ℕ

abbrev pub case : List Operation → Reply → ℕ → Case
case xs r n = record { T = most_names; R = most_reservations; operations = xs; answer = r; next_id = n }

-- with the account that most cases start from
abbrev pub with100 : List (AccountOperation ℕ) → List Operation
with100 xs = map on_account (ensure Q1 (pos 100) ∷ xs)

abbrev pub without_rows : ℕ → Snapshot
without_rows v = record { version = v; active = 0; rows = [] }

abbrev pub fenced : Snapshot
fenced = record {
  version = tagged (M - 1);
  active = 0;
  rows = record { name = Q1; initial = pos 100; remaining = pos 100; reserved = pos 0; committed = pos 0 } ∷ [];
}

abbrev pub granted : (remaining id : ℕ) → Reply
granted n i = done (Amount (pos n) ∷ Identifier i ∷ [])

-- a row for each answer that the paper gives
unfoldable pub marked_cases : List Case
marked_cases =
    -- W1
    case (on_account (reserve Q1 (pos 0)) ∷ []) (reply_of (Insufficient (pos 0) (pos 0))) 1
    -- W2
    ∷ case (on_account (reserve Q1 (pos 5)) ∷ []) (reply_of MissingTenant) 1
    -- W3
    ∷ case (with100 (reserve Q1 (pos 101) ∷ [])) (reply_of (Insufficient (pos 100) (pos 101))) 2
    -- W4
    ∷ case (with100 (reserve Q1 (pos 101) ∷ reserve Q1 (pos 100) ∷ [])) (granted 0 2) 3
    -- W5
    ∷ case (with100 (limit Q1 (pos 50) ∷ reserve Q1 (pos 50) ∷ reserve Q1 (pos 1) ∷ [])) (reply_of (ExposureLimitExceeded (pos 50) (pos 50))) 2
    -- W6
    ∷ case (with100 (reserve Q1 (pos 10) ∷ reserve Q1 (pos M) ∷ [])) (reply_of (OverflowOfReserve (pos 10))) 2
    -- W7
    ∷ case (with100 (reserve Q1 (pos 10) ∷ commit 1 (pos 0) ∷ [])) (done_with (pos 100 ∷ pos 0 ∷ [])) 2
    -- W8
    ∷ case (with100 (reserve Q1 (pos 10) ∷ commit 1 (pos 101) ∷ [])) (reply_of (Overrun (pos 90))) 2
    ∷ case (with100 (reserve Q1 (pos 10) ∷ commit 1 (pos 101) ∷ commit 1 (pos 100) ∷ [])) (done_with (pos 0 ∷ pos 100 ∷ [])) 2
    -- W9
    ∷ case (with100 (reserve Q1 (pos 10) ∷ commit 1 (pos 60) ∷ reserve Q1 (pos 10) ∷ commit 2 (pos M) ∷ [])) (reply_of (OverflowOfCommit (pos 30))) 3
    -- W10
    ∷ case (map on_account (ensure Q1 (pos (M - 5)) ∷ top_up Q1 (pos 6) ∷ [])) (reply_of OverflowOfTopUp) 1
    ∷ case (map on_account (ensure Q1 (pos (M - 5)) ∷ top_up Q1 (pos 6) ∷ top_up Q1 (pos 5) ∷ [])) (done_with (pos 5 ∷ pos M ∷ pos M ∷ [])) 1
    -- W11
    ∷ case (restore_from (without_rows 0) ∷ []) (reply_of (NegativeLedgerField [] version_field (pos 0))) 1
    ∷ case (restore_from (without_rows (2 ^ 63)) ∷ []) (reply_of (NegativeLedgerField [] version_field (pos M))) 1
    ∷ case (restore_from (without_rows (2 ^ 63 + 7)) ∷ []) (done []) 7
    -- W12
    ∷ case (restore_from fenced ∷ on_account (reserve Q1 (pos 1)) ∷ []) (granted 99 (M - 1)) M
    ∷ case (restore_from fenced ∷ on_account (reserve Q1 (pos 1)) ∷ on_account (reserve Q1 (pos 1)) ∷ []) (reply_of (OverflowOfReserve (pos 1))) M
    ∷ case (restore_from fenced ∷ on_account (reserve Q1 (pos 1)) ∷ on_account (reserve Q1 (pos 1)) ∷ take_snapshot ∷ []) (reply_of AllocatorExhausted) M
    ∷ []

-- ── what the definitions say to the operations of a case ───────────────────────────────────────

unfoldable pub last_answer : Answered → List Operation → Answered
last_answer before [] = before
last_answer before (x ∷ xs) = last_answer (answer before.lent x) xs

abbrev pub next_id_of : Lent → ℕ
next_id_of unsound = 0
next_id_of (sound L) = L.next_id

unfoldable pub ran : Case → Case
ran c =
    let last : Answered = last_answer (answered (done []) (sound (fresh c.T c.R))) c.operations in
    record { T = c.T; R = c.R; operations = c.operations; answer = last.reply; next_id = next_id_of last.lent }

-- ── the whole case of "Frames" ─────────────────────────────────────────────────────────────────

-- these lines, each with its line feed
unfoldable pub text_of : List String → List ℕ
text_of = flat_map (λ line. characters_of line ++ (line_feed ∷ []))

unfoldable pub whole_case_input : List ℕ
whole_case_input =
    text_of
    ("0102513100000000000003e8"
    ∷ "04025131000000000000012c"
    ∷ "05000000000000000100000000000000fa"
    ∷ "07"
    ∷ [])

unfoldable pub whole_case_output : List ℕ
whole_case_output =
    text_of
    ("00"
    ∷ "0000000000000002bc0000000000000001"
    ∷ "0000000000000002ee00000000000000fa"
    ∷ "0080000000000000030000000000000000000102513100000000000003e800000000000002ee000000000000000000000000000000fa"
    ∷ [])
