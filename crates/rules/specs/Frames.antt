-- Document 01, section "Frames".
use Rattle.std.specs.Prelude.{Bool, false, cond, ◌&&◌, ◌||◌, ℕ, ◌+◌, ◌-◌, ◌*◌, ◌/◌, ◌%◌, ltb, eqb, ℤ, length}
use mathlib.Core.List.{List, [], ◌∷◌, ◌++◌, flat_map}
use Rattle.std.proofs.Math.Option.{Option, none, some, map}
use Rattle.rules.specs.Lists.{first}
use Rattle.rules.specs.RoomAndSoundLedger.{longest_name, most_names, most_reservations, Name, fresh, is_in_range}
use Rattle.rules.specs.AnswerNumbers.{Value, Amount, Identifier, Version, Fence, Count, Field, YesOrNo, TheName, SnapshotBytes, Reply, BadFrame, reply_of, Lent, sound, Answered, answered, on_lent}
use Rattle.rules.specs.AccountRules.{AccountOperation, ensure, top_up, limit, reserve, commit, release, is_too_long, operate}
use Rattle.rules.specs.SnapshotsMigrationCertificates.{Snapshot, most_rows, bytes_of, amount_bytes, name_bytes, Reader, reads, ◌>>=◌, read_number, read_amount, read_name, read_snapshot, whole, snapshot_bytes, snapshot_of_bytes, has_long_name, snapshot, restore, recovery_restore, migrate, status, certificate_of_snapshot, certificate_of_ledger, conservation_proof}

-- ── a line of digits to bytes ──────────────────────────────────────────────────────────────────

-- a character's digit, or 16 for none: the characters of lowercase hexadecimal stand at 48 to 57 and at 97 to 102
abbrev pub digit_of : ℕ → ℕ
digit_of c = cond (is_in_range 48 57 c) (c - 48) (cond (is_in_range 97 102 c) (c - 87) 16)

-- none stands for 23: an odd length, or a character that is no digit
abbrev pub byte_before : ℕ → ℕ → Option (List ℕ) → Option (List ℕ)
byte_before high low none = none
byte_before high low (some bs) = cond (ltb high 16 && ltb low 16) (some ((high * 16 + low) ∷ bs)) none

unfoldable pub bytes_of_line : List ℕ → Option (List ℕ)
bytes_of_line [] = some []
bytes_of_line (c ∷ []) = none
bytes_of_line (c ∷ d ∷ cs) = byte_before (digit_of c) (digit_of d) (bytes_of_line cs)

-- ── bytes to an operation ──────────────────────────────────────────────────────────────────────

pub data Operation : Type 0 where
  on_account : AccountOperation ℕ → Operation
  take_snapshot certify_ledger prove_conservation : Operation
  restore_from recover_from judge : Snapshot → Operation
  migrate_to : (fence : ℕ) → Snapshot → Operation
  certify : (since : ℤ) → Snapshot → Operation

-- What is handed in to be written where it is not a frame yet: numbers, and one part of lent bytes, a name or a snapshot
pub record Parts : Type 0 where
  pub number : ℕ
  pub amount : ℤ
  pub part : List ℕ

-- What stands behind an operation's code: how it is read and written, how it is taken from parts, and whether one of its names is too long
pub record Fields (A : Type 0) : Type 0 where
  pub read : (A → Reader Operation) → Reader Operation
  pub write : A → List ℕ
  pub take : Parts → Option A
  pub is_long : A → Bool

abbrev pub nothing : Fields (Unit {0})
nothing = record { read = λ go. go tt; write = λ _. []; take = λ _. some tt; is_long = λ _. false }

abbrev pub a_number : Fields ℕ
a_number = record { read = λ go. read_number 8 >>= go; write = bytes_of 8; take = λ p. some p.number; is_long = λ _. false }

abbrev pub an_amount : Fields ℤ
an_amount = record { read = λ go. read_amount >>= go; write = amount_bytes; take = λ p. some p.amount; is_long = λ _. false }

abbrev pub a_name : Fields Name
a_name = record { read = λ go. read_name >>= go; write = name_bytes; take = λ p. some p.part; is_long = is_too_long }

abbrev pub a_snapshot : Fields Snapshot
a_snapshot = record { read = λ go. read_snapshot >>= go; write = snapshot_bytes; take = λ p. snapshot_of_bytes p.part; is_long = λ s. has_long_name s.rows }

abbrev pub pair_of : {A B : Type 0} → Option A → Option B → Option (A × B)
pair_of none y = none
pair_of (some x) none = none
pair_of (some x) (some y) = some (x, y)

infixr 6 ◌followed-by◌
abbrev pub ◌followed-by◌ : {A B : Type 0} → Fields A → Fields B → Fields (A × B)
f followed-by g =
    record {
      read = λ go. f.read (λ x. g.read (λ y. go (x, y)));
      write = λ p. f.write p.0 ++ g.write p.1;
      take = λ p. pair_of (f.take p) (g.take p);
      is_long = λ p. f.is_long p.0 || g.is_long p.1;
    }

-- A row of the paper's list of operations: the first byte, what stands behind it, and the operation that these are
pub record Frame (A : Type 0) : Type 0 where
  pub code : ℕ
  pub fields : Fields A
  pub operation : A → Operation

abbrev pub frame : {A : Type 0} → ℕ → Fields A → (A → Operation) → Frame A
frame n f x = record { code = n; fields = f; operation = x }

abbrev pub ensure_frame : Frame (Name × ℤ)
ensure_frame = frame 0x01 (a_name followed-by an_amount) (λ f. on_account (ensure f.0 f.1))

abbrev pub top_up_frame : Frame (Name × ℤ)
top_up_frame = frame 0x02 (a_name followed-by an_amount) (λ f. on_account (top_up f.0 f.1))

abbrev pub limit_frame : Frame (Name × ℤ)
limit_frame = frame 0x03 (a_name followed-by an_amount) (λ f. on_account (limit f.0 f.1))

abbrev pub reserve_frame : Frame (Name × ℤ)
reserve_frame = frame 0x04 (a_name followed-by an_amount) (λ f. on_account (reserve f.0 f.1))

abbrev pub commit_frame : Frame (ℕ × ℤ)
commit_frame = frame 0x05 (a_number followed-by an_amount) (λ f. on_account (commit f.0 f.1))

abbrev pub release_frame : Frame ℕ
release_frame = frame 0x06 a_number (λ i. on_account (release i))

abbrev pub snapshot_frame : Frame (Unit {0})
snapshot_frame = frame 0x07 nothing (λ _. take_snapshot)

abbrev pub restore_frame : Frame Snapshot
restore_frame = frame 0x08 a_snapshot restore_from

abbrev pub recovery_frame : Frame Snapshot
recovery_frame = frame 0x09 a_snapshot recover_from

abbrev pub migration_frame : Frame (ℕ × Snapshot)
migration_frame = frame 0x0a (a_number followed-by a_snapshot) (λ f. migrate_to f.0 f.1)

abbrev pub certificate_frame : Frame (Unit {0})
certificate_frame = frame 0x0b nothing (λ _. certify_ledger)

abbrev pub snapshot_certificate_frame : Frame (ℤ × Snapshot)
snapshot_certificate_frame = frame 0x0c (an_amount followed-by a_snapshot) (λ f. certify f.0 f.1)

abbrev pub proof_frame : Frame (Unit {0})
proof_frame = frame 0x0d nothing (λ _. prove_conservation)

abbrev pub status_frame : Frame Snapshot
status_frame = frame 0x0e a_snapshot judge

-- .. read: by its first byte
pub record Code : Type 0 where
  pub number : ℕ
  pub body : Reader Operation
  pub of_parts : Parts → Option Operation

abbrev pub code : {A : Type 0} → Frame A → Code
code f = record { number = f.code; body = f.fields.read (λ x. reads (f.operation x)); of_parts = λ p. map f.operation (f.fields.take p) }

unfoldable pub codes : List Code
codes =
    code ensure_frame
    ∷ code top_up_frame
    ∷ code limit_frame
    ∷ code reserve_frame
    ∷ code commit_frame
    ∷ code release_frame
    ∷ code snapshot_frame
    ∷ code restore_frame
    ∷ code recovery_frame
    ∷ code migration_frame
    ∷ code certificate_frame
    ∷ code snapshot_certificate_frame
    ∷ code proof_frame
    ∷ code status_frame
    ∷ []

abbrev pub body_of : Option Code → Reader Operation
body_of none bs = none
body_of (some c) bs = c.body bs

unfoldable pub read_operation : Reader Operation
read_operation = do number ← read_number 1; body_of (first (λ c. eqb number c.number) codes)

-- none stands for 23: nothing to read, too little or too much of it, or no such operation
unfoldable pub operation_of : List ℕ → Option Operation
operation_of bs = whole (read_operation bs)

-- ── an operation to its answer ─────────────────────────────────────────────────────────────────

-- the bytes of the longest snapshot: its head, and all rows that there can be, of the longest names. An answer has room for it, so no frame meets 22
abbrev pub longest_snapshot : ℕ
longest_snapshot = 8 + 8 + 2 + most_rows * (1 + longest_name + 4 * 8)

-- 24 comes before all that an operation asks, where it takes a ledger; the last three take none
unfoldable pub answer : Lent → Operation → Answered
answer l (on_account x) = on_lent l (λ L. operate L x)
answer l take_snapshot = on_lent l (snapshot longest_snapshot)
answer l (restore_from s) = on_lent l (λ L. restore L s)
answer l (recover_from s) = on_lent l (λ L. recovery_restore L s)
answer l certify_ledger = on_lent l certificate_of_ledger
answer l prove_conservation = on_lent l conservation_proof
answer l (migrate_to fence s) = answered (migrate longest_snapshot fence s) l
answer l (certify since s) = answered (certificate_of_snapshot since s) l
answer l (judge s) = answered (status s) l

-- ── a reply to its answer line ─────────────────────────────────────────────────────────────────

-- a name with its length byte, flags and fields in one byte, numbers in eight
abbrev pub value_bytes : Value → List ℕ
value_bytes (Amount z) = amount_bytes z
value_bytes (Identifier i) = bytes_of 8 i
value_bytes (Version v) = bytes_of 8 v
value_bytes (Fence f) = bytes_of 8 f
value_bytes (Count n) = bytes_of 8 n
value_bytes (Field f) = bytes_of 1 f
value_bytes (YesOrNo b) = bytes_of 1 (cond b 1 0)
value_bytes (TheName a) = name_bytes a
value_bytes (SnapshotBytes bs) = bs

unfoldable pub reply_bytes : Reply → List ℕ
reply_bytes r = bytes_of 1 r.number ++ flat_map value_bytes r.carried

abbrev pub character_of : ℕ → ℕ
character_of d = cond (ltb d 10) (48 + d) (87 + d)

unfoldable pub line_of_bytes : List ℕ → List ℕ
line_of_bytes [] = []
line_of_bytes (b ∷ bs) = character_of (b / 16) ∷ character_of (b % 16) ∷ line_of_bytes bs

unfoldable pub answer_line : Reply → List ℕ
answer_line r = line_of_bytes (reply_bytes r)

-- ── a line to its answer ───────────────────────────────────────────────────────────────────────

abbrev pub operation_of_bytes : Option (List ℕ) → Option Operation
operation_of_bytes none = none
operation_of_bytes (some bs) = operation_of bs

-- the longest frame holds the operation's byte, a number of eight bytes and the longest snapshot; a line has two characters for each of its bytes
abbrev pub longest_frame : ℕ
longest_frame = 1 + 8 + longest_snapshot

abbrev pub longest_line : ℕ
longest_line = longest_frame + longest_frame

-- 23 for a longer line, whatever it holds
unfoldable pub operation_of_line : List ℕ → Option Operation
operation_of_line line = cond (ltb longest_line (length line)) none (operation_of_bytes (bytes_of_line line))

-- the same for a frame that comes as bytes and not as a line: 23 for more of them than a line can spell, whatever they hold
unfoldable pub operation_of_frame : List ℕ → Option Operation
operation_of_frame bs = cond (ltb longest_frame (length bs)) none (operation_of bs)

abbrev pub answer_or23 : Lent → Option Operation → Answered
answer_or23 l none = answered (reply_of BadFrame) l
answer_or23 l (some x) = answer l x

unfoldable pub answer_to_line : Lent → List ℕ → Answered
answer_to_line l line = answer_or23 l (operation_of_line line)

-- what is lent after some lines
unfoldable pub lent_after : Lent → List (List ℕ) → Lent
lent_after l [] = l
lent_after l (line ∷ lines) = lent_after (answer_to_line l line).lent lines

-- ── a whole input to the whole output ──────────────────────────────────────────────────────────

abbrev pub line_feed : ℕ
line_feed = 10

abbrev pub onto : ℕ → List (List ℕ) → List (List ℕ)
onto c [] = (c ∷ []) ∷ []
onto c (line ∷ lines) = (c ∷ line) ∷ lines

-- what stands between the line feeds
unfoldable pub pieces : List ℕ → List (List ℕ)
pieces [] = [] ∷ []
pieces (c ∷ cs) = let further : List (List ℕ) = pieces cs in cond (eqb c line_feed) ([] ∷ further) (onto c further)

-- what stands after the last line feed is a line too, unless it is empty
unfoldable pub counted : List (List ℕ) → List (List ℕ)
counted [] = []
counted ([] ∷ []) = []
counted ((c ∷ cs) ∷ []) = (c ∷ cs) ∷ []
counted (line ∷ next ∷ lines) = line ∷ counted (next ∷ lines)

unfoldable pub lines_of : List ℕ → List (List ℕ)
lines_of input = counted (pieces input)

unfoldable pub answers_to_lines : Lent → List (List ℕ) → List ℕ
answers_to_lines l [] = []
answers_to_lines l (line ∷ lines) = let a : Answered = answer_to_line l line in answer_line a.reply ++ (line_feed ∷ answers_to_lines a.lent lines)

-- the house program: the whole output for a whole input
unfoldable pub house : (input : List ℕ) → List ℕ
house input = answers_to_lines (sound (fresh most_names most_reservations)) (lines_of input)
