-- Document 02, request L1: operations and answers written as lines, and an answer's line read together with the operation that it answers.
use Rattle.std.specs.Prelude.{◌≡◌, Bool, false, cond, ℕ, ltb, eqb, ℤ, pos, length, drop}
use mathlib.Core.List.{List, [], ◌∷◌, ◌++◌, map, flat_map}
use Rattle.std.proofs.Math.Option
use Rattle.std.proofs.Math.Option.{Option, none, some}
use Rattle.rules.specs.Lists.{first, any}
use Rattle.rules.specs.RoomAndSoundLedger.{Name, IsByte}
use Rattle.rules.specs.AnswerNumbers.{Value, Amount, Identifier, Version, Fence, Count, Field, YesOrNo, TheName, SnapshotBytes, Reply, reply, done, Refusal, NegativeAmount, InvalidAmount, MissingTenant, OverflowOfReserve, OverflowOfCommit, OverflowOfTopUp, ExposureLimitExceeded, Insufficient, MissingReservation, Overrun, AllocatorExhausted, ActiveReservations, DuplicateTenant, GhostReservation, NegativeLedgerField, ConservationViolation, AggregateOverflow, AlreadyRecoveryAware, InvalidAllocatorFence, LegacySnapshotRequiresMigration, NameTooLong, NamesFull, ReservationsFull, OutputTooShort, BadFrame, UnsoundLedger, reply_of}
use Rattle.rules.specs.AccountRules.{ensure, top_up, limit, reserve, commit, release, read_remaining, read_initial, read_committed, read_reserved, is_too_long}
use Rattle.rules.specs.SnapshotsMigrationCertificates.{Snapshot, bytes_of, twos_complement, signed, Reader, reads, ◌>>=◌, read_number, read_amount, read_name, read_snapshot, whole, snapshot_bytes, snapshot_of_bytes, has_long_name}
use Rattle.rules.specs.Frames.{Operation, on_account, take_snapshot, certify_ledger, prove_conservation, restore_from, recover_from, judge, migrate_to, certify, Parts, Frame, Code, codes, ensure_frame, top_up_frame, limit_frame, reserve_frame, commit_frame, release_frame, snapshot_frame, restore_frame, recovery_frame, migration_frame, certificate_frame, snapshot_certificate_frame, proof_frame, status_frame, value_bytes, line_of_bytes, bytes_of_line}
use Rattle.rules.specs.Domain.{IsAmount, IsWord, IsBytes, SnapshotFits}

-- ── an operation written ───────────────────────────────────────────────────────────────────────

-- An operation or an answer to be written: its first byte, the bytes behind it, and whether a name in them is too long
pub record Written : Type 0 where
  pub number : ℕ
  pub fields : List ℕ
  pub is_long : Bool

unfoldable pub bytes_in : Written → List ℕ
bytes_in w = bytes_of 1 w.number ++ w.fields

unfoldable pub line_in : Written → List ℕ
line_in w = line_of_bytes (bytes_in w)

abbrev pub written : {A : Type 0} → Frame A → A → Option Written
written f x = some (record { number = f.code; fields = f.fields.write x; is_long = f.fields.is_long x })

-- an operation by its row of the list; none for the reads, which have no frame
abbrev pub frame_of : Operation → Option Written
frame_of (on_account (ensure a z)) = written ensure_frame (a, z)
frame_of (on_account (top_up a z)) = written top_up_frame (a, z)
frame_of (on_account (limit a z)) = written limit_frame (a, z)
frame_of (on_account (reserve a z)) = written reserve_frame (a, z)
frame_of (on_account (commit i z)) = written commit_frame (i, z)
frame_of (on_account (release i)) = written release_frame i
frame_of (on_account (read_remaining a)) = none
frame_of (on_account (read_initial a)) = none
frame_of (on_account (read_committed a)) = none
frame_of (on_account (read_reserved a)) = none
frame_of take_snapshot = written snapshot_frame tt
frame_of (restore_from s) = written restore_frame s
frame_of (recover_from s) = written recovery_frame s
frame_of (migrate_to fence s) = written migration_frame (fence, s)
frame_of certify_ledger = written certificate_frame tt
frame_of (certify since s) = written snapshot_certificate_frame (since, s)
frame_of prove_conservation = written proof_frame tt
frame_of (judge s) = written status_frame s

abbrev pub code_of : Operation → Option ℕ
code_of x = Option.map (λ (w : Written). w.number) (frame_of x)

unfoldable pub line_of_operation : Operation → Option (List ℕ)
line_of_operation x = Option.map line_in (frame_of x)

-- parts that numbers of the machine and lent bytes can be
pub record PartsFit (p : Parts) : Type 0 where
  pub number : IsWord p.number
  pub amount : IsAmount p.amount
  pub bytes : IsBytes p.part

-- the operation that a code and parts come to; none stands for 23: no such code, or bytes that are no snapshot
abbrev pub with_parts : Option Code → Parts → Option Operation
with_parts none p = none
with_parts (some c) p = c.of_parts p

unfoldable pub operation_of_parts : (code : ℕ) → Parts → Option Operation
operation_of_parts number p = with_parts (first (λ c. eqb number c.number) codes) p

-- ── the answers that each operation can get ────────────────────────────────────────────────────

-- An answer's form is an answer of which only the number and the kinds of what it carries count
abbrev pub amount : ℤ
amount = pos 0

abbrev pub name : Name
name = []

-- the operation's code, and its forms: done with these values, and these refusals
pub record Answers : Type 0 where
  pub code : ℕ
  pub forms : List Reply

abbrev pub answers : {A : Type 0} → Frame A → List Value → List Refusal → Answers
answers f vs es = record { code = f.code; forms = done vs ∷ map reply_of es }

abbrev pub of_validation : List Refusal → List Refusal
of_validation further =
    NameTooLong ∷ ActiveReservations 0 ∷ DuplicateTenant name ∷ GhostReservation name amount ∷ NegativeLedgerField name 0 amount ∷ ConservationViolation name amount
    ∷ AggregateOverflow ∷ further

abbrev pub of_certificate : List Value
of_certificate = Version 0 ∷ Count 0 ∷ Count 0 ∷ YesOrNo false ∷ Amount amount ∷ Amount amount ∷ YesOrNo false ∷ Amount amount ∷ []

-- a frame's answer has room for every snapshot, so 22 is none of them; 23 is for what is no operation
unfoldable pub answer_table : List Answers
answer_table =
    answers ensure_frame [] (NegativeAmount amount ∷ NameTooLong ∷ NamesFull ∷ UnsoundLedger ∷ [])
    ∷ answers top_up_frame (Amount amount ∷ Amount amount ∷ Amount amount ∷ []) (InvalidAmount ∷ MissingTenant ∷ OverflowOfTopUp ∷ NameTooLong ∷ UnsoundLedger ∷ [])
    ∷ answers limit_frame [] (NegativeAmount amount ∷ NameTooLong ∷ NamesFull ∷ UnsoundLedger ∷ [])
    ∷ answers reserve_frame (Amount amount ∷ Identifier 0 ∷ [])
    (Insufficient amount amount ∷ MissingTenant ∷ OverflowOfReserve amount ∷ ExposureLimitExceeded amount amount ∷ NameTooLong ∷ ReservationsFull ∷ UnsoundLedger ∷ [])
    ∷ answers commit_frame (Amount amount ∷ Amount amount ∷ []) (InvalidAmount ∷ MissingReservation ∷ OverflowOfCommit amount ∷ Overrun amount ∷ UnsoundLedger ∷ [])
    ∷ answers release_frame (Amount amount ∷ Amount amount ∷ []) (MissingReservation ∷ UnsoundLedger ∷ [])
    ∷ answers snapshot_frame (SnapshotBytes [] ∷ []) (AllocatorExhausted ∷ UnsoundLedger ∷ [])
    ∷ answers restore_frame [] (of_validation (NamesFull ∷ UnsoundLedger ∷ []))
    ∷ answers recovery_frame [] (of_validation (LegacySnapshotRequiresMigration ∷ InvalidAllocatorFence 0 ∷ NamesFull ∷ UnsoundLedger ∷ []))
    ∷ answers migration_frame (SnapshotBytes [] ∷ []) (of_validation (AlreadyRecoveryAware ∷ InvalidAllocatorFence 0 ∷ []))
    ∷ answers certificate_frame of_certificate (AllocatorExhausted ∷ UnsoundLedger ∷ [])
    ∷ answers snapshot_certificate_frame of_certificate (NameTooLong ∷ [])
    ∷ answers proof_frame (Version 0 ∷ Count 0 ∷ Count 0 ∷ Amount amount ∷ Amount amount ∷ YesOrNo false ∷ []) (AllocatorExhausted ∷ AggregateOverflow ∷ UnsoundLedger ∷ [])
    ∷ answers status_frame [] (NameTooLong ∷ ConservationViolation name amount ∷ AggregateOverflow ∷ [])
    ∷ []

abbrev pub forms_in : Option Answers → List Reply
forms_in none = []
forms_in (some a) = a.forms

-- the form that an operation's answer has by its number; none where the operation is never answered so
unfoldable pub form_of : (code number : ℕ) → Option Reply
form_of code number = first (λ r. eqb number r.number) (forms_in (first (λ a. eqb code a.code) answer_table))

-- ── an answer read ─────────────────────────────────────────────────────────────────────────────

-- a value of the same kind; no yes or no is another byte than 0 or 1, and no name too long, in a snapshot neither
abbrev pub unless : {A : Type 0} → Bool → A → Reader A
unless refused x bs = cond refused none (reads x bs)

abbrev pub read_like : Value → Reader Value
read_like (Amount _) = do z ← read_amount; reads (Amount z)
read_like (Identifier _) = do n ← read_number 8; reads (Identifier n)
read_like (Version _) = do n ← read_number 8; reads (Version n)
read_like (Fence _) = do n ← read_number 8; reads (Fence n)
read_like (Count _) = do n ← read_number 8; reads (Count n)
read_like (Field _) = do n ← read_number 1; reads (Field n)
read_like (YesOrNo _) = do n ← read_number 1; unless (ltb 1 n) (YesOrNo (eqb n 1))
read_like (TheName _) = do a ← read_name; unless (is_too_long a) (TheName a)
read_like (SnapshotBytes _) = do s ← read_snapshot; unless (has_long_name s.rows) (SnapshotBytes (snapshot_bytes s))

unfoldable pub read_likes : List Value → Reader (List Value)
read_likes [] = reads []
read_likes (v ∷ vs) = do w ← read_like v; ws ← read_likes vs; reads (w ∷ ws)

abbrev pub read_form : Option Reply → Reader Reply
read_form none bs = none
read_form (some form) bs = (do vs ← read_likes form.carried; reads (reply form.number vs)) bs

unfoldable pub read_answer : (code : ℕ) → Reader Reply
read_answer code = do number ← read_number 1; read_form (form_of code number)

-- none stands for 23: the operation with this code is never answered so
unfoldable pub answer_of_bytes : (code : ℕ) → List ℕ → Option Reply
answer_of_bytes code bs = whole (read_answer code bs)

abbrev pub answer_in : (code : ℕ) → Option (List ℕ) → Option Reply
answer_in code none = none
answer_in code (some bs) = answer_of_bytes code bs

unfoldable pub answer_of_line : (code : ℕ) → List ℕ → Option Reply
answer_of_line code line = answer_in code (bytes_of_line line)

-- What an answer of a form can carry: values of the same kinds, as far as bytes can hold them
abbrev pub Holds : (form : Value) → Value → Type 0
Holds (Amount _) v = (z : ℤ) × (v ≡ Amount z) × IsAmount z
Holds (Identifier _) v = (n : ℕ) × (v ≡ Identifier n) × IsWord n
Holds (Version _) v = (n : ℕ) × (v ≡ Version n) × IsWord n
Holds (Fence _) v = (n : ℕ) × (v ≡ Fence n) × IsWord n
Holds (Count _) v = (n : ℕ) × (v ≡ Count n) × IsWord n
Holds (Field _) v = (n : ℕ) × (v ≡ Field n) × IsByte n
Holds (YesOrNo _) v = (b : Bool) × (v ≡ YesOrNo b)
Holds (TheName _) v = (a : Name) × (v ≡ TheName a) × IsBytes a × (is_too_long a ≡ false)
Holds (SnapshotBytes _) v = (s : Snapshot) × (v ≡ SnapshotBytes (snapshot_bytes s)) × SnapshotFits s × (has_long_name s.rows ≡ false)

abbrev pub HoldsAll : (form : List Value) → List Value → Type 0
HoldsAll [] [] = Unit {0}
HoldsAll [] (w ∷ ws) = ⊥
HoldsAll (v ∷ vs) [] = ⊥
HoldsAll (v ∷ vs) (w ∷ ws) = Holds v w × HoldsAll vs ws

abbrev pub OfForm : Option Reply → Reply → Type 0
OfForm none r = ⊥
OfForm (some form) r = HoldsAll form.carried r.carried

-- an answer that the operation with this code can get
abbrev pub CanAnswer : (code : ℕ) → Reply → Type 0
CanAnswer code r = OfForm (form_of code r.number) r

-- ── an answer in numbers ───────────────────────────────────────────────────────────────────────

-- An answer is handed in and out as words, its number and one for each value, with one part of lent bytes, a name or a snapshot, whose word is its length
abbrev pub word_of : Value → ℕ
word_of (Amount z) = twos_complement z
word_of (Identifier n) = n
word_of (Version n) = n
word_of (Fence n) = n
word_of (Count n) = n
word_of (Field n) = n
word_of (YesOrNo b) = cond b 1 0
word_of (TheName a) = length a
word_of (SnapshotBytes bs) = length bs

abbrev pub words_of : Reply → List ℕ
words_of r = r.number ∷ map word_of r.carried

-- a value from its word and the part; none where the word is none of its kind, or the part no snapshot. The length of a part is not asked again
abbrev pub or_none : {A : Type 0} → Bool → A → Option A
or_none refused x = cond refused none (some x)

abbrev pub value_like : Value → (word : ℕ) → (part : List ℕ) → Option Value
value_like (Amount _) word part = some (Amount (signed word))
value_like (Identifier _) word part = some (Identifier word)
value_like (Version _) word part = some (Version word)
value_like (Fence _) word part = some (Fence word)
value_like (Count _) word part = some (Count word)
value_like (Field _) word part = or_none (ltb 255 word) (Field word)
value_like (YesOrNo _) word part = or_none (ltb 1 word) (YesOrNo (eqb word 1))
value_like (TheName _) word part = some (TheName part)
value_like (SnapshotBytes _) word part = Option.map (λ s. SnapshotBytes (snapshot_bytes s)) (snapshot_of_bytes part)

abbrev pub cons_of : Option Value → Option (List Value) → Option (List Value)
cons_of none vs = none
cons_of (some v) none = none
cons_of (some v) (some vs) = some (v ∷ vs)

unfoldable pub values_like : List Value → (words : List ℕ) → (part : List ℕ) → Option (List Value)
values_like [] words part = some []
values_like (v ∷ vs) [] part = none
values_like (v ∷ vs) (word ∷ words) part = cons_of (value_like v word part) (values_like vs words part)

abbrev pub form_filled : Option Reply → (words : List ℕ) → (part : List ℕ) → Option Reply
form_filled none words part = none
form_filled (some form) words part = Option.map (reply form.number) (values_like form.carried words part)

-- none stands for 23: the operation with this code is never answered so, or bytes that are no snapshot
unfoldable pub answer_of_words : (code : ℕ) → (words : List ℕ) → (part : List ℕ) → Option Reply
answer_of_words code [] part = none
answer_of_words code (number ∷ words) part = form_filled (form_of code number) words part

-- ── an answer written ──────────────────────────────────────────────────────────────────────────

abbrev pub long_in : Option Snapshot → Bool
long_in none = false
long_in (some s) = has_long_name s.rows

abbrev pub is_long_value : Value → Bool
is_long_value (Amount z) = false
is_long_value (Identifier n) = false
is_long_value (Version n) = false
is_long_value (Fence n) = false
is_long_value (Count n) = false
is_long_value (Field n) = false
is_long_value (YesOrNo b) = false
is_long_value (TheName a) = is_too_long a
is_long_value (SnapshotBytes bs) = long_in (snapshot_of_bytes bs)

abbrev pub answer_written : Reply → Written
answer_written r = record { number = r.number; fields = flat_map value_bytes r.carried; is_long = any is_long_value r.carried }

-- ── what writing comes to ──────────────────────────────────────────────────────────────────────

-- The answer, and the lent room after it
pub record Recording : Type 0 where
  pub reply : Reply
  pub room : List ℕ

-- a refusal leaves the room as it is
abbrev pub unwritten : Refusal → (room : List ℕ) → Recording
unwritten e room = record { reply = reply_of e; room = room }

-- 22 where a text does not fit; else it stands at the front of the room, what is behind it stays, and how long it is is told
unfoldable pub fitting : (text room : List ℕ) → Recording
fitting text room =
    cond (ltb (length room) (length text)) (unwritten OutputTooShort room)
    (record { reply = done (Count (length text) ∷ []); room = text ++ drop (length text) room })

-- 23 first, then 19, then 22; an operation or an answer is written as its line or as its bytes
unfoldable pub recording : (text : Written → List ℕ) → Option Written → (room : List ℕ) → Recording
recording text none room = unwritten BadFrame room
recording text (some w) room = cond w.is_long (unwritten NameTooLong room) (fitting (text w) room)

abbrev pub frame_of_some : Option Operation → Option Written
frame_of_some none = none
frame_of_some (some x) = frame_of x

unfoldable pub record_operation : (text : Written → List ℕ) → (code : ℕ) → Parts → (room : List ℕ) → Recording
record_operation text code p room = recording text (frame_of_some (operation_of_parts code p)) room

unfoldable pub record_answer : (text : Written → List ℕ) → (code : ℕ) → (words part room : List ℕ) → Recording
record_answer text code words part room = recording text (Option.map answer_written (answer_of_words code words part)) room
