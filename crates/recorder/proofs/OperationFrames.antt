-- An operation put together: its head, which `answer_bytes` writes as it writes an answer, and behind it a snapshot where it stands. `written` brings what `put` promises
-- to what the rules say of the operation; the `.. -frame` laws open the list of operations at a code.
use mathlib.Core.Path.{◌≡◌, refl, sym, ◌∙◌, ap, subst}
use mathlib.Core.Logic.{◌⊎◌, inl, inr}
use mathlib.Core.Bool.{Bool, true, false, ◌||◌}
use mathlib.Core.List.{List, [], ◌∷◌, ◌++◌, flat_map, append_assoc, append-nil}
use mathlib.Core.Option.{Option, none, some}
use Prim.Native.Nat.{ℕ, zero, suc, ◌≤◌, ◌<◌}
use native.Mathlib.Omega.{arith}
use lib.ListN.{length, take, drop, length-append}
use lib.Seq.{take_at}
use Rattle.std.specs.Prelude.{Result, Err}
use Rattle.rules.specs.Lists.{first, All}
use Rattle.rules.specs.RoomAndSoundLedger.{IsByte}
use Rattle.rules.specs.AnswerNumbers.{Value, Identifier, Reply, reply}
use Rattle.rules.specs.AccountRules.{is_too_long}
use Rattle.rules.specs.SnapshotsMigrationCertificates.{Snapshot, bytes_of, amount_bytes, name_bytes, snapshot_bytes, snapshot_of_bytes, has_long_name}
use Rattle.rules.specs.Frames.{Parts, longest_snapshot, codes, value_bytes, reply_bytes}
use Rattle.rules.specs.Recorder.{Written, bytes_in, with_parts, operation_of_parts, frame_of_some, fitting, recording, record_operation}
use Rattle.rules.proofs.Fields.{no_code}
use Rattle.rules.proofs.Numbers.{bytes-length}
use Rattle.rules.proofs.SnapshotBytes.{snapshot-only, longest}
use Rattle.snapshot_reader.specs.Standing.{checked_as, ShortNames}
use Rattle.snapshot_reader.proofs.Checking.{Says, says}
use Rattle.answer_bytes.specs.Writing.{WritesReply}
use Rattle.recorder.specs.Recording.{Records, RecordsOperation, word_behind}
use Rattle.refusals.specs.declared.Refusal.{Refusal}
use Rattle.refusals.specs.declared.Refusal.TheVariants.{NameTooLong, BadFrame}

-- ── the head ───────────────────────────────────────────────────────────────────────────────────

module _ {answer : Reply} {before after : List ℕ} {size : ℕ} (writes : WritesReply answer before after size) where
  pub head-is : take size after ≡ reply_bytes answer
  head-is = ap (take size) writes.output ∙ take_at (reply_bytes answer) _ size (sym writes.size)

  pub head-within : size ≤ length after
  head-within = omega (arith, writes.size, ap length writes.output, length-append (reply_bytes answer) (drop (length (reply_bytes answer)) before))

  pub head-size : length (take size after) ≡ size
  head-size = ap length head-is ∙ sym writes.size

pub code-size : (n : ℕ) → length (reply_bytes (reply n [])) ≡ 1
unfolding reply_bytes flat_map
code-size n = length-append (bytes_of 1 n) [] ∙ omega (arith, bytes-length 1 n)

pub word_size : (n word : ℕ) → length (reply_bytes (reply n (Identifier word ∷ []))) ≡ 9
unfolding reply_bytes flat_map
word_size n word = length-append (bytes_of 1 n) (bytes_of 8 word ++ []) ∙ omega (arith, bytes-length 1 n, length-append (bytes_of 8 word) [], bytes-length 8 word)

-- the values behind a code, and what follows them
pub one_value : (v : Value) (tail : List ℕ) → flat_map value_bytes (v ∷ []) ++ tail ≡ value_bytes v ++ tail
unfolding flat_map
one_value v tail = ap (λ l. l ++ tail) (append-nil (value_bytes v))

pub two-values : (v w : Value) → flat_map value_bytes (v ∷ w ∷ []) ++ [] ≡ value_bytes v ++ value_bytes w
unfolding flat_map
two-values v w = append-nil (value_bytes v ++ (value_bytes w ++ [])) ∙ ap (λ l. value_bytes v ++ l) (append-nil (value_bytes w))

-- ── what is written ────────────────────────────────────────────────────────────────────────────

abbrev pub writing : (number : ℕ) → List ℕ → Bool → Option Written
writing number fields long = some (record { number = number; fields = fields; is_long = long })

module _ (text : List ℕ → List ℕ) (code : ℕ) (p : Parts) (room : List ℕ) where
  -- the operation's bytes are those of the head and the tail
  pub written : (fields : List ℕ) (long : Bool) (values : List Value) (head tail : List ℕ) {after : List ℕ} {r : Result ℕ Refusal}
      → frame_of_some (operation_of_parts code p) ≡ writing code fields long → long ≡ false → head ≡ reply_bytes (reply code values) → flat_map value_bytes values ++ tail ≡ fields
      → Records (fitting (text (head ++ tail)) room) after r → RecordsOperation text code p room after r
  unfolding record_operation recording bytes_in reply_bytes
  written fields long values head tail {after} {r} frame short is all h =
      let same : head ++ tail ≡ bytes_of 1 code ++ fields = ap (λ l. l ++ tail) is ∙ append_assoc (bytes_of 1 code) (flat_map value_bytes values) tail ∙ ap (λ l. bytes_of 1 code ++ l) all in
      rw (frame, short) (subst (λ l. Records (fitting (text l) room) after r) same h)

  pub too_long : (fields : List ℕ) (long : Bool) → frame_of_some (operation_of_parts code p) ≡ writing code fields long → long ≡ true → RecordsOperation text code p room room (Err NameTooLong)
  unfolding record_operation recording
  too_long fields long frame is = rw (frame, is) (record { reply = refl; room = refl })

  pub no-operation : frame_of_some (operation_of_parts code p) ≡ none → RecordsOperation text code p room room (Err BadFrame)
  unfolding record_operation recording
  no-operation frame = rw frame (record { reply = refl; room = refl })

-- ── the list of operations at a code ───────────────────────────────────────────────────────────

pub named-frame : (code : ℕ) → 1 ≤ code → code ≤ 4 → (p : Parts) → frame_of_some (operation_of_parts code p) ≡ writing code (name_bytes p.part ++ amount_bytes p.amount) (is_too_long p.part || false)
unfolding operation_of_parts codes first
named-frame zero low high p = absurd (omega arith)
named-frame (suc zero) low high p = refl
named-frame (suc (suc zero)) low high p = refl
named-frame (suc (suc (suc zero))) low high p = refl
named-frame (suc (suc (suc (suc zero)))) low high p = refl
named-frame (suc (suc (suc (suc (suc code))))) low high p = absurd (omega arith)

pub unknown-frame : (code : ℕ) → (1 ≤ code → 14 < code) → (p : Parts) → frame_of_some (operation_of_parts code p) ≡ none
unfolding operation_of_parts
unknown-frame code h p = ap (λ c. frame_of_some (with_parts c p)) (no_code code h)

pub commit-frame : (p : Parts) → frame_of_some (operation_of_parts 5 p) ≡ writing 5 (bytes_of 8 p.number ++ amount_bytes p.amount) false
unfolding operation_of_parts codes first
commit-frame p = refl

pub release-frame : (p : Parts) → frame_of_some (operation_of_parts 6 p) ≡ writing 6 (bytes_of 8 p.number) false
unfolding operation_of_parts codes first
release-frame p = refl

pub alone-frame : (code : ℕ) → (code ≡ 7) ⊎ (code ≡ 11) ⊎ (code ≡ 13) → (p : Parts) → frame_of_some (operation_of_parts code p) ≡ writing code [] false
unfolding operation_of_parts codes first
alone-frame code (inl e) p = rw e
alone-frame code (inr (inl e)) p = rw e
alone-frame code (inr (inr e)) p = rw e

-- a snapshot that the part is, behind some bytes
abbrev pub behind : (code : ℕ) → List ℕ → Option Snapshot → Option Written
behind code front none = none
behind code front (some s) = writing code (front ++ snapshot_bytes s) (has_long_name s.rows)

pub snapshot-frame : (code : ℕ) → (code ≡ 8) ⊎ (code ≡ 9) ⊎ (code ≡ 14) → (p : Parts) (o : Option Snapshot) → snapshot_of_bytes p.part ≡ o → frame_of_some (operation_of_parts code p) ≡ behind code [] o
unfolding operation_of_parts codes first
snapshot-frame code (inl c) p none e = rw (c, e)
snapshot-frame code (inl c) p (some s) e = rw (c, e)
snapshot-frame code (inr (inl c)) p none e = rw (c, e)
snapshot-frame code (inr (inl c)) p (some s) e = rw (c, e)
snapshot-frame code (inr (inr c)) p none e = rw (c, e)
snapshot-frame code (inr (inr c)) p (some s) e = rw (c, e)

pub word-frame : (code : ℕ) → (code ≡ 10) ⊎ (code ≡ 12) → (p : Parts) (o : Option Snapshot) → snapshot_of_bytes p.part ≡ o
    → frame_of_some (operation_of_parts code p) ≡ behind code (bytes_of 8 (word_behind code p.number p.amount)) o
unfolding operation_of_parts codes first
word-frame code (inl c) p none e = rw (c, e)
word-frame code (inl c) p (some s) e = rw (c, e)
word-frame code (inr c) p none e = rw (c, e)
word-frame code (inr c) p (some s) e = rw (c, e)

-- bytes that the check has refused are no snapshot, or one with a name that is too long
pub refused : (text : List ℕ → List ℕ) (code : ℕ) (p : Parts) (room front : List ℕ) {given : Result (Unit {0}) Refusal} {r : Result ℕ Refusal} {e : Refusal}
    → ((o : Option Snapshot) → snapshot_of_bytes p.part ≡ o → frame_of_some (operation_of_parts code p) ≡ behind code front o)
    → given ≡ checked_as (snapshot_of_bytes p.part) → given ≡ Err e → r ≡ Err e → RecordsOperation text code p room room r
refused text code p room front {r = r} {e = e} frame is told answered = subst (RecordsOperation text code p room room) (sym answered) (of-refusal (says p.part is told))
  where
    of-refusal : Says p.part (Err e) → RecordsOperation text code p room room (Err e)
    of-refusal (inl (bad, none_read)) = subst (λ x. RecordsOperation text code p room room (Err x)) (sym bad) (no-operation text code p room (frame none none_read))
    of-refusal (inr (long, name)) =
        subst (λ x. RecordsOperation text code p room room (Err x)) (sym long) (too_long text code p room _ _ (frame (some name.snapshot) name.is_read) name.long)

-- a snapshot that passes is spelled as it stands, and no longer than a frame has room for
pub snapshot-stands : (part : List ℕ) → All IsByte part → (h : ShortNames part) → (snapshot_bytes h.snapshot ≡ part) × (length part ≤ longest_snapshot)
snapshot-stands part bytes h =
    let (is, fits) = snapshot-only part bytes h.snapshot h.is_read in
    (is, omega (arith, ap length is, longest h.snapshot fits.count h.short))
