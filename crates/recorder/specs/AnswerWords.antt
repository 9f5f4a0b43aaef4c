-- An answer that is handed in as words and a part, kind by kind: whether it can be written, and its bytes. Word 0 is its number, word 1 that of the first value.
use Rattle.std.specs.Prelude.{◌≡◌, Bool, false, cond, not, ◌||◌, List, [], ◌∷◌, ◌++◌, ℕ, suc, ◌≤◌, ltb, length, get_or, Result, Ok, Err}
use Rattle.rules.specs.AnswerNumbers.{Value, Identifier, Field, TheName, Reply, reply}
use Rattle.rules.specs.AccountRules.{is_too_long}
use Rattle.rules.specs.SnapshotsMigrationCertificates.{snapshot_of_bytes}
use Rattle.rules.specs.Recorder.{long_in}
use Rattle.refusals.specs.declared.Refusal.{Refusal}
use Rattle.refusals.specs.declared.Refusal.TheVariants.{NameTooLong, BadFrame}
use Rattle.snapshot_reader.specs.Standing.{is_read}
use Rattle.recorder.specs.Shapes.{Kind, a_word, a_byte, a_flag, a_name, a_snapshot}

-- ── 23 before 19 ───────────────────────────────────────────────────────────────────────────────

-- a word that is none of its kind, or a part that is no snapshot
abbrev pub is_bad : Kind → (word : ℕ) → (part : List ℕ) → Bool
is_bad a_word word part = false
is_bad a_byte word part = ltb 255 word
is_bad a_flag word part = ltb 1 word
is_bad a_name word part = false
is_bad a_snapshot word part = not (is_read (snapshot_of_bytes part))

abbrev pub is_long : Kind → (part : List ℕ) → Bool
is_long a_word part = false
is_long a_byte part = false
is_long a_flag part = false
is_long a_name part = is_too_long part
is_long a_snapshot part = long_in (snapshot_of_bytes part)

abbrev pub bad_from : List Kind → (at : ℕ) → (words part : List ℕ) → Bool
bad_from [] at words part = false
bad_from (k ∷ ks) at words part = is_bad k (get_or words at 0) part || bad_from ks (suc at) words part

abbrev pub long_is_in : List Kind → (part : List ℕ) → Bool
long_is_in [] part = false
long_is_in (k ∷ ks) part = is_long k part || long_is_in ks part

abbrev pub judged_as : List Kind → (words part : List ℕ) → Result (Unit {0}) Refusal
judged_as ks words part = cond (bad_from ks 1 words part) (Err BadFrame) (cond (long_is_in ks part) (Err NameTooLong) (Ok tt))

-- ── the bytes ──────────────────────────────────────────────────────────────────────────────────

-- whichever kind of number a word is, its bytes are the same; a snapshot stands behind the head, from where it is lent
abbrev pub plain : Kind → (word : ℕ) → (part : List ℕ) → List Value
plain a_word word part = Identifier word ∷ []
plain a_byte word part = Field word ∷ []
plain a_flag word part = Field word ∷ []
plain a_name word part = TheName part ∷ []
plain a_snapshot word part = []

abbrev pub plain_from : List Kind → (at : ℕ) → (words part : List ℕ) → List Value
plain_from [] at words part = []
plain_from (k ∷ ks) at words part = plain k (get_or words at 0) part ++ plain_from ks (suc at) words part

abbrev pub head_of : List Kind → (number : ℕ) → (words part : List ℕ) → Reply
head_of ks number words part = reply number (plain_from ks 1 words part)

-- a snapshot is carried alone
abbrev pub tail_at : Kind → (part : List ℕ) → List ℕ
tail_at a_word part = []
tail_at a_byte part = []
tail_at a_flag part = []
tail_at a_name part = []
tail_at a_snapshot part = part

abbrev pub tail_of : List Kind → (part : List ℕ) → List ℕ
tail_of [] part = []
tail_of (k ∷ ks) part = tail_at k part

-- what can be written: it has passed, and behind another number than 0 stand at most three values
pub record Writable (ks : List Kind) (number : ℕ) (words part : List ℕ) : Type 0 where
  pub passes : judged_as ks words part ≡ Ok tt
  pub done : 4 ≤ length ks → number ≡ 0
