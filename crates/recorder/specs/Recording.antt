-- What the recorder's functions promise in the rules' words.
use Rattle.std.specs.Prelude.{◌≡◌, cond, List, ℕ, eqb, ℤ, Result}
use Rattle.rules.specs.SnapshotsMigrationCertificates.{twos_complement}
use Rattle.rules.specs.Frames.{Parts}
use Rattle.refusals.specs.declared.Refusal.{Refusal}
use Rattle.refusals.specs.Answers.{answer_of, carries_count}
use Rattle.rules.specs.Recorder.{Written, bytes_in, Recording, record_operation}

-- the answer and the room are those of the rules
pub record Records (rule : Recording) (after : List ℕ) (r : Result ℕ Refusal) : Type 0 where
  pub reply : answer_of carries_count r ≡ rule.reply
  pub room : after ≡ rule.room

abbrev pub text_in : (text : List ℕ → List ℕ) → Written → List ℕ
text_in text w = text (bytes_in w)

abbrev pub parts : (number : ℕ) → (amount : ℤ) → (part : List ℕ) → Parts
parts number amount part = record { number = number; amount = amount; part = part }

-- an operation that is handed in by its code and parts, put out as this text of its bytes
abbrev pub RecordsOperation : (text : List ℕ → List ℕ) (code : ℕ) → Parts → (before after : List ℕ) → Result ℕ Refusal → Type 0
RecordsOperation text code p before after r = Records (record_operation (text_in text) code p before) after r

-- the word that stands before a snapshot: a migration's fence, a certificate's since
abbrev pub word_behind : (code number : ℕ) → ℤ → ℕ
word_behind code number amount = cond (eqb code 10) number (twos_complement amount)
