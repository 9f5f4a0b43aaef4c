-- What the reader of answers promises: the words of the answer that the rules read, or that they read none.
use Rattle.std.specs.Prelude.{◌≡◌, List, ◌++◌, map, ℕ, ◌+◌, ◌-◌, ◌*◌, ◌≤◌, ◌<◌, length, drop, get_or, replicate, Option as Answer, Some, None, Result, Ok, Err}
use Rattle.std.proofs.Math.Option
use Rattle.std.proofs.Math.Option.{Option, none, some}
use Rattle.rules.specs.RoomAndSoundLedger.{longest_name}
use Rattle.rules.specs.AnswerNumbers.{Value, Reply}
use Rattle.rules.specs.SnapshotsMigrationCertificates.{whole}
use Rattle.rules.specs.Frames.{reply_bytes}
use Rattle.rules.specs.Domain.{IsBytes}
use Rattle.rules.specs.Recorder.{read_likes, answer_of_line, word_of, words_of}
use Rattle.digits.specs.Decoding.{FrontDecoded}
use Rattle.recorder.specs.Shapes.{Kind, kind_of}
use Rattle.refusals.specs.declared.Refusal.{Refusal}
use Rattle.refusals.specs.declared.Refusal.TheVariants.{OutputTooShort, BadFrame}

-- ── an answer's words ──────────────────────────────────────────────────────────────────────────

-- an answer's number and its values, of which there are eight at most
abbrev pub most_words : ℕ
most_words = 9

-- words, and zeros for those that are missing
abbrev pub filled : (size : ℕ) → List ℕ → List ℕ
filled size words = words ++ replicate (size - length words) 0

pub record IsAnswer (read : Reply) (after : List ℕ) (r : Result (Unit {0}) Refusal) : Type 0 where
  pub answer : r ≡ Ok tt
  pub words : after ≡ filled most_words (words_of read)

pub record NoAnswer (before after : List ℕ) (r : Result (Unit {0}) Refusal) : Type 0 where
  pub answer : r ≡ Err BadFrame
  pub words : after ≡ before

-- by the answer that the rules read, or none
abbrev pub ReadsAnswer : Option Reply → (before after : List ℕ) → Result (Unit {0}) Refusal → Type 0
ReadsAnswer none before after r = NoAnswer before after r
ReadsAnswer (some read) before after r = IsAnswer read after r

-- ── an answer's line ───────────────────────────────────────────────────────────────────────────

-- 22: nothing has changed
pub record TooShort (before after words words-after : List ℕ) (r : Result (Unit {0}) Refusal) : Type 0 where
  pub answer : r ≡ Err OutputTooShort
  pub same_bytes : after ≡ before
  pub same_words : words-after ≡ words

-- the answer's bytes stand at the front of the lent ones
abbrev pub StandsInFront : Option Reply → (before after : List ℕ) → Type 0
StandsInFront none before after = Unit {0}
StandsInFront (some read) before after = after ≡ reply_bytes read ++ drop (length (reply_bytes read)) before

-- the lent bytes hold those of the line's pairs of digits up to the first that is none, whatever is read of them
pub record LineRead (read : Option Reply) (line before after words words-after : List ℕ) (r : Result (Unit {0}) Refusal) : Type 0 where
  pub size : ℕ
  pub front : FrontDecoded line before after size
  pub bytes : StandsInFront read before after
  pub answer : ReadsAnswer read words words-after r

-- by whether the lent bytes are fewer than half the line's characters
pub record ReadsLine (code : ℕ) (line before after words words-after : List ℕ) (r : Result (Unit {0}) Refusal) : Type 0 where
  pub too_short : 2 * length before < length line → TooShort before after words words-after r
  pub long_enough : length line ≤ 2 * length before → LineRead (answer_of_line code line) line before after words words-after r

-- ── what stands behind an answer's number ──────────────────────────────────────────────────────

-- bytes with a number at their front
abbrev pub HasNumber : List ℕ → Type 0
HasNumber bs = IsBytes bs × (1 ≤ length bs)

abbrev pub values_in : Answer (List ℕ) → Option (List ℕ)
values_in (Some values) = some values
values_in None = none

-- the words of the values that the rules read, whatever form of these kinds they go by
abbrev pub Carries : (kinds : List Kind) → List ℕ → Answer (List ℕ) → Type 0
Carries kinds bs r = (form : List Value) → map kind_of form ≡ kinds → values_in r ≡ Option.map (λ vs. filled 8 (map word_of vs)) (whole (read_likes form (drop 1 bs)))

-- where the name behind the number ends, or that there is none: no byte for its length, or more than 24
abbrev pub NameEnds : List ℕ → Answer ℕ → Type 0
NameEnds bs (Some end) = (end ≡ 2 + get_or bs 1 0) × (1 < length bs) × (get_or bs 1 0 ≤ longest_name)
NameEnds bs None = 1 < length bs → longest_name < get_or bs 1 0
