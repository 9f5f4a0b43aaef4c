-- A line to its answer line, and a stretch of lines to their answers.
use Rattle.std.specs.Prelude.{◌≡◌, ◌⊎◌, ◌≢◌, Bool, List, [], ◌∷◌, ◌++◌, ℕ, ◌+◌, ◌-◌, ◌≤◌, ◌<◌, length, get_or, take, drop, Option as Answer, Some, None}
use Rattle.std.proofs.Math.Option.{Option}
use Rattle.rules.specs.Lists.{All}
use Rattle.rules.specs.AnswerNumbers.{Lent, unsound}
use Rattle.rules.specs.Frames.{Operation, lent_after, line_feed, answer_line, answer_or23, operation_of_line, answer_to_line, answers_to_lines, longest_frame}
use Rattle.frames.specs.Answering.{IsLent, room_for, OfLent, Known}
use Rattle.lines.specs.declared.Answered.{Answered}
use Rattle.lines.specs.declared.Progress.{Progress}

-- the room that the longest answer line to an operation takes: two characters a byte, and the line feed
abbrev pub line_room : Option Operation → ℕ
line_room o = room_for o + room_for o + 1

-- the answer line and its line feed stand at the front of the output; the memory is what is lent after the operation
pub record AnswersLine (o : Option Operation) (l : Lent) (before after output-before output-after : List ℕ) (written : ℕ) : Type 0 where
  pub size : written ≡ length (answer_line (answer_or23 l o).reply) + 1
  pub output : output-after ≡ answer_line (answer_or23 l o).reply ++ (line_feed ∷ drop written output-before)
  pub lent : IsLent after (answer_or23 l o).lent
  pub untouched : l ≡ unsound → after ≡ before

-- an answer is given exactly where there is room for the longest one to this operation, and else nothing changes
abbrev pub LineAnswered : Option Operation → Lent → (before after output-before output-after : List ℕ) → Answer ℕ → Type 0
LineAnswered o l before after output-before output-after (Some size) = (line_room o ≤ length output-before) × AnswersLine o l before after output-before output-after size
LineAnswered o l before after output-before output-after None = (length output-before < line_room o) × (after ≡ before) × (output-after ≡ output-before)

abbrev pub PromisesLine : Option Operation → (before after output-before output-after : List ℕ) → Answer ℕ → Type 0
PromisesLine o before after output-before output-after r = OfLent before (λ l. LineAnswered o l before after output-before output-after r)

-- what the work on lines asks: to know whether the memory is the room of a sound ledger, and room for the longest frame
abbrev pub Ready : Bool → (memory work : List ℕ) → Type 0
Ready known memory work = Known known memory × (longest_frame ≤ length work)

-- ── a stretch of lines ─────────────────────────────────────────────────────────────────────────

abbrev pub IsLine : List ℕ → Type 0
IsLine line = All (λ c. c ≢ line_feed) line

-- each line with its line feed
unfoldable pub with_feeds : List (List ℕ) → List ℕ
with_feeds [] = []
with_feeds (line ∷ lines) = line ++ (line_feed ∷ with_feeds lines)

-- the first line feed from a byte on, or that there is none
abbrev pub FirstFeed : List ℕ → ℕ → Answer ℕ → Type 0
FirstFeed input from (Some at) = (from ≤ at) × (at < length input) × (get_or input at 0 ≡ line_feed) × IsLine (take (at - from) (drop from input))
FirstFeed input from None = IsLine (drop from input)

-- each line answered had room for the longest answer to its operation
abbrev pub HadRoom : Lent → (left : ℕ) → List (List ℕ) → Type 0
HadRoom l left [] = Unit {0}
HadRoom l left (line ∷ lines) = (line_room (operation_of_line line) ≤ left) × HadRoom (answer_to_line l line).lent (left - (length (answer_line (answer_to_line l line).reply) + 1)) lines

-- why a batch goes no further: no whole line is left, or the next one's answer might not fit
pub record NextTooLong (rest : List ℕ) (left : ℕ) : Type 0 where
  pub line : List ℕ
  pub later : List ℕ
  pub is_line : IsLine line
  pub stands : rest ≡ line ++ (line_feed ∷ later)
  pub short : left < line_room (operation_of_line line)

-- the input's first line ends there
pub record FirstLine (input : List ℕ) (end : ℕ) : Type 0 where
  pub inside : end < length input
  pub feed : get_or input end 0 ≡ line_feed
  pub is_line : IsLine (take end input)

abbrev pub NextFound : List ℕ → Answer Answered → Type 0
NextFound input (Some a) = FirstLine input a.end
NextFound input None = Unit {0}

-- where the first line is not answered, nothing changes
abbrev pub NextAnswered : Lent → (input before after output-before output-after : List ℕ) → Answer Answered → Type 0
NextAnswered l input before after output-before output-after (Some a) =
    LineAnswered (operation_of_line (take a.end input)) l before after output-before output-after (Some a.size)
NextAnswered l input before after output-before output-after None =
    (after ≡ before) × (output-after ≡ output-before) × (IsLine input ⊎ NextTooLong input (length output-before))

abbrev pub PromisesNext : (input before after output-before output-after : List ℕ) → Answer Answered → Type 0
PromisesNext input before after output-before output-after r = OfLent before (λ l. NextAnswered l input before after output-before output-after r)

-- the lines answered are those at the front of the input; their answers stand at the front of the output
pub record Batches (l : Lent) (input before after output-before output-after : List ℕ) (b : Progress) : Type 0 where
  pub lines : List (List ℕ)
  pub are_lines : All IsLine lines
  pub input_used : take b.used input ≡ with_feeds lines
  pub used : b.used ≡ length (with_feeds lines)
  pub written : b.written ≡ length (answers_to_lines l lines)
  pub output : output-after ≡ answers_to_lines l lines ++ drop b.written output-before
  pub lent : IsLent after (lent_after l lines)
  pub untouched : l ≡ unsound → after ≡ before
  pub had_room : HadRoom l (length output-before) lines
  pub stopped : IsLine (drop b.used input) ⊎ NextTooLong (drop b.used input) (length output-before - b.written)

abbrev pub PromisesBatch : (input before after output-before output-after : List ℕ) → Progress → Type 0
PromisesBatch input before after output-before output-after b = OfLent before (λ l. Batches l input before after output-before output-after b)

abbrev pub ProgressWithin : (input output : List ℕ) → Progress → Type 0
ProgressWithin input output b = (b.used ≤ length input) × (b.written ≤ length output)
