-- Lines read turn by turn: of all bytes read so far, which lines were handed on, what is held of the rest, and what was answered. The capacity is the length
-- of the lent input.
use Rattle.std.specs.Prelude.{◌≡◌, Bool, true, false, List, [], ◌∷◌, ◌++◌, map, ℕ, ◌+◌, ◌-◌, ◌≤◌, ◌<◌, length, take}
use Rattle.rules.specs.Lists.{All}
use Rattle.rules.specs.AnswerNumbers.{Lent, unsound}
use Rattle.rules.specs.Frames.{lent_after, longest_line, lines_of, answers_to_lines}
use Rattle.records.specs.Rows.{row}
use Rattle.frames.specs.Answering.{IsLent, longest_answer}
use Rattle.lines.specs.Batching.{IsLine, with_feeds}
use Rattle.turns.specs.declared.Held.{Held}
use Rattle.turns.specs.declared.Turn.{Turn}

abbrev pub held_in : List ℕ → Held → List ℕ
held_in input h = row (h.end - h.from) h.from input

abbrev pub Within : List ℕ → Held → Type 0
Within input h = (h.from ≤ h.end) × (h.end ≤ length input)

-- ── the lines handed on ────────────────────────────────────────────────────────────────────────

-- What was read of the line that is not whole yet is held. A line that has filled the lent input was handed on, and the rest of it is passed over.
abbrev pub Holds : (capacity : ℕ) → (rest : List ℕ) → (passing : Bool) → (held : List ℕ) → Type 0
Holds capacity rest false held = held ≡ rest
Holds capacity rest true held = (held ≡ []) × IsLine rest × (capacity ≤ length rest)

abbrev pub passed_over : Bool → List ℕ → List (List ℕ)
passed_over false line = []
passed_over true line = line ∷ []

-- All that was read is lines, each with its line feed, and a rest; of each line as much was handed on as the lent input can hold.
pub record Reads (capacity : ℕ) (read : List ℕ) (handed_on : List (List ℕ)) (passing : Bool) (held : List ℕ) : Type 0 where
  pub lines : List (List ℕ)
  pub rest : List ℕ
  pub are_lines : All IsLine lines
  pub read_are : read ≡ with_feeds lines ++ rest
  pub holds : Holds capacity rest passing held
  pub are_handed_on : handed_on ≡ map (take capacity) (lines ++ passed_over passing rest)

-- more was read, which hands on no line
abbrev pub TakesIn : (capacity : ℕ) → (passing : Bool) (held more : List ℕ) → (passing-after : Bool) (held_after : List ℕ) → Type 0
TakesIn capacity passing held more passing-after held_after =
    (read : List ℕ) (handed_on : List (List ℕ)) → Reads capacity read handed_on passing held → Reads capacity (read ++ more) handed_on passing-after held_after

-- What is held, in which there is no whole line, stays held; where it fills the lent input, it is handed on for the line that it begins.
abbrev pub MakesRoom : (held input : List ℕ) → Held → Type 0
MakesRoom held input h =
    (read : List ℕ) (handed_on : List (List ℕ)) → IsLine held → Reads (length input) read handed_on false held
    → Reads (length input) read (handed_on ++ passed_over h.passing input) h.passing (held_in input h) × IsLine (held_in input h)

-- ── their answers ──────────────────────────────────────────────────────────────────────────────

-- the room that the longest answer line takes
abbrev pub longest_answer_line : ℕ
longest_answer_line = longest_answer + longest_answer + 1

-- What was written is the definition's answers to the lines handed on, and the memory is what is lent after them.
pub record Answers (l : Lent) (capacity : ℕ) (read written memory : List ℕ) (passing : Bool) (held : List ℕ) : Type 0 where
  pub handed_on : List (List ℕ)
  pub reads : Reads capacity read handed_on passing held
  pub answered : written ≡ answers_to_lines l handed_on
  pub lent : IsLent memory (lent_after l handed_on)

-- after a step: where it was the last, no whole line is left
pub record Answered (l : Lent) (read written memory input output : List ℕ) (t : Turn) : Type 0 where
  pub answers : Answers l (length input) read (written ++ take t.written output) memory t.held.passing (held_in input t.held)
  pub none_left : t.done ≡ true → IsLine (held_in input t.held)

abbrev pub PromisesTurn : (passing : Bool) (held before after input output : List ℕ) → Turn → Type 0
PromisesTurn passing held before after input output t =
    (l : Lent) (read written : List ℕ) → Answers l (length input) read written before passing held → Answered l read written after input output t

-- the last step leaves room to read into; every other one gets further
pub record TurnWithin (h : Held) (input output : List ℕ) (t : Turn) : Type 0 where
  pub held : Within input t.held
  pub written : t.written ≤ length output
  pub room_left : t.done ≡ true → t.held.end < length input
  pub further : t.done ≡ false → (h.from < t.held.from) × (t.held.end ≡ h.end)

-- ── the end of the input ───────────────────────────────────────────────────────────────────────

-- All that was written is the definition's answers to the lines of all that was read.
pub record Ends (l : Lent) (read written memory : List ℕ) : Type 0 where
  pub answered : written ≡ answers_to_lines l (lines_of read)
  pub lent : IsLent memory (lent_after l (lines_of read))

abbrev pub PromisesLast : (passing : Bool) (held input before after output : List ℕ) → (size : ℕ) → Type 0
PromisesLast passing held input before after output size =
    (l : Lent) (read written : List ℕ) → longest_line < length input → IsLine held → Answers l (length input) read written before passing held
    → Ends l read (written ++ take size output) after

-- memory that is no sound ledger's room keeps its bytes
abbrev pub KeepsUnsound : (before after : List ℕ) → Type 0
KeepsUnsound before after = IsLent before unsound → after ≡ before
