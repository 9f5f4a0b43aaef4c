-- From bytes to a line, by equations of `take`, `drop` and `++`: a part answered and put back (`put_back`), spelled and ended (`fed`), is the answer's line
-- (`line-written`). Besides, what `is_sound` decides as what is known of the memory (`found`), and so as one of the two that it can be lent as.
use mathlib.Core.Path.{◌≡◌, refl, sym, ap, ◌∙◌}
use mathlib.Core.Bool.{Bool, true, false}
use mathlib.Core.List.{List, ◌∷◌, ◌++◌, append_assoc}
use mathlib.Core.Option.{Option}
use Prim.Native.Nat.{ℕ, suc, ◌+◌, ◌≤◌, ◌<◌}
use native.Mathlib.Omega.{arith}
use lib.ListN.{length, get_or, take, drop, set, length-append, take-append-drop}
use lib.Seq.{drop-cons, drop-drop, drop-append-add, drop-append-le, set_at, take_at, length-take-le}
use Rattle.rules.specs.AnswerNumbers.{Lent, sound, unsound, Reply}
use Rattle.rules.specs.Frames.{Operation, line_feed, reply_bytes, line_of_bytes, answer_line, answer_or23}
use Rattle.rules.proofs.FrameBytes.{line-length}
use Rattle.room.specs.Room.{SoundRoom}
use Rattle.soundness.specs.Facts.{Decides}
use Rattle.answer_bytes.specs.Writing.{WritesReply}
use Rattle.frames.specs.Answering.{IsLent, Known, AnswersOperation}
use Rattle.lines.specs.Batching.{AnswersLine}

-- what the check finds is what is known of the memory
pub found : (known : Bool) {memory : List ℕ} → Decides (SoundRoom memory) known → Known known memory
found true check = check.holds refl
found false check = λ L is_room. check.fails refl record { ledger = L; is_room = is_room }

-- memory of which it is known whether it is a sound ledger's room is one of the two that can be lent
pub record SomeLent (memory : List ℕ) : Type 0 where
  pub lent : Lent
  pub is_lent : IsLent memory lent

pub some-lent : (known : Bool) {memory : List ℕ} → Known known memory → SomeLent memory
some-lent true found = record { lent = sound found.ledger; is_lent = found.is_room }
some-lent false found = record { lent = unsound; is_lent = found }

-- ── the line ───────────────────────────────────────────────────────────────────────────────────

module _ (before : List ℕ) (size : ℕ) (room : size + size < length before) where
  pub fed : {after : List ℕ} → after ≡ line_of_bytes (take size before) ++ drop (size + size) before
      → set after (size + size) line_feed ≡ line_of_bytes (take size before) ++ (line_feed ∷ drop (size + size + 1) before)
  fed is =
      let line = line_of_bytes (take size before) in
      let next : suc (size + size) ≡ size + size + 1 = omega arith in
      ap (λ xs. set xs (size + size) line_feed) (is ∙ ap (λ xs. line ++ xs) (drop-cons before (size + size) 0 room))
      ∙ set_at line (get_or before (size + size) 0) (drop (suc (size + size)) before) line_feed (size + size) (omega (arith, line-length (take size before), length-take-le size before (omega arith)))
      ∙ ap (λ n. line ++ (line_feed ∷ drop n before)) next

module _ {o : Option Operation} {l : Lent} {before after output written finished : List ℕ} {size end : ℕ} where
  -- what is spelled is the reply that was written, and nothing past its line has changed
  pub line-written : end ≡ size + size + 1 → finished ≡ line_of_bytes (take size written) ++ (line_feed ∷ drop end written)
      → AnswersOperation o l before after output written size → AnswersLine o l before after output finished end
  unfolding answer_line
  line-written ends is answers =
      let bytes = reply_bytes (answer_or23 l o).reply in
      let long : length bytes ≡ size = sym answers.writes.size in
      let twice : end ≡ length bytes + (size + 1) = omega arith in
      let past : length bytes + (size + 1) ≡ end = omega arith in
      let front : take size written ≡ bytes = ap (take size) answers.writes.output ∙ take_at bytes (drop (length bytes) output) size long in
      let behind : drop end written ≡ drop end output =
      ap (λ n. drop n written) twice
      ∙ ap (drop (length bytes + (size + 1))) answers.writes.output
      ∙ drop-append-add bytes (drop (length bytes) output) (size + 1)
      ∙ drop-drop (size + 1) (length bytes) output
      ∙ ap (λ n. drop n output) past in
      record {
        size = omega (arith, line-length bytes, long, ends);
        output = is ∙ ap (λ xs. line_of_bytes xs ++ (line_feed ∷ drop end written)) front ∙ ap (λ xs. line_of_bytes bytes ++ (line_feed ∷ xs)) behind;
        lent = answers.lent;
        untouched = answers.untouched;
      }

-- ── an answer written into the output's front ──────────────────────────────────────────────────

module _ (output : List ℕ) (needed : ℕ) {answer : Reply} {part : List ℕ} {size : ℕ} (kept : length part ≡ length (take needed output)) (fits : needed ≤ length output) where
  -- the part keeps its length, so the answer is no longer than it
  pub within : WritesReply answer (take needed output) part size → size ≤ needed
  within writes =
      omega (arith, kept, writes.size, ap length writes.output, length-take-le needed output fits, length-append (reply_bytes answer) (drop (length (reply_bytes answer)) (take needed output)))

  pub put_back : WritesReply answer (take needed output) part size → WritesReply answer output (part ++ drop needed output) size
  put_back writes =
      let bytes = reply_bytes answer in
      let short : length bytes ≤ length (take needed output) = omega (arith, within writes, writes.size, length-take-le needed output fits) in
      record {
        size = writes.size;
        output =
            ap (λ xs. xs ++ drop needed output) writes.output
            ∙ append_assoc bytes (drop (length bytes) (take needed output)) (drop needed output)
            ∙ ap (λ xs. bytes ++ xs) (sym (drop-append-le (length bytes) (take needed output) (drop needed output) short) ∙ ap (drop (length bytes)) (take-append-drop needed output));
      }
